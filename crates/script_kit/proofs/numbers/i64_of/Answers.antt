use Rattle.std.proofs.Common.{◌≡◌, ◌≢◌, ◌∙◌, true, false, List, ℕ, ◌∷◌, [], lit<, sym, rules}
use Rattle.std.specs.Str.{bytes_eq}
use Rattle.std.proofs.lemmas.Str.Pattern.{strip_prefix_char}
use Rattle.script_kit.specs.Numbers.{is_numeral}
use Rattle.script_kit.proofs.NumberLemmas.{parsed_plain, no_value, parsed_minus}
use Rattle.script_kit.proofs.numbers.i64_of.Goals as goal

pub returns-then-ne : goal.returns-then-ne
returns-then-ne c =
    let word : c.args.word.now ≡ 45 ∷ c.in-Some.digits.now = rw c.in-Some.is at (strip_prefix_char 45 c.args.word.now c.strip_prefix.result c.strip_prefix.ensures.cases (lit< tt)) in
    let is : is_numeral c.in-Some.digits.now ≡ true = cc in
    let some : bytes_eq c.in-Some.digits.now (48 ∷ []) ≡ false = search rules in
    c.ok.ensures.value ∙ rw word (parsed_minus c.in-Some.digits.now c.parse.result (rw word at c.parse.ensures.value.0) is some)

pub returns-then-is_numeral-2 : goal.returns-then-is_numeral-2
returns-then-is_numeral-2 c =
    let is : is_numeral c.args.word.now ≡ true = cc in
    let plain : (rest : List ℕ) → c.args.word.now ≢ 45 ∷ rest = rw c.in-None.is at (strip_prefix_char 45 c.args.word.now c.strip_prefix.result c.strip_prefix.ensures.cases (lit< tt)) in
    c.ok-then-is_numeral-2.ensures.value ∙ parsed_plain c.args.word.now c.parse-then-is_numeral-2.result c.parse-then-is_numeral-2.ensures.value.0 is plain

pub returns-else-is_numeral-2 : goal.returns-else-is_numeral-2
returns-else-is_numeral-2 c =
    let is : is_numeral c.args.word.now ≡ false = cc in
    let plain : (rest : List ℕ) → c.args.word.now ≢ 45 ∷ rest = rw c.in-None.is at (strip_prefix_char 45 c.args.word.now c.strip_prefix.result c.strip_prefix.ensures.cases (lit< tt)) in
    sym (no_value c.args.word.now is plain)
