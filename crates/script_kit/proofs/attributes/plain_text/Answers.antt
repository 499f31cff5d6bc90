use Rattle.std.proofs.Common.{◌≡◌, ◌≢◌, List, ℕ, ◌∷◌, lit<, sym, refl}
use Rattle.std.proofs.lemmas.Str.Pattern.{strip_prefix_char}
use Rattle.script_kit.proofs.ListLemmas.{plain_whole}
use Rattle.script_kit.proofs.attributes.plain_text.Goals as goal

pub returns-in-Some : goal.returns-in-Some
returns-in-Some c =
    let word : c.args.word.now ≡ 39 ∷ c.in-Some.text.now = rw c.in-Some.is at (strip_prefix_char 39 c.args.word.now c.strip_prefix.result c.strip_prefix.ensures.cases (lit< tt)) in
    rw word refl

pub returns-in-None : goal.returns-in-None
returns-in-None c =
    let plain : (rest : List ℕ) → c.args.word.now ≢ 39 ∷ rest = rw c.in-None.is at (strip_prefix_char 39 c.args.word.now c.strip_prefix.result c.strip_prefix.ensures.cases (lit< tt)) in
    sym (plain_whole c.args.word.now plain)
