use Rattle.std.proofs.Common.{◌≡◌, ◌∙◌, true}
use Rattle.script_kit.specs.Numbers.{is_numeral}
use Rattle.script_kit.proofs.NumberLemmas.{parsed_number}
use Rattle.script_kit.proofs.numbers.u32_of.Goals as goal

pub returns-then-is_numeral : goal.returns-then-is_numeral
returns-then-is_numeral c =
    let is : is_numeral c.args.word.now ≡ true = cc in
    c.ok.ensures.value ∙ parsed_number 32 c.args.word.now c.parse.result c.parse.ensures.value.0 is
