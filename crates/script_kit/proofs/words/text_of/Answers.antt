use Rattle.std.proofs.Common.{rules, arith}
use Rattle.std.proofs.lemmas.Grind.{common_steps}
use Rattle.script_kit.proofs.WordLemmas.{line_is_utf8}
use Rattle.script_kit.proofs.words.text_of.Goals as goal

pub returns-then-is_line : goal.returns-then-is_line
returns-then-is_line c = let fits = line_is_utf8 c.args.line.now (search rules) in grind (arith, common_steps)
