use Rattle.std.proofs.Common.{rules}
use Rattle.script_kit.proofs.WordLemmas.{split_at_first, split_at_none}
use Rattle.script_kit.proofs.words.first_line.Goals as goal

pub returns-in-None-clause-none : goal.returns-in-None-clause-none
returns-in-None-clause-none c = split_at_none _ _ (search rules)

pub returns-in-Some-clause-some : goal.returns-in-Some-clause-some
returns-in-Some-clause-some c = rw (c.split_at.ensures.front, c.split_at-in-Some.ensures.back) (split_at_first _ _ _ (search rules))
