use Rattle.std.proofs.Common.{rules, append_assoc}
use Rattle.rollup_kit.specs.TableText.{line}
use Rattle.rollup_kit.proofs.table_text.push_line.Goals as goal

pub returns : goal.returns
unfolding line
returns c = search (rules, append_assoc)
