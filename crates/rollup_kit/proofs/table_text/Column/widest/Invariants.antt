use Rattle.std.proofs.Common.{◌≡◌, take}
use Rattle.rollup_kit.specs.TableText.{widest}
use Rattle.rollup_kit.proofs.table_text.Column.widest.Given as goal

abbrev pub invariant-loop-row : goal.invariant-loop-row
invariant-loop-row l = l.most ≡ widest l.self (take l.row-index l.rows)
