use Rattle.rollup_kit.proofs.Indexed.{empty_indexed}
use Rattle.rollup_kit.proofs.kept_rows.KeptRows.new.Goals as goal

pub invariant_of-result : goal.invariant_of-result
invariant_of-result c = empty_indexed c.new.result.items c.new-2.result.entries c.new-3.result.entries c.new.ensures.items c.new-2.ensures.empty c.new-3.ensures.empty
