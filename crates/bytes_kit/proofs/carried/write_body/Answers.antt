use Rattle.std.proofs.Common.{ap, subst, sym, ◌∙◌, length}
use Rattle.std.proofs.lemmas.Result.{on_ok_weaker}
use Rattle.std.specs.FinMap.{len-entries}
use Rattle.bytes_kit.specs.MessageFits.{IsListed}
use Rattle.bytes_kit.proofs.Carrying.{whole_fits, delta_fits}
use Rattle.bytes_kit.proofs.carried.write_body.Goals as goal

pub write_cells-requires : goal.write_cells-requires
write_cells-requires c = c.len.ensures.value ∙ len-entries c.in-Whole.cells.points ∙ ap length (sym c.points.ensures.value)

pub write_cells-requires-in-Delta : goal.write_cells-requires-in-Delta
write_cells-requires-in-Delta c = c.len-in-Delta.ensures.value ∙ len-entries c.in-Delta.cells.points ∙ ap length (sym c.points-in-Delta.ensures.value)

pub returns-in_ok-push-in-Whole-clause-value : goal.returns-in_ok-push-in-Whole-clause-value
returns-in_ok-push-in-Whole-clause-value c =
    on_ok_weaker c.write_cells.result (λ h. whole_fits c.args.body.now c.in-Whole.cells c.in-Whole.is (subst IsListed c.points.ensures.value h)) c.write_cells.ensures.value

pub returns-in_ok-write-in-Delta-clause-value : goal.returns-in_ok-write-in-Delta-clause-value
returns-in_ok-write-in-Delta-clause-value c =
    on_ok_weaker c.write_cells-in-Delta.result (λ h. delta_fits c.args.body.now c.in-Delta.number c.in-Delta.cells c.in-Delta.is c.in_ok-write-in-Delta.ensures.value (subst IsListed c.points-in-Delta.ensures.value h)) c.write_cells-in-Delta.ensures.value
