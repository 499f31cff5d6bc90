use Rattle.std.proofs.Common.{◌+◌, take, refl, ap, ◌∙◌}
use Rattle.std.specs.List.{sum_by}
use Rattle.gateway_kit.specs.Walks.{keyed_cell_of_ref}
use Rattle.page_kit.specs.Bounds.{bounds_in, buckets_in, count_up_to, within_room, values_up_to}
use Rattle.page_kit.proofs.Folded.{folded_all}
use Rattle.page_kit.proofs.bounds.values_up_to.Goals as goal

pub returns : goal.returns
unfolding values_up_to
returns c =
    let bound = c.args.bound.now in
    c.loop-point.invariant
    ∙ ap within_room (folded_all (λ total e. total + count_up_to bound (bounds_in e) (buckets_in e.1.held)) 0 c.args.points.now c.loop-point.point-index
    (sum_by (λ p. count_up_to bound (bounds_in (keyed_cell_of_ref p)) (buckets_in p.cell.now.held)) (take c.loop-point.point-index c.args.points.now)) c.loop-point-test.false refl)
