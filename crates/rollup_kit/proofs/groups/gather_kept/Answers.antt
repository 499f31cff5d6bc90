use Rattle.gateway_kit.specs.Walks.{keyed_cell_of_ref}
use Rattle.rollup_kit.proofs.Walked.{room_next, stands_next}
use Rattle.rollup_kit.proofs.groups.gather_kept.Goals as goal

pub add_kept_point-requires-clause-room : goal.add_kept_point-requires-clause-room
add_kept_point-requires-clause-room c =
    room_next keyed_cell_of_ref c.args.ask.now c.args.buckets _ c.loop-point.yielded c.in-Some.point _ _ _ c.loop-point.invariant.2 c.in-Some.ensures.steps c.loop-point.invariant.3 c.requires.few

pub loop-point-preserved : goal.loop-point-preserved
loop-point-preserved c =
    let next = stands_next keyed_cell_of_ref c.args.ask.now c.args.buckets _ c.loop-point.yielded c.in-Some.point _ _ _ c.loop-point.invariant.2 c.in-Some.ensures.steps c.loop-point.invariant.3
    c.add_kept_point.new.rows c.requires.sorted c.in_ok-add_kept_point.ensures in
    (tt, tt, next.0, next.1)
