use Rattle.std.proofs.Common.{◌++◌}
use Rattle.gateway_kit.specs.Walks.{points_left}
use Rattle.bytes_kit.specs.Format.{varint}
use Rattle.bytes_kit.specs.KeyForms.{key_before}
use Rattle.bytes_kit.proofs.Behind.{lent_more, lent_written, lent_earlier, last_lent, all_lent}
use Rattle.bytes_kit.proofs.cells.write_cells.Goals as goal

pub loop-point-preserved : goal.loop-point-preserved
loop-point-preserved c = (
  tt,
  tt,
  lent_more (points_left c.args.points) c.loop-point.yielded c.in-Some.point (points_left c.loop-point.point-iterator) (points_left c.next.new.self) c.loop-point.invariant.2 c.in-Some.ensures.steps,
  lent_written (c.args.out.now.items ++ varint c.args.count) c.loop-point.out.items c.write_entry.new.out.items c.loop-point.yielded c.in-Some.point (c.loop-point.history, key_before c.loop-point.before) c.loop-point.invariant.3 c.in_ok-write_entry.ensures.written c.loop-point.invariant.5,
  last_lent c.loop-point.yielded c.in-Some.point,
  lent_earlier c.write_entry.new.history c.loop-point.yielded c.in-Some.point (c.loop-point.history, key_before c.loop-point.before) c.in_ok-write_entry.ensures.history c.loop-point.invariant.5,
  all_lent c.loop-point.yielded c.in-Some.point (key_before c.loop-point.before) c.loop-point.invariant.4 c.loop-point.invariant.6 c.in_ok-write_entry.ensures.key c.in_ok-write_entry.ensures.cell,
)
