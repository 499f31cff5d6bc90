use Rattle.std.proofs.Common.{◌<◌, not, length, refl, ap, ◌∙◌, rules}
use Rattle.std.specs.FinMap.{retain_keys}
use Rattle.gateway_kit.specs.Queries.{is_of_other_stream}
use Rattle.point_kit.specs.declared.stream.Stream.{Stream}
use Rattle.archive_kit.specs.Tombstones.{is_tombstone}
use Rattle.archive_kit.proofs.Left.{left_all, left_more, none_goes}
use Rattle.archive_kit.proofs.dropping.forget_all.Goals as goal

pub loop-incarnation-init : goal.loop-incarnation-init
loop-incarnation-init c = record {
  id = refl;
  points = left_all c.args.node.now.gateway.points _ (λ q. none_goes (is_tombstone q));
  numbers = left_all c.args.node.now.gateway.numbers _ (λ q. none_goes (is_tombstone q));
  change = refl;
  acked = refl;
}

pub loop-incarnation-preserved : goal.loop-incarnation-preserved
loop-incarnation-preserved c =
    let there : c.loop-incarnation.incarnation-index < length c.args.gone.now = search rules in
    let before = c.loop-incarnation.invariant in
    let g = c.incarnation-item.result in
    let now = c.loop-incarnation.node.gateway in
    record {
      id = c.forget_but.ensures.id ∙ before.id;
      points = left_more c.args.node.now.gateway.points now.points c.forget_but.new.self.gateway.points c.args.gone.now c.loop-incarnation.incarnation-index
          g there c.incarnation-item.is before.points
          (c.forget_but.ensures.value ∙ ap (λ (s : Stream). retain_keys now.points (λ k. not (is_of_other_stream g.writer g.start s k))) c.requires);
      numbers = left_more c.args.node.now.gateway.numbers now.numbers c.forget_but.new.self.gateway.numbers c.args.gone.now c.loop-incarnation.incarnation-index
          g there c.incarnation-item.is before.numbers
          (c.forget_but.ensures.numbers ∙ ap (λ (s : Stream). retain_keys now.numbers (λ k. not (is_of_other_stream g.writer g.start s k))) c.requires);
      change = c.forget_but.ensures.change ∙ before.change;
      acked = c.forget_but.ensures.acked ∙ before.acked;
    }
