use Rattle.std.proofs.Common.{◌∙◌, inl, ap, sym, subst}
use Rattle.plan_kit.specs.Plans.{Planned}
use Rattle.agg_kit.specs.Held.{HaveRoom}
use Rattle.agg_kit.proofs.HeldPoints.{plan-restarted}
use Rattle.agg_kit.specs.Measuring.{emptied_tally}
use Rattle.agg_kit.proofs.Records.{on_ok, on_err_map}
use Rattle.agg_kit.proofs.tally.Tally.restart.Goals as goal

pub invariant_of-self : goal.invariant_of-self
invariant_of-self c = (
  λ n h at. inl (c.forget_places.ensures.none n h at),
  subst (λ (p : Planned). HaveRoom p c.forget_places.new.held.items) (sym (plan-restarted c.self.inside.streams c.restart.new.self c.restart.result c.restart.ensures.value c.restart.ensures.unchanged))
      (c.forget_places.ensures.room c.self.inside.streams.plan c.self.invariant.1),
)

pub returns-clause-value : goal.returns-clause-value
returns-clause-value c = on_ok _ _ c.restart.result (λ so. (λ i. record (so i) { held = c.forget_places.ensures.same i }) ∙ ap emptied_tally c.self.view_is) c.restart.ensures.value

pub returns-clause-unchanged : goal.returns-clause-unchanged
returns-clause-unchanged c = on_err_map _ _ c.restart.result (λ so. (λ i. record (so i) { held = c.forget_places.ensures.same i }) ∙ c.self.view_is) c.restart.ensures.unchanged
