use Rattle.std.proofs.Common.{◌∙◌, inl, sym, ap, subst}
use Rattle.plan_kit.specs.Plans.{Planned}
use Rattle.agg_kit.specs.Held.{HaveRoom}
use Rattle.agg_kit.specs.Tallies.{Tallied}
use Rattle.agg_kit.proofs.tally.Tally.try_copy.Goals as goal

pub invariant_of-result : goal.invariant_of-result
invariant_of-result c =
    let same = c.plan.ensures.value ∙ sym (ap (λ (t : Tallied). t.plan) c.in_ok-try_copy.ensures.value) in (
      λ n h at. inl (c.in_ok-copy_held.ensures.none n h at),
      subst (λ (p : Planned). HaveRoom p c.in_ok-copy_held.field-0.items) same c.in_ok-copy_held.ensures.room,
    )
