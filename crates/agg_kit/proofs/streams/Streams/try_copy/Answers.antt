use Rattle.std.proofs.Common.{◌∙◌, sym, subst}
use Rattle.plan_kit.specs.Plans.{Planned}
use Rattle.agg_kit.specs.Feeds.{entries_of}
use Rattle.agg_kit.specs.Kept.{AreLone}
use Rattle.agg_kit.specs.Sound.{AllSound}
use Rattle.agg_kit.proofs.streams.Streams.try_copy.Goals as goal

pub invariant_of-result : goal.invariant_of-result
invariant_of-result c =
    let p = c.self.inside.plan in
    let ss = entries_of c.in_ok-copy_series.field-0.items in
    record {
      overflow_is = c.in_ok-try_copy-2.ensures.value ∙ c.self.invariant.overflow_is;
      sound = subst (λ (q : Planned). AllSound q.streams ss) (sym c.in_ok-try_copy.ensures.value) (subst (AllSound p.streams) (sym c.in_ok-copy_series.ensures) c.self.invariant.sound);
      lone_is = subst (λ (q : Planned). AreLone q c.in_ok-from_slice.field-0.items) (sym c.in_ok-try_copy.ensures.value) (subst (AreLone p) (sym (c.in_ok-from_slice.ensures.items ∙ c.as_slice.ensures.value)) c.self.invariant.lone_is);
    }
