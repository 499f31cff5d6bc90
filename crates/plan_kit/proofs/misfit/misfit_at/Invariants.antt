use Rattle.std.proofs.Common.{◌≡◌, ◌<◌, ℕ, None, Some, drop, position, slice_get}
use Rattle.attr_kit.specs.Refusing.{within, within_from}
use Rattle.plan_kit.specs.declared.instrument.Instrument.{Instrument}
use Rattle.plan_kit.specs.Views.{is_bad_view}
use Rattle.plan_kit.proofs.misfit.misfit_at.Given as goal

abbrev pub invariant-loop-place : goal.invariant-loop-place
invariant-loop-place l = record {
  so : within (λ i. position (is_bad_view i) l.views) l.instruments ≡ within_from (λ i. position (is_bad_view i) l.views) l.place (drop l.place l.instruments);
  none : (k : ℕ) (x : Instrument) → k < l.place → slice_get l.instruments k ≡ Some x → position (is_bad_view x) l.views ≡ None;
}
