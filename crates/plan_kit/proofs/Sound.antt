-- What holds where no refusal fits.
use Rattle.std.proofs.Common.{◌≡◌, List, Bool, true, false, not, None, position, refl}
use Rattle.std.specs.List.{list_all}
use Rattle.attr_kit.proofs.Firsts.{none_of, map_none}
use Rattle.attr_kit.proofs.Places.{nowhere}
use Rattle.plan_kit.specs.declared.fault.PlanFault.TheVariants as faults
use Rattle.plan_kit.specs.declared.instrument.Instrument.{Instrument}
use Rattle.plan_kit.specs.declared.view.View.{View}
use Rattle.plan_kit.specs.Aggregations.{has_bad_bounds}
use Rattle.plan_kit.specs.PlanFaults.{own_faults, own_fault}

negated : (b : Bool) → b ≡ false → not b ≡ true
negated false e = refl
negated true e = cc

pub good_bounds : (is : List Instrument) (views : List View) → own_fault is views ≡ None → list_all (λ v. not (has_bad_bounds v.aggregation)) views ≡ true
unfolding own_fault
good_bounds is views e = nowhere (λ v. has_bad_bounds v.aggregation) (λ v. not (has_bad_bounds v.aggregation)) (λ v. negated (has_bad_bounds v.aggregation)) views (map_none (λ v. faults.BadBounds v) (position (λ v. has_bad_bounds v.aggregation) views) (none_of (own_faults is views) e).1.1.0)
