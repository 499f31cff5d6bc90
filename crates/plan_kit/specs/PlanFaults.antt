-- Why instruments and views make no plan.
use Rattle.std.specs.Prelude.{ℕ, ◌==◌, List, [], ◌∷◌, not, Option, map, position}
use Rattle.std.specs.Option.{option_map}
use Rattle.attr_kit.specs.Refusing.{first, when, wherever, within}
use Rattle.plan_kit.specs.declared.fault.PlanFault.{PlanFault}
use Rattle.plan_kit.specs.declared.fault.PlanFault.TheVariants as faults
use Rattle.plan_kit.specs.declared.instrument.Instrument.{Instrument}
use Rattle.plan_kit.specs.declared.view.View.{View}
use Rattle.plan_kit.specs.Aggregations.{has_bad_bounds}
use Rattle.plan_kit.specs.Feeds.{wanted_of}
use Rattle.plan_kit.specs.Names.{is_name, is_unit}
use Rattle.plan_kit.specs.SameStream.{clash_of}
use Rattle.plan_kit.specs.Views.{with_name_lowered, is_bad_rename, is_wild_rename, is_bad_view}

-- the least instrument that a view matches whose aggregation does not fit its kind, and the least such view
abbrev pub misfit_of : List View → List Instrument → Option (ℕ × ℕ)
misfit_of views is = within (λ i. position (is_bad_view i) views) is

-- the refusals of instruments and views by themselves, in the order of their numbers, each at its least place
abbrev pub own_faults : List Instrument → List View → List (Option PlanFault)
own_faults is views =
    (wherever (λ i. faults.BadName i) (λ i. not (is_name i.name)) is
    ∷ wherever (λ i. faults.BadUnit i) (λ i. not (is_unit i.unit)) is
    ∷ wherever (λ v. faults.BadBounds v) (λ v. has_bad_bounds v.aggregation) views
    ∷ wherever (λ v. faults.BadRename v) (λ v. is_bad_rename v.rename) views
    ∷ wherever (λ v. faults.WildcardRename v) (λ v. is_wild_rename v.name v.rename) views
    ∷ [])

unfoldable pub own_fault : List Instrument → List View → Option PlanFault
own_fault is views = first (own_faults is views)

-- the refusals of views on the lowered instruments that they match, of streams, and of the limit
unfoldable pub joint_fault : List Instrument → List View → ℕ → Option PlanFault
joint_fault named views limit = first
    (option_map (λ p. faults.BadAggregation p.0 p.1) (misfit_of views named)
    ∷ option_map (λ p. faults.SameStream p.0 p.1) (clash_of (wanted_of views named))
    ∷ when (limit == 0) faults.BadLimit
    ∷ [])

-- the first refusal that fits
unfoldable pub plan_fault : List Instrument → List View → ℕ → Option PlanFault
plan_fault is views limit = first (own_fault is views ∷ joint_fault (map with_name_lowered is) views limit ∷ [])
