-- Which plans lie beside archives.
use Rattle.std.specs.Prelude.{ℕ, Bool, List, [], ◌∷◌, Option}
use Rattle.std.specs.Option.{option_map}
use Rattle.std.specs.Str.{bytes_eq}
use Rattle.attr_kit.specs.Refusing.{first, wherever}
use Rattle.plan_kit.specs.PlanFaults.{plan_fault}
use Rattle.plan_kit.specs.declared.instrument.Instrument.{Instrument}
use Rattle.plan_kit.specs.declared.view.View.{View}
use Rattle.archive_kit.specs.Tombstones.{tombstones}
use Rattle.archive_kit.specs.declared.plan_refusal.PlanRefusal.{PlanRefusal}
use Rattle.archive_kit.specs.declared.plan_refusal.PlanRefusal.TheVariants as refusals

-- an instrument in the scope of tombstones
abbrev pub is_reserved : Instrument → Bool
is_reserved i = bytes_eq i.scope tombstones.scope

-- why instruments and views make no plan beside archives
abbrev pub plan_refusal : List Instrument → List View → ℕ → Option PlanRefusal
plan_refusal is views limit = first
    (option_map (λ f. refusals.Plan f) (plan_fault is views limit)
    ∷ wherever (λ i. refusals.ReservedScope i) is_reserved is
    ∷ [])
