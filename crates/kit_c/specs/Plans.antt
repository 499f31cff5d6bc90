-- Instruments, views and plans.
use Rattle.std.specs.Prelude.{ℕ, List, [], ◌∷◌, Option}
use Rattle.std.specs.Option.{option_map}
use Rattle.archive_kit.specs.Planning.{plan_refusal}
use Rattle.archive_kit.specs.declared.plan_refusal.PlanRefusal.{PlanRefusal}
use Rattle.archive_kit.specs.declared.plan_refusal.PlanRefusal.TheVariants as refusals
use Rattle.attr_kit.specs.Refusing.{first}
use Rattle.plan_kit.specs.Plans.{Planned}
use Rattle.plan_kit.specs.declared.instrument.Instrument.{Instrument}
use Rattle.plan_kit.specs.declared.view.View.{View}
use Rattle.kit_c.specs.Calls.{full_fault}
use Rattle.kit_c.specs.Faults.{text_fault}
use Rattle.kit_c.specs.Kinds.{kind_fault, numbered_kind}
use Rattle.kit_c.specs.declared.fault.Fault.{Fault}
use Rattle.kit_c.specs.declared.fault.Fault.TheVariants as faults

-- the instrument of these texts and of the kind of a number
abbrev pub instrument_of : List ℕ → List ℕ → List ℕ → ℕ → Option Instrument
instrument_of scope name unit number
    = option_map (λ kind. record { scope = scope; name = name; unit = unit; kind = kind }) (numbered_kind number)

-- why there is none
abbrev pub instruments_fault : List ℕ → List ℕ → List ℕ → ℕ → Option Fault
instruments_fault scope name unit number = first (kind_fault number ∷ text_fault scope ∷ text_fault name ∷ text_fault unit ∷ [])

-- the refusal of a plan, as a call tells it
abbrev pub planning_refused : PlanRefusal → Fault
planning_refused (refusals.Plan f) = faults.Plan f
planning_refused (refusals.ReservedScope i) = faults.ReservedScope i

-- why instruments and views make no plan
abbrev pub plans_fault : List Instrument → List View → ℕ → Option Fault
plans_fault is vs limit = option_map planning_refused (plan_refusal is vs limit)

-- the same in a handle that is to be filled
abbrev pub planning_fault : Option Planned → List Instrument → List View → ℕ → Option Fault
planning_fault m is vs limit = first (full_fault m ∷ plans_fault is vs limit ∷ [])
