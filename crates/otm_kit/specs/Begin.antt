-- How a script begins.
use Rattle.std.specs.Prelude.{ℕ, List, [], ◌∷◌, map, Option, unwrap_or}
use Rattle.std.specs.Option.{option_map}
use Rattle.attr_kit.specs.Refusing.{first}
use Rattle.plan_kit.specs.Feeds.{plan_of}
use Rattle.plan_kit.specs.PlanFaults.{plan_fault}
use Rattle.plan_kit.specs.Plans.{Planned}
use Rattle.plan_kit.specs.declared.instrument.Instrument.{Instrument}
use Rattle.plan_kit.specs.declared.view.View.{View}
use Rattle.point_kit.specs.declared.writer_id.WriterId.{WriterId}
use Rattle.world_kit.specs.Building.{setup_fault}
use Rattle.world_kit.specs.declared.setup.Setup.{Setup}
use Rattle.world_kit.specs.declared.setup.WriterSetup.{WriterSetup}
use Rattle.otm_kit.specs.Declarations.{Declared}
use Rattle.otm_kit.specs.declared.begin.BeginFault.{BeginFault}
use Rattle.otm_kit.specs.declared.begin.BeginFault.TheVariants as faults

-- the limit that is declared, or 2000
abbrev pub limit_of : Declared → ℕ
limit_of d = unwrap_or d.limit 2000

-- a writer with the one plan
abbrev pub with_plan : Planned → WriterId × ℕ → WriterSetup
with_plan plan w = record { id = w.0; plan = plan; start = w.1 }

-- the writers of a script, all with the plan of its instruments and views, and its gateways
unfoldable pub setup_of : Declared → Setup
setup_of d = record { writers = map (with_plan (plan_of d.instruments d.views (limit_of d))) d.writers; gateways = d.gateways }

-- what is wrong with a plan of these, as what is wrong with a script
abbrev pub plan_refusal : List Instrument → List View → ℕ → Option BeginFault
plan_refusal instruments views limit = option_map (λ f. faults.Plan f) (plan_fault instruments views limit)

-- what is wrong with a world, as what is wrong with a script
abbrev pub world_refusal : Setup → Option BeginFault
world_refusal setup = option_map (λ f. faults.World f) (setup_fault setup)

-- why a script does not begin: first the refusals of its plan, then those of its world
unfoldable pub begin_fault : Declared → Option BeginFault
begin_fault d = first (plan_refusal d.instruments d.views (limit_of d) ∷ world_refusal (setup_of d) ∷ [])
