-- How a script begins, from its parts.
use Rattle.std.proofs.Common.{◌≡◌, ℕ, List, [], map, Some, None, refl, sym, ap, ◌∙◌, subst}
use Rattle.std.specs.Option.{option_map}
use Rattle.plan_kit.specs.declared.instrument.Instrument.{Instrument}
use Rattle.plan_kit.specs.declared.view.View.{View}
use Rattle.plan_kit.specs.Feeds.{plan_of}
use Rattle.plan_kit.specs.PlanFaults.{plan_fault}
use Rattle.plan_kit.specs.Plans.{Planned}
use Rattle.point_kit.specs.declared.writer_id.WriterId.{WriterId}
use Rattle.world_kit.specs.Building.{setup_fault}
use Rattle.world_kit.specs.WorldState.{WorldState}
use Rattle.world_kit.specs.Stands.{Stands}
use Rattle.world_kit.specs.declared.setup.Setup.{Setup}
use Rattle.world_kit.specs.declared.setup.WriterSetup.{WriterSetup}
use Rattle.otm_kit.specs.Begin.{begin_fault, limit_of, setup_of, with_plan}
use Rattle.otm_kit.specs.Declarations.{Declared}
use Rattle.otm_kit.specs.Events.{deeds_of_commands}
use Rattle.otm_kit.specs.declared.begin.BeginFault.{BeginFault}
use Rattle.otm_kit.specs.declared.begin.BeginFault.TheVariants as faults

-- arguments that are those of what was declared
pub record AreOf (d : Declared) (is : List Instrument) (vs : List View) (limit : ℕ) : Type 0 where
  pub instruments : is ≡ d.instruments
  pub views : vs ≡ d.views
  pub limited : limit ≡ limit_of d

-- those of a draft's parts are those of what it declares
pub are_of : (d parts : Declared) (is : List Instrument) (vs : List View) (limit : ℕ) → parts ≡ d
    → is ≡ parts.instruments → vs ≡ parts.views → limit ≡ limit_of parts → AreOf d is vs limit
are_of d parts is vs limit same i v l = record {
  instruments = i ∙ ap (λ (p : Declared). p.instruments) same;
  views = v ∙ ap (λ (p : Declared). p.views) same;
  limited = l ∙ ap limit_of same;
}

fault_is : (d : Declared) (is : List Instrument) (vs : List View) (limit : ℕ) → AreOf d is vs limit → plan_fault is vs limit ≡ plan_fault d.instruments d.views (limit_of d)
fault_is d is vs limit a = λ i. plan_fault (a.instruments i) (a.views i) (a.limited i)

pub begin_from_plan : (d : Declared) (is : List Instrument) (vs : List View) (limit : ℕ) (fault : BeginFault) → AreOf d is vs limit → option_map (λ f. faults.Plan f) (plan_fault is vs limit) ≡ Some fault → begin_fault d ≡ Some fault
unfolding begin_fault
begin_from_plan d is vs limit fault a e =
    let here : option_map (λ f. faults.Plan f) (plan_fault d.instruments d.views (limit_of d)) ≡ Some fault = ap (option_map (λ f. faults.Plan f)) (sym (fault_is d is vs limit a)) ∙ e in
    rw here refl

pub setup_is : (d : Declared) (is : List Instrument) (vs : List View) (limit : ℕ) (plan : Planned) (ws : List (WriterId × ℕ)) (setups : List WriterSetup) (gateways : List ℕ) → AreOf d is vs limit → plan ≡ plan_of is vs limit → setups ≡ map (with_plan plan) ws → ws ≡ d.writers → gateways ≡ d.gateways
    → record { writers = setups; gateways = gateways } ≡ setup_of d
unfolding setup_of
setup_is d is vs limit plan ws setups gateways a p s w g =
    let made : plan ≡ plan_of d.instruments d.views (limit_of d) = p ∙ (λ i. plan_of (a.instruments i) (a.views i) (a.limited i)) in
    let all : setups ≡ map (with_plan (plan_of d.instruments d.views (limit_of d))) d.writers = s ∙ (λ i. map (with_plan (made i)) (w i)) in
    λ i. record { writers = all i; gateways = g i }

pub begin_from_world : (d : Declared) (is : List Instrument) (vs : List View) (limit : ℕ) (setup : Setup) (fault : BeginFault) → AreOf d is vs limit → plan_fault is vs limit ≡ None → setup ≡ setup_of d → option_map (λ f. faults.World f) (setup_fault setup) ≡ Some fault → begin_fault d ≡ Some fault
unfolding begin_fault
begin_from_world d is vs limit setup fault a none same e =
    let sound : plan_fault d.instruments d.views (limit_of d) ≡ None = sym (fault_is d is vs limit a) ∙ none in
    let here : option_map (λ f. faults.World f) (setup_fault (setup_of d)) ≡ Some fault = ap (λ x. option_map (λ f. faults.World f) (setup_fault x)) (sym same) ∙ e in
    rw (sound, here) refl

pub begin_sound : (d : Declared) (is : List Instrument) (vs : List View) (limit : ℕ) (setup : Setup) → AreOf d is vs limit → plan_fault is vs limit ≡ None → setup ≡ setup_of d → setup_fault setup ≡ None → begin_fault d ≡ None
unfolding begin_fault
begin_sound d is vs limit setup a none same e =
    let sound : plan_fault d.instruments d.views (limit_of d) ≡ None = sym (fault_is d is vs limit a) ∙ none in
    let here : setup_fault (setup_of d) ≡ None = ap setup_fault (sym same) ∙ e in
    rw (sound, here) refl

pub stands_first : (d : Declared) (setup : Setup) (world : WorldState) → setup ≡ setup_of d → Stands setup [] world → Stands (setup_of d) (deeds_of_commands d []) world
unfolding deeds_of_commands
stands_first d setup world same s = subst (λ (x : Setup). Stands x [] world) same s
