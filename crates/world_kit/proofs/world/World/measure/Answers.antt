use Rattle.std.proofs.Common.{◌≡◌, slice_get, subst, Some, None, refl, sym, ap, ◌∙◌, arith, rules}
use Rattle.std.proofs.Math.ListN.{set}
use Rattle.std.proofs.lemmas.Grind.{common_steps}
use Rattle.std.proofs.lemmas.Int.{to_z-of_z}
use Rattle.std.proofs.lemmas.List.{set-get_or}
use Rattle.std.specs.Int.{w64}
use Rattle.std.specs.Prelude.{FitsSigned}
use Rattle.world_kit.proofs.Places.{stands_at}
use Rattle.world_kit.proofs.Replies.{left_as, seen_as, same_as, wants_as}
use Rattle.world_kit.proofs.WriterEvents.{measure_nowhere, measure_refused, measure_wants, measures, with_writers}
use Rattle.world_kit.specs.contracts.world.World as world
use Rattle.agg_kit.specs.declared.fault.TallyFault.TheVariants.{NoHeld, NoInstrument, Negative, Overflow, NoMemory}
use Rattle.world_kit.specs.declared.event.Refusal.{Refusal}
use Rattle.agg_kit.specs.Entries.{entry_of}
use Rattle.world_kit.specs.Told.{measure_refusal}
use Rattle.world_kit.specs.Wanting.{HasPoints}
use Rattle.world_kit.specs.WorldState.{WorldState}
use Rattle.writer_kit.specs.declared.fault.MeasureFault.{MeasureFault}
use Rattle.writer_kit.specs.declared.fault.MeasureFault.TheVariants.{Closed, Refused}
use Rattle.world_kit.proofs.world.World.measure.Goals as goal

not_memory : (f : MeasureFault) (r : Refusal) → measure_refusal f ≡ Some r → f ≡ Refused NoMemory → ⊥
not_memory f r told same = let none : None ≡ Some r = sym (ap measure_refusal same) ∙ told in cc none

pub returns-then-writer-len-clause-ok : goal.returns-then-writer-len-clause-ok
returns-then-writer-len-clause-ok c = left_as _ _ _ _ c.self.view_is (measure_nowhere _ c.args.writer c.args.instrument c.args.attrs.now c.args.value (grind (arith, common_steps)))

pub returns-in-Err-clause-ok : goal.returns-in-Err-clause-ok
returns-in-Err-clause-ok c =
    let w = world.the_view c.self.inside in
    let x = c.index_mut.result.now in
    let at_v = stands_at c.self.inside.writers.items c.args.writer x (grind (arith, common_steps)) c.index_mut.ensures.value in
    let its = c.in-Err.ensures in
    let r = c.in_ok-told_measure.field-0 in
    let told = c.in_ok-told_measure.ensures.value in
    let fits : FitsSigned w64 c.args.value = search rules in
    let refuses = simp to_z-of_z at (its.err (not_memory c.in-Err.fault r told)) in
    let writers = c.self.inside.writers.items in
    let kept : set writers c.args.writer c.measure.new.self ≡ writers = ap (set writers c.args.writer) (its.unchanged ∙ c.index_mut.ensures.value) ∙ set-get_or writers c.args.writer x in
    same_as _ _ _ w _ c.self.view_is (ap (with_writers w) kept)
    (measure_refused w c.args.writer x at_v c.args.instrument c.args.attrs.now c.args.value c.in-Err.fault r refuses told)

pub returns-clause-ok : goal.returns-clause-ok
returns-clause-ok c =
    let w = world.the_view c.self.inside in
    let x = c.index_mut.result.now in
    let at_v = stands_at c.self.inside.writers.items c.args.writer x (grind (arith, common_steps)) c.index_mut.ensures.value in
    let its = c.in_default.ensures in
    let fits : FitsSigned w64 c.args.value = search rules in
    let accepts = simp to_z-of_z at its.ok in
    let same = simp to_z-of_z at its.value in
    seen_as _ _ _ _ _ c.self.view_is (measures w c.args.writer x at_v c.measure.new.self c.args.instrument c.args.attrs.now c.args.value accepts same)

-- what is no refusal is want of memory
memory_of : (f : MeasureFault) → measure_refusal f ≡ None → f ≡ Refused NoMemory
memory_of Closed none = cc
memory_of (Refused NoHeld) none = cc
memory_of (Refused NoInstrument) none = cc
memory_of (Refused Negative) none = cc
memory_of (Refused (Overflow s)) none = cc
memory_of (Refused NoMemory) none = refl

pub returns-in_err-told_measure-clause-no_memory : goal.returns-in_err-told_measure-clause-no_memory
returns-in_err-told_measure-clause-no_memory c =
    let x = c.index_mut.result.now in
    let at_v = stands_at c.self.inside.writers.items c.args.writer x (grind (arith, common_steps)) c.index_mut.ensures.value in
    let its = c.in-Err.ensures in
    let memory = memory_of c.in-Err.fault c.in_err-told_measure.ensures.no_memory in
    let fits : FitsSigned w64 c.args.value = search rules in
    let early = simp to_z-of_z at (its.no_memory memory) in
    wants_as _ _ _ _ c.self.view_is (measure_wants (world.the_view c.self.inside) c.args.writer x at_v c.args.instrument c.args.attrs.now c.args.value early)

pub returns-in_err-told_measure-clause-held : goal.returns-in_err-told_measure-clause-held
returns-in_err-told_measure-clause-held c = λ held.
    let x = c.index_mut.result.now in
    let at_v = stands_at c.self.inside.writers.items c.args.writer x (grind (arith, common_steps)) c.index_mut.ensures.value in
    let at_w : slice_get c.args.self.now.writers c.args.writer ≡ Some x = ap (λ (w : WorldState). slice_get w.writers c.args.writer) (sym c.self.view_is) ∙ at_v in
    absurd (c.in-Err.ensures.held (subst (HasPoints (entry_of c.args.instrument c.args.attrs.now c.args.value)) at_w held) (memory_of c.in-Err.fault c.in_err-told_measure.ensures.no_memory))
