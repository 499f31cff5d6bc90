use Rattle.std.proofs.Common.{◌≡◌, Some, None, refl, sym, ap, ◌∙◌, arith}
use Rattle.std.proofs.Math.ListN.{set}
use Rattle.std.proofs.lemmas.Grind.{common_steps}
use Rattle.std.proofs.lemmas.List.{set-get_or}
use Rattle.world_kit.proofs.Places.{stands_at}
use Rattle.world_kit.proofs.Replies.{left_as, seen_as, same_as, wants_as}
use Rattle.world_kit.proofs.WriterEvents.{restart_nowhere, restart_refused, restart_wants, restarts, with_writers}
use Rattle.world_kit.specs.contracts.world.World as world
use Rattle.world_kit.specs.declared.event.Refusal.{Refusal}
use Rattle.world_kit.specs.Told.{restart_refusal}
use Rattle.writer_kit.specs.declared.fault.RestartFault.{RestartFault}
use Rattle.writer_kit.specs.declared.fault.RestartFault.TheVariants.{NoMemory, StartNotAfter}
use Rattle.world_kit.proofs.world.World.restart.Goals as goal

not_memory : (f : RestartFault) (r : Refusal) → restart_refusal f ≡ Some r → f ≡ NoMemory → ⊥
not_memory f r told same = let none : None ≡ Some r = sym (ap restart_refusal same) ∙ told in cc none

pub returns-then-writer-len-clause-ok : goal.returns-then-writer-len-clause-ok
returns-then-writer-len-clause-ok c = left_as _ _ _ _ c.self.view_is (restart_nowhere _ c.args.writer c.args.start (grind (arith, common_steps)))

pub returns-in-Err-clause-ok : goal.returns-in-Err-clause-ok
returns-in-Err-clause-ok c =
    let w = world.the_view c.self.inside in
    let x = c.index_mut.result.now in
    let at_v = stands_at c.self.inside.writers.items c.args.writer x (grind (arith, common_steps)) c.index_mut.ensures.value in
    let r = c.in_ok-told_restart.field-0 in
    let told = c.in_ok-told_restart.ensures.value in
    let its = c.in-Err.ensures in
    let writers = c.self.inside.writers.items in
    let kept : set writers c.args.writer c.restart.new.self ≡ writers = ap (set writers c.args.writer) (its.unchanged ∙ c.index_mut.ensures.value) ∙ set-get_or writers c.args.writer x in
    same_as _ _ _ w _ c.self.view_is (ap (with_writers w) kept)
    (restart_refused w c.args.writer x at_v c.args.start c.in-Err.fault r (its.err (not_memory c.in-Err.fault r told)) told)

pub returns-clause-ok : goal.returns-clause-ok
returns-clause-ok c =
    let w = world.the_view c.self.inside in
    let x = c.index_mut.result.now in
    let at_v = stands_at c.self.inside.writers.items c.args.writer x (grind (arith, common_steps)) c.index_mut.ensures.value in
    seen_as _ _ _ _ _ c.self.view_is (restarts w c.args.writer x at_v c.args.start c.restart.new.self c.in_default.ensures.ok c.in_default.ensures.value)

-- what is no refusal is want of memory
memory_of : (f : RestartFault) → restart_refusal f ≡ None → f ≡ NoMemory
memory_of (StartNotAfter s) none = cc
memory_of NoMemory none = refl

pub returns-in_err-told_restart-clause-no_memory : goal.returns-in_err-told_restart-clause-no_memory
returns-in_err-told_restart-clause-no_memory c =
    let x = c.index_mut.result.now in
    let at_v = stands_at c.self.inside.writers.items c.args.writer x (grind (arith, common_steps)) c.index_mut.ensures.value in
    let memory = memory_of c.in-Err.fault c.in_err-told_restart.ensures.no_memory in
    wants_as _ _ _ _ c.self.view_is (restart_wants (world.the_view c.self.inside) c.args.writer x at_v c.args.start (c.in-Err.ensures.no_memory memory))
