use Rattle.std.proofs.Common.{◌≡◌, ℕ, ◌+◌, ◌<◌, List, [], ◌∷◌, ◌++◌, length, subst, sym, ap, ◌∙◌, arith}
use Rattle.std.proofs.Math.ListN.{set}
use Rattle.std.proofs.lemmas.Grind.{common_steps}
use Rattle.world_kit.proofs.Places.{same_at, stands_at}
use Rattle.world_kit.proofs.Replies.{left_as, seen_as, wants_as}
use Rattle.world_kit.proofs.WriterEvents.{collect_nowhere, collect_refused, collect_wants, collects, opened_at, rises_at, with_export}
use Rattle.world_kit.specs.contracts.world.World as world
use Rattle.point_kit.specs.declared.export.Export.{Export}
use Rattle.world_kit.specs.Copying.{Copies, Refuses, IsCopy}
use Rattle.world_kit.specs.declared.event.Reply.TheVariants as reply
use Rattle.world_kit.specs.Stands.{Acts}
use Rattle.world_kit.specs.Told.{collect_event}
use Rattle.writer_kit.specs.Written.{Written}
use Rattle.world_kit.proofs.world.World.collect.Goals as goal

pub returns-then-writer-len-clause-ok : goal.returns-then-writer-len-clause-ok
returns-then-writer-len-clause-ok c = left_as _ _ _ _ c.self.view_is (collect_nowhere _ c.args.writer c.args.time c.args.closing (grind (arith, common_steps)))

pub returns-in-Err-clause-ok : goal.returns-in-Err-clause-ok
returns-in-Err-clause-ok c =
    let w = world.the_view c.self.inside in
    let writers = c.self.inside.writers.items in
    let there : c.args.writer < length writers = grind (arith, common_steps) in
    let x = c.index.result.now in
    let at_v = stands_at writers c.args.writer x there c.index.ensures in
    let refuses : Refuses x c.args.time c.in-Err.refusal = subst (IsCopy x c.args.time) c.in-Err.is c.in_ok-export.ensures.value in
    left_as _ _ _ _ c.self.view_is (collect_refused w c.args.writer x at_v c.args.time c.args.closing c.in-Err.refusal refuses)

pub mark-requires-clause-open : goal.mark-requires-clause-open
mark-requires-clause-open c =
    let writers = c.self.inside.writers.items in
    let there : c.args.writer < length writers = grind (arith, common_steps) in
    let x = c.index.result.now in
    let same = same_at writers c.args.writer c.index_mut.result.now x there c.index_mut.ensures.value c.index.ensures in
    let copy : Copies x c.args.time c.in-Ok.export = subst (IsCopy x c.args.time) c.in-Ok.is c.in_ok-export.ensures.value in
    ap (λ (z : Written). z.closed) same ∙ opened_at x c.args.time copy.accepted

pub mark-requires-clause-rises : goal.mark-requires-clause-rises
mark-requires-clause-rises c =
    let writers = c.self.inside.writers.items in
    let there : c.args.writer < length writers = grind (arith, common_steps) in
    let x = c.index.result.now in
    let same = same_at writers c.args.writer c.index_mut.result.now x there c.index_mut.ensures.value c.index.ensures in
    let copy : Copies x c.args.time c.in-Ok.export = subst (IsCopy x c.args.time) c.in-Ok.is c.in_ok-export.ensures.value in
    let last : c.index_mut.result.now.last ≡ x.last = ap (λ (z : Written). z.last) same in
    let above = rises_at x c.args.time copy.accepted in
    omega arith

pub returns-clause-ok : goal.returns-clause-ok
returns-clause-ok c =
    let w = world.the_view c.self.inside in
    let writers = c.self.inside.writers.items in
    let there : c.args.writer < length writers = grind (arith, common_steps) in
    let x = c.index.result.now in
    let at_v = stands_at writers c.args.writer x there c.index.ensures in
    let same = same_at writers c.args.writer c.index_mut.result.now x there c.index_mut.ensures.value c.index.ensures in
    let copy : Copies x c.args.time c.in-Ok.export = subst (IsCopy x c.args.time) c.in-Ok.is c.in_ok-export.ensures.value in
    let exports = c.self.inside.exports.items in
    let grown : c.push.new.self.items ≡ exports ++ c.in-Ok.export ∷ [] = c.in_ok-push-in-Ok.ensures.items in
    let count : c.len-2.result ≡ length exports + 1 = grind (arith, common_steps) in
    let after : c.mark.new.self ≡ record { id = x.id; tally = x.tally; start = x.start; last = c.args.time; closed = c.args.closing } =
    c.mark.ensures.value ∙ ap (λ (z : Written). record { id = z.id; tally = z.tally; start = z.start; last = c.args.time; closed = c.args.closing }) same in
    seen_as _ _ _ _ _ c.self.view_is
    (subst (λ (n : ℕ). Acts (collect_event c.args.writer c.args.time c.args.closing) w (reply.Made n) (with_export w (set writers c.args.writer c.mark.new.self) c.push.new.self.items)) (sym count)
    (subst (λ (es : List Export). Acts (collect_event c.args.writer c.args.time c.args.closing) w (reply.Made (length exports + 1)) (with_export w (set writers c.args.writer c.mark.new.self) es)) (sym grown)
    (collects w c.args.writer x at_v c.args.time c.args.closing c.mark.new.self c.in-Ok.export copy after)))

pub returns-in_err-export-clause-no_memory : goal.returns-in_err-export-clause-no_memory
returns-in_err-export-clause-no_memory c =
    let writers = c.self.inside.writers.items in
    let there : c.args.writer < length writers = grind (arith, common_steps) in
    let x = c.index.result.now in
    let at_v = stands_at writers c.args.writer x there c.index.ensures in
    wants_as _ _ _ _ c.self.view_is (collect_wants (world.the_view c.self.inside) c.args.writer x at_v c.args.time c.args.closing c.in_err-export.ensures.no_memory)

pub returns-in_err-push-in-Ok-clause-no_memory : goal.returns-in_err-push-in-Ok-clause-no_memory
returns-in_err-push-in-Ok-clause-no_memory c =
    let writers = c.self.inside.writers.items in
    let there : c.args.writer < length writers = grind (arith, common_steps) in
    let x = c.index.result.now in
    let at_v = stands_at writers c.args.writer x there c.index.ensures in
    let copy : Copies x c.args.time c.in-Ok.export = subst (IsCopy x c.args.time) c.in-Ok.is c.in_ok-export.ensures.value in
    wants_as _ _ _ _ c.self.view_is (collect_wants (world.the_view c.self.inside) c.args.writer x at_v c.args.time c.args.closing copy.accepted)
