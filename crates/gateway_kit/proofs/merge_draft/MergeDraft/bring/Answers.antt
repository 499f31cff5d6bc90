use Rattle.std.proofs.Common.{◌≡◌, ◌+◌, map, length, Ok, Err, sym, ap, ◌∙◌, rules, arith}
use lib.ListN.{length-map}
use Rattle.std.proofs.lemmas.Grind.{common_steps}
use Rattle.std.specs.FinMap.{entries}
use Rattle.gateway_kit.specs.Changing.{Prepares}
use Rattle.gateway_kit.specs.Keys.{incarnation_cmp, keyed_cell_of}
use Rattle.gateway_kit.specs.Merging.{number_within}
use Rattle.gateway_kit.specs.Incarnations.{keyed_cells}
use Rattle.gateway_kit.specs.Places.{IsPlace}
use Rattle.gateway_kit.proofs.MergeDrafts.{drafts_incarnation_held, drafts_incarnation_new}
use Rattle.gateway_kit.proofs.merge_draft.MergeDraft.bring.Goals as goal

pub returns-in_ok-push-in-Ok : goal.returns-in_ok-push-in-Ok
returns-in_ok-push-in-Ok c =
    let p = c.args.theirs.now in
    let changes = c.in_ok-changes-in-Ok.changes in
    let mine = c.get.result.now in
    let placed : IsPlace incarnation_cmp (map keyed_cells c.args.mine.now.items) (p.writer, p.start) (Ok c.in-Ok.place) = rw c.in-Ok.is at c.requires.placed in
    let prepared : Prepares (entries mine.cells) (entries p.cells) changes = c.in_ok-changes-in-Ok.ensures in
    let f : c.len-more.result ≡ length changes.fresh.items = search rules in
    let u : c.len.result + c.len-more.result ≡ length changes.updates.items + length changes.fresh.items = grind (arith, common_steps) in
    let more : c.saturating_add-self.result ≡ number_within (c.args.self.now.more + c.len-more.result) = c.saturating_add-self.ensures in
    let changed : c.saturating_add-self-in-Ok.result ≡ number_within (c.args.self.now.changed + (c.len.result + c.len-more.result)) = c.saturating_add-self-in-Ok.ensures in
    λ came first so_far.
    rw (c.in_ok-push-in-Ok.ensures.items, more, changed) (drafts_incarnation_held c.args.mine.now.items c.requires.sorted came c.args.self.now.updates.items c.args.self.now.fresh.items c.args.self.now.more c.args.self.now.changed so_far p first c.in-Ok.place mine changes (c.len.result + c.len-more.result) c.len-more.result placed c.get.ensures.value prepared f u)

pub returns-in_ok-push-in-Err : goal.returns-in_ok-push-in-Err
returns-in_ok-push-in-Err c =
    let p = c.args.theirs.now in
    let placed : IsPlace incarnation_cmp (map keyed_cells c.args.mine.now.items) (p.writer, p.start) (Err c.in-Err.field-0) = rw c.in-Err.is at c.requires.placed in
    let n : length c.items-more.result.now ≡ length (entries p.cells) = sym (length-map c.items-more.result.now keyed_cell_of) ∙ ap length c.items-more.ensures.entries in
    let more : c.saturating_add-self-in-Err.result ≡ number_within (c.args.self.now.more + length c.items-more.result.now) = c.saturating_add-self-in-Err.ensures in
    let changed : c.saturating_add-self-in-Err-2.result ≡ number_within (c.args.self.now.changed + length c.items-more.result.now) = c.saturating_add-self-in-Err-2.ensures in
    λ came first so_far.
    rw (c.in_ok-push-in-Err.ensures.items, more, changed) (drafts_incarnation_new c.args.mine.now.items c.requires.sorted came c.args.self.now.updates.items c.args.self.now.fresh.items c.args.self.now.more c.args.self.now.changed so_far p first c.in_ok-try_copy-in-Err.field-0 (length c.items-more.result.now) c.in_ok-try_copy-in-Err.ensures placed.none c.requires.filled n)
