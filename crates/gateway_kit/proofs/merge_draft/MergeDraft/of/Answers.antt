use Rattle.std.proofs.Common.{◌≡◌, ◌<◌, List, ◌++◌, ◌∷◌, [], map, take, length, None, ap, sym, subst, ◌∙◌, arith}
use Rattle.std.proofs.lemmas.Grind.{common_steps}
use Rattle.std.proofs.lemmas.List.{take-map, take_more}
use Rattle.std.specs.FinMap.Entries.{find}
use Rattle.gateway_kit.specs.Keys.{incarnation_cmp}
use Rattle.gateway_kit.specs.Merging.{MergeDrafts}
use Rattle.gateway_kit.specs.IncarnationState.{IncarnationState}
use Rattle.gateway_kit.specs.Incarnations.{keyed_cells, has_cells}
use Rattle.gateway_kit.proofs.Entries.{as_T, none_before}
use Rattle.gateway_kit.specs.KeyOrders.{incarnation_total}
use Rattle.gateway_kit.proofs.Moved.{got_map, passes_at}
use Rattle.gateway_kit.proofs.merge_draft.MergeDraft.of.Goals as goal

pub loop-index-init : goal.loop-index-init
loop-index-init c = c.new-draft.ensures c.args.mine.now.items

pub bring-requires-clause-filled : goal.bring-requires-clause-filled
bring-requires-clause-filled c = passes_at has_cells c.args.theirs.now.items c.loop-index.index c.get-incarnation.result.now c.requires.theirs_filled (grind (arith, common_steps)) c.get-incarnation.ensures.value

pub loop-index-preserved : goal.loop-index-preserved
loop-index-preserved c =
    let xs = c.args.theirs.now.items in
    let i = c.loop-index.index in
    let x = c.get-incarnation.result.now in
    let within : i < length xs = grind (arith, common_steps) in
    let first : find incarnation_cmp (x.writer, x.start) (map keyed_cells (take i xs)) ≡ None = ap (find incarnation_cmp (x.writer, x.start)) (sym (take-map keyed_cells i xs)) ∙ none_before incarnation_total (map keyed_cells xs) i (keyed_cells x) (as_T c.requires.theirs_sorted) (got_map keyed_cells xs i x within c.get-incarnation.ensures.value) in
    subst (λ (came : List IncarnationState). MergeDrafts c.args.mine.now.items came c.bring.new.self.updates.items c.bring.new.self.fresh.items c.bring.new.self.more c.bring.new.self.changed) (sym (take_more xs i x within ∙ ap (λ (y : IncarnationState). take i xs ++ y ∷ []) (sym c.get-incarnation.ensures.value)))
    (c.in_ok-bring.ensures (take i xs) first c.loop-index.invariant)

pub returns : goal.returns
returns c =
    let whole : take c.loop-index.index c.args.theirs.now.items ≡ c.args.theirs.now.items = grind (arith, common_steps) in
    subst (λ (came : List IncarnationState). MergeDrafts c.args.mine.now.items came c.loop-index.draft.updates.items c.loop-index.draft.fresh.items c.loop-index.draft.more c.loop-index.draft.changed) whole c.loop-index.invariant
