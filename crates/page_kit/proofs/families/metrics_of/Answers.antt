use Rattle.std.proofs.Common.{[], ◌∷◌, ◌++◌, List, length, sym, ap, ◌∙◌, append_assoc}
use Rattle.std.proofs.lemmas.List.{append-nil, map-append}
use Rattle.std.specs.Vec.Iter.{into_iter_items, into_iter_len}
use Rattle.page_kit.specs.Views.{cell_lists, with_cells, all_measured}
use Rattle.page_kit.specs.declared.families.Measured.{Measured}
use Rattle.page_kit.proofs.Ended.{ended, went_on}
use Rattle.page_kit.proofs.families.metrics_of.Goals as goal

pub loop-metric-init : goal.loop-metric-init
loop-metric-init c =
    let gives = c.into_iter-metric-iterator.ensures.into_iter_gives in
    (ap (λ (ms : List Measured). all_measured ms ++ cell_lists (into_iter_items c.into_iter-metric-iterator.result)) c.new-metrics.ensures.items ∙ ap cell_lists gives.0 ∙ c.in_ok-groups.ensures, gives.1 ∙ c.in_ok-groups.groups.ok.0 ∙ ap length (sym gives.0))

pub loop-metric-preserved : goal.loop-metric-preserved
loop-metric-preserved c =
    let one : Measured = record { metric = c.in-Some.metric; points = c.in-Some.points } in
    let left = into_iter_items c.next.new.self in
    let old = c.loop-metric.metrics.items in
    let steps = c.in-Some.ensures.steps in (
      ap (λ (ms : List Measured). all_measured ms ++ cell_lists left) c.in_ok-push.ensures.items
          ∙ ap (λ l. l ++ cell_lists left) (map-append with_cells old (one ∷ []))
          ∙ append_assoc (all_measured old) (with_cells one ∷ []) (cell_lists left)
          ∙ ap (λ es. all_measured old ++ cell_lists es) (sym steps.0)
          ∙ c.loop-metric.invariant.0,
      went_on (into_iter_items c.loop-metric.metric-iterator) left (c.in-Some.metric, c.in-Some.points) (into_iter_len c.loop-metric.metric-iterator) (into_iter_len c.next.new.self) c.loop-metric.invariant.1 steps.0 steps.1,
    )

pub returns : goal.returns
returns c =
    let none = ended (into_iter_items c.loop-metric.metric-iterator) (into_iter_len c.loop-metric.metric-iterator) c.loop-metric.invariant.1 c.in-None.ensures.steps.0 in
    sym (append-nil (all_measured c.loop-metric.metrics.items)) ∙ ap (λ es. all_measured c.loop-metric.metrics.items ++ cell_lists es) (sym none) ∙ c.loop-metric.invariant.0
