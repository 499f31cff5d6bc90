use Rattle.std.proofs.Common.{List, Vec, Global, sym, ap, ◌∙◌}
use Rattle.std.specs.List.{flat_map}
use Rattle.std.proofs.lemmas.List.Folds.{flat_map-map}
use Rattle.std.proofs.lemmas.Result.{on_ok_weaker}
use Rattle.gateway_kit.specs.declared.points.PointRef.{PointRef}
use Rattle.page_kit.specs.Rows.{row, named_text}
use Rattle.page_kit.specs.Totals.{KeyedCell}
use Rattle.page_kit.specs.Views.{cells}
use Rattle.page_kit.specs.declared.labels.Label.{Label}
use Rattle.page_kit.proofs.Texted.{two_parts}
use Rattle.page_kit.proofs.rows.push_named.Goals as goal

abbrev read : List Label × Vec PointRef Global → List Label × List KeyedCell
read e = (e.0, cells e.1.items)

pub returns : goal.returns
unfolding named_text
returns c =
    let told = λ (r : List Label × List KeyedCell). row c.args.metric.now.kind c.args.name.now (cells c.args.points.now) r in
    on_ok_weaker c.push_rows.result (λ is. two_parts _ _ _ _ _ _ c.in_ok-push_head.ensures (is (cells c.args.points.now) c.in_ok-bounds.ensures)
    (ap (λ (rs : List (List Label × Vec PointRef Global)). flat_map (λ (e : List Label × Vec PointRef Global). told (read e)) rs) c.as_slice.ensures.value ∙ sym (flat_map-map told read c.in_ok-rows.rows.items)
    ∙ ap (λ (rs : List (List Label × List KeyedCell)). flat_map told rs) c.in_ok-rows.ensures)) c.push_rows.ensures
