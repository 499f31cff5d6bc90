use Rattle.std.proofs.Common.{ℕ, List, Vec, Global, codes, sym, ap, ◌∙◌}
use Rattle.std.specs.List.{flat_map}
use Rattle.std.proofs.lemmas.List.Folds.{flat_map-map}
use Rattle.std.proofs.lemmas.Result.{on_ok_weaker}
use Rattle.gateway_kit.specs.declared.points.PointRef.{PointRef}
use Rattle.page_kit.specs.Lines.{sample}
use Rattle.page_kit.specs.Page.{newest_text, seconds}
use Rattle.page_kit.specs.Totals.{KeyedCell, latest}
use Rattle.page_kit.specs.Views.{cells}
use Rattle.page_kit.specs.declared.labels.Label.{Label}
use Rattle.page_kit.proofs.Texted.{two_parts}
use Rattle.page_kit.proofs.own.push_newest.Goals as goal

abbrev read : List Label × Vec PointRef Global → List Label × List KeyedCell
read e = (e.0, cells e.1.items)

abbrev told : List Label × List KeyedCell → List ℕ
told g = sample (codes "kotskhin_newest_seconds") g.0 (seconds (latest g.1))

pub returns : goal.returns
unfolding newest_text
returns c =
    on_ok_weaker c.push_times.result (λ is. two_parts _ _ _ _ _ _ c.in_ok-push_head.ensures is
    (ap (λ (rs : List (List Label × Vec PointRef Global)). flat_map (λ (e : List Label × Vec PointRef Global). told (read e)) rs) c.as_slice.ensures.value ∙ sym (flat_map-map told read c.in_ok-rows.rows.items)
    ∙ ap (λ (rs : List (List Label × List KeyedCell)). flat_map told rs) c.in_ok-rows.ensures)) c.push_times.ensures
