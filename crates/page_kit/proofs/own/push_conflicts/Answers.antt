use Rattle.std.proofs.Common.{List, Vec, Global, codes, ap, ◌∙◌}
use Rattle.std.specs.List.{flat_map}
use Rattle.std.proofs.lemmas.Result.{on_ok_weaker}
use Rattle.gateway_kit.specs.declared.points.PointRef.{PointRef}
use Rattle.page_kit.specs.Page.{conflicts_text}
use Rattle.page_kit.specs.Totals.{KeyedCell}
use Rattle.page_kit.specs.declared.labels.Label.{Label}
use Rattle.page_kit.proofs.Texted.{two_parts, own_length, cell_length, lengths_read}
use Rattle.page_kit.proofs.own.push_conflicts.Goals as goal

pub returns : goal.returns
unfolding conflicts_text
returns c =
    let name = codes "kotskhin_conflicts" in
    on_ok_weaker c.push_lengths.result (λ is. two_parts _ _ _ _ _ _ c.in_ok-push_head.ensures is
    (ap (λ (rs : List (List Label × Vec PointRef Global)). flat_map (own_length name) rs) c.as_slice.ensures.value ∙ lengths_read name c.in_ok-rows.rows.items
    ∙ ap (λ (rs : List (List Label × List KeyedCell)). flat_map (cell_length name) rs) c.in_ok-rows.ensures)) c.push_lengths.ensures
