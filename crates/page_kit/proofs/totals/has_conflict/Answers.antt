use Rattle.std.proofs.Common.{◌||◌, ◌+◌, Bool, drop, sym, ap, ◌∙◌}
use Rattle.std.specs.List.{list_any}
use Rattle.std.proofs.lemmas.List.{at_drop_more, drop_all}
use Rattle.gateway_kit.specs.Walks.{keyed_cell_of_ref}
use Rattle.gateway_kit.specs.declared.points.PointRef.{PointRef}
use Rattle.page_kit.specs.Totals.{is_conflict}
use Rattle.page_kit.proofs.Folded.{any_read}
use Rattle.page_kit.proofs.totals.has_conflict.Goals as goal

pub returns-then-is_conflict : goal.returns-then-is_conflict
returns-then-is_conflict c =
    let test = λ (p : PointRef). is_conflict (keyed_cell_of_ref p) in
    let i = c.loop-point.point-index in
    sym (any_read keyed_cell_of_ref is_conflict c.args.points.now ∙ sym c.loop-point.invariant
    ∙ at_drop_more (list_any test) c.args.points.now i c.point-item.result c.loop-point-test.true
    ∙ ap (λ (p : PointRef). test p || list_any test (drop (i + 1) c.args.points.now)) (sym c.point-item.is)
    ∙ ap (λ (b : Bool). b || list_any test (drop (i + 1) c.args.points.now)) (sym c.is_conflict.ensures ∙ c.if-is_conflict.true))

pub returns : goal.returns
returns c =
    let test = λ (p : PointRef). is_conflict (keyed_cell_of_ref p) in
    sym (any_read keyed_cell_of_ref is_conflict c.args.points.now ∙ sym c.loop-point.invariant
    ∙ ap (list_any test) (drop_all c.loop-point.point-index c.args.points.now c.loop-point-test.false))
