use Rattle.std.proofs.Common.{◌≡◌, ℕ, ℤ, ◌+◌, List, [], ◌∷◌, ◌++◌, Option, Bor, Vec, Global, filter, take, sym, ap, ◌∙◌}
use Rattle.std.specs.BTreeMap.{is_at}
use Rattle.std.specs.Map.{lookup}
use Rattle.std.specs.Option.{option_map}
use Rattle.std.specs.Ordering.{eq_by_cmp}
use Rattle.std.proofs.lemmas.List.{map_more, take_all}
use Rattle.attr_kit.specs.Orders.{text_cmp}
use Rattle.gateway_kit.specs.Walks.{keyed_cell_of_ref}
use Rattle.gateway_kit.specs.declared.points.PointRef.{PointRef}
use Rattle.page_kit.specs.Bounds.{bounds_with}
use Rattle.page_kit.specs.Totals.{KeyedCell}
use Rattle.page_kit.specs.Views.{cells}
use Rattle.page_kit.proofs.Shared.{so_far, of_service, served_by, served_all, map_cond, map_twice}
use Rattle.page_kit.proofs.bounds.bounds_of_services.Goals as goal

pub loop-point-preserved : goal.loop-point-preserved
loop-point-preserved c = λ service.
    let items = λ (v : Vec ℤ Global). v.items in
    let i = c.loop-point.point-index in
    let k = c.in_ok-try_copy.field-0 in
    let x = keyed_cell_of_ref c.point-item.result in
    let es = cells (take i c.args.points.now) in
    let old = c.loop-point.services.entries in
    let kept = λ (q : List ℕ). option_map items (lookup (is_at (text_cmp q)) old) in
    let more : es ++ x ∷ [] ≡ cells (take (i + 1) c.args.points.now) = ap (λ (p : PointRef). es ++ keyed_cell_of_ref p ∷ []) c.point-item.is ∙ sym (map_more keyed_cell_of_ref c.args.points.now i _ c.loop-point-test.true) in
    served_by kept service k es x (option_map items (lookup (is_at (text_cmp service)) c.insert.new.self.entries)) c.in_ok-bounds.bounds.items c.in_ok-try_copy.ensures.ok (c.loop-point.invariant service)
    (c.in_ok-bounds.ensures
    ∙ ap (λ (o : Option (List ℤ)). bounds_with o c.bounds_in.result.now) (sym (map_twice (λ (b : Bor (Vec ℤ Global)). b.now) items c.get.result) ∙ ap (λ (o : Option (Vec ℤ Global)). option_map items o) c.get.ensures.value ∙ ap kept (sym c.in_ok-try_copy.ensures.ok))
    ∙ ap (λ (l : List ℤ). bounds_with (kept k) l) c.bounds_in.ensures)
    (ap (λ (o : Option (Vec ℤ Global)). option_map items o) (c.in_ok-insert.ensures.updates.0 service) ∙ map_cond items (eq_by_cmp text_cmp k service) c.in_ok-bounds.bounds (lookup (is_at (text_cmp service)) old))
    ∙ ap (λ (l : List KeyedCell). so_far (filter (of_service service) l)) more

pub returns : goal.returns
returns c = λ service.
    served_all (λ (v : Vec ℤ Global). v.items) (lookup (is_at (text_cmp service)) c.loop-point.services.entries) (cells c.args.points.now) service
    (c.loop-point.invariant service ∙ ap (λ (ps : List PointRef). so_far (filter (of_service service) (cells ps))) (take_all c.loop-point.point-index c.args.points.now c.loop-point-test.false))
