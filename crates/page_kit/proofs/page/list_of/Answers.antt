use Rattle.std.proofs.Common.{◌≡◌, ℕ, ◌++◌, List, filter, Option, Some, None, refl, sym, ap, ◌∙◌}
use Rattle.std.specs.Borrow.{Bor}
use Rattle.std.specs.Option.{option_map}
use Rattle.std.proofs.lemmas.List.{append-nil}
use Rattle.gateway_kit.proofs.Served.{filter_all}
use Rattle.gateway_kit.specs.Walks.{keyed_cell_of_ref, points_left}
use Rattle.page_kit.specs.Page.{is_left_in, left_in}
use Rattle.page_kit.specs.Totals.{KeyedCell}
use Rattle.page_kit.specs.Views.{cells}
use Rattle.page_kit.proofs.Held.{read_next}
use Rattle.page_kit.proofs.page.list_of.Goals as goal

those_left_in : (but : Option (List ℕ)) (es : List KeyedCell) → filter (λ e. is_left_in but e.0) es ≡ left_in but es
those_left_in None es = filter_all es
those_left_in (Some scope) es = refl

pub loop-point-preserved : goal.loop-point-preserved
loop-point-preserved c =
    let but = option_map (λ (s : Bor (List ℕ)). s.now) c.args.but in
    let old = c.loop-point.list.items in (
      tt,
      tt,
      read_next keyed_cell_of_ref (λ (e : KeyedCell). is_left_in but e.0) old c.push_left_in.new.list.items (points_left c.next.new.self) c.in-Some.point c.in_ok-push_left_in.ensures
          ∙ ap (λ (l : List KeyedCell). cells old ++ filter (λ e. is_left_in but e.0) l) (sym c.in-Some.ensures.steps)
          ∙ c.loop-point.invariant.2,
    )

pub returns : goal.returns
returns c =
    let but = option_map (λ (s : Bor (List ℕ)). s.now) c.args.but in
    sym (append-nil (cells c.loop-point.list.items))
    ∙ ap (λ (l : List KeyedCell). cells c.loop-point.list.items ++ filter (λ e. is_left_in but e.0) l) (sym c.in-None.ensures.steps.0)
    ∙ c.loop-point.invariant.2
    ∙ those_left_in but (points_left c.args.points)
