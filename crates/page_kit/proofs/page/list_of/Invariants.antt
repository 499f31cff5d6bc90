use Rattle.std.proofs.Common.{◌≡◌, ◌++◌, filter}
use Rattle.std.specs.Option.{option_map}
use Rattle.gateway_kit.specs.Walks.{points_left}
use Rattle.page_kit.specs.Page.{is_left_in}
use Rattle.page_kit.specs.Views.{cells}
use Rattle.page_kit.proofs.page.list_of.Given as goal

abbrev pub invariant-loop-point : goal.invariant-loop-point
invariant-loop-point l =
    let but = option_map (λ s. s.now) l.but in
    (goal.iterator-loop-point).can_next l.point-iterator × (goal.iterator-loop-point).is_finite l.point-iterator
    × (cells l.list.items ++ filter (λ e. is_left_in but e.0) (points_left l.point-iterator) ≡ filter (λ e. is_left_in but e.0) (points_left l.fn.points))
