use Rattle.std.proofs.Common.{◌≡◌, List, [], ◌∷◌, map, cond, sym, ap, refl, ◌∙◌}
use Rattle.std.specs.FinMap.{entries}
use Rattle.point_kit.specs.declared.cell.Cell.{Cell}
use Rattle.point_kit.specs.declared.key.Key.{Key}
use Rattle.point_kit.specs.declared.payload.Payload.{Payload}
use Rattle.gateway_kit.specs.declared.points.Points.{Points}
use Rattle.shelf_kit.specs.Walks.{walk_left}
use Rattle.gateway_kit.specs.Keys.{whole_key}
use Rattle.gateway_kit.specs.IncarnationState.{IncarnationState}
use Rattle.gateway_kit.specs.Walks.{items_left, is_asked, points_left}
use Rattle.gateway_kit.proofs.Served.{passed, lent, lent_when, lent_unless}
use Rattle.gateway_kit.proofs.points.PointsIterator.next.Goals as goal
use Rattle.gateway_kit.proofs.points.PointsIterator.next.Goals.{then-is_asked, else-is_asked}

pub loop-point-preserved : goal.loop-point-preserved
loop-point-preserved c =
    let first : IncarnationState = c.in_ok-incarnation.incarnation.now in
    let same : c.next_here.new.self ≡ c.loop-point.self = c.in_default.ensures.same in
    let none : items_left c.next_here.new.self.here ≡ [] = ap (λ (p : Points). items_left p.here) same ∙ c.in_default.ensures.none in
    let others = c.next.new.self in
    let ahead : walk_left c.next_here.new.self.ahead ≡ first ∷ walk_left others = c.in_ok-incarnation.ensures.steps in
    let wanted : c.is_asked.result ≡ is_asked c.next_here.new.self.service first.writer = c.is_asked.ensures ∙ ap (λ (p : IncarnationState). is_asked c.next_here.new.self.service p.writer) c.incarnation.view_is in
    let all : List (Key × Cell Payload) = map (λ e. (whole_key (first.writer, first.start) e.0, e.1)) (entries first.cells) in
    let now : items_left c.if-is_asked.self ≡ cond (is_asked c.next_here.new.self.service first.writer) all [] = elim c.if-is_asked.branch [
      | then-is_asked w ↦ lent_when c.is_asked.result (is_asked c.next_here.new.self.service first.writer) (items_left c.if-is_asked.self) all w.if-is_asked.true wanted (ap items_left w.self-is ∙ lent first w.items.result c.in_ok-incarnation.incarnation refl w.items.ensures.entries)
      | else-is_asked w ↦ lent_unless c.is_asked.result (is_asked c.next_here.new.self.service first.writer) (items_left c.if-is_asked.self) all w.if-is_asked.false wanted (ap items_left w.self-is)
    ] in
    c.loop-point.invariant ∙ ap points_left (sym same) ∙ passed c.next_here.new.self c.if-is_asked.self first others none ahead now
