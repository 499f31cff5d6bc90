use Rattle.std.proofs.Common.{ℕ, List, length, not, refl, sym, ap, subst, ◌∙◌}
use lib.ListN.{length-map}
use Rattle.std.specs.FinMap.{entries, retain_keys}
use Rattle.gateway_kit.specs.Covering.{AreCovered}
use Rattle.gateway_kit.specs.GatewayState.{GatewayState}
use Rattle.gateway_kit.specs.Keys.{IncarnationKey, keyed_cell_of, whole_key}
use Rattle.gateway_kit.specs.Queries.{incarnation_points, is_of_incarnation}
use Rattle.gateway_kit.proofs.Forgotten.{bounds_left, cells_out, conflicts_among, conflicts_left, items_among, left_whole, numbers_kept, numbers_of_others, numbers_out, points_kept, points_of_others}
use Rattle.gateway_kit.proofs.Queried.{found_nowhere, points_nowhere, points_there}
use Rattle.gateway_kit.proofs.Served.{items_under}
use Rattle.gateway_kit.proofs.gateway.Gateway.forget.Goals as goal

pub overflow_sub-self : goal.overflow_sub-self
overflow_sub-self c =
    let key : IncarnationKey = (c.args.writer.now, c.args.start) in
    items_among key c.in-Ok.place refl c.self.invariant.0 c.in-Ok.ensures c.remove-gone.ensures.value c.remove-gone.ensures.items c.items-dropped.result.now c.items-dropped.ensures.entries

pub overflow_sub-self-in-Ok : goal.overflow_sub-self-in-Ok
overflow_sub-self-in-Ok c =
    let key : IncarnationKey = (c.args.writer.now, c.args.start) in
    conflicts_among key c.in-Ok.place refl c.self.invariant.0 c.in-Ok.ensures c.remove-gone.ensures.value c.remove-gone.ensures.items c.self.invariant.1 c.conflicts.ensures

pub invariant_of-self : goal.invariant_of-self
invariant_of-self c =
    let key : IncarnationKey = (c.args.writer.now, c.args.start) in (
      left_whole key c.in-Ok.place refl c.self.invariant.0 c.in-Ok.ensures c.remove-gone.ensures.value c.remove-gone.ensures.items c.items-dropped.result.now c.items-dropped.ensures.entries,
      conflicts_left key c.in-Ok.place refl c.self.invariant.0 c.in-Ok.ensures c.remove-gone.ensures.value c.remove-gone.ensures.items c.self.invariant.1 c.conflicts.ensures,
      subst (λ (b : List ℕ). AreCovered b c.remove-gone.new.self.items) (sym c.remove-gone.ensures.bounds) (bounds_left key c.in-Ok.place refl c.self.invariant.0 c.in-Ok.ensures c.remove-gone.ensures.value c.remove-gone.ensures.items c.self.inside.incarnations.bounds c.bounds_match.ensures c.self.invariant.2),
    )

pub returns-in-Ok-clause-value : goal.returns-in-Ok-clause-value
returns-in-Ok-clause-value c =
    let olds = c.self.inside.incarnations.items in
    let news = c.remove-gone.new.self.items in
    let key : IncarnationKey = (c.args.writer.now, c.args.start) in
    points_of_others key olds news c.self.invariant.0.sorted (cells_out key c.in-Ok.place refl c.self.invariant.0 c.in-Ok.ensures c.remove-gone.ensures.value c.remove-gone.ensures.items)
    ∙ ap (λ (v : GatewayState). retain_keys v.points (λ k. not (is_of_incarnation c.args.writer.now c.args.start k))) c.self.view_is

pub returns-in-Ok-clause-numbers : goal.returns-in-Ok-clause-numbers
returns-in-Ok-clause-numbers c =
    let olds = c.self.inside.incarnations.items in
    let news = c.remove-gone.new.self.items in
    let key : IncarnationKey = (c.args.writer.now, c.args.start) in
    numbers_of_others key olds news c.self.invariant.0.sorted
    (cells_out key c.in-Ok.place refl c.self.invariant.0 c.in-Ok.ensures c.remove-gone.ensures.value c.remove-gone.ensures.items)
    (numbers_out key c.in-Ok.place refl c.self.invariant.0 c.in-Ok.ensures c.remove-gone.ensures.value c.remove-gone.ensures.items)
    ∙ ap (λ (v : GatewayState). retain_keys v.numbers (λ k. not (is_of_incarnation c.args.writer.now c.args.start k))) c.self.view_is

pub returns-in-Ok-clause-dropped : goal.returns-in-Ok-clause-dropped
returns-in-Ok-clause-dropped c =
    let w = c.args.writer.now in
    let s = c.args.start in
    let p = c.remove-gone.result in
    let items = c.items-dropped.result.now in
    sym (length-map items (λ i. (whole_key (w, s) (keyed_cell_of i).0, i.cell)))
    ∙ ap length (items_under (w, s) items (entries p.cells) c.items-dropped.ensures.entries ∙ sym (points_there (w, s) c.self.inside.incarnations.items c.self.inside.incarnations.items refl c.self.invariant.0.sorted c.in-Ok.place p c.in-Ok.ensures c.remove-gone.ensures.value))
    ∙ ap (λ (v : GatewayState). length (incarnation_points w s v.points)) c.self.view_is

pub returns-in-Err-clause-value : goal.returns-in-Err-clause-value
returns-in-Err-clause-value c =
    let ps = c.self.inside.incarnations.items in
    let key : IncarnationKey = (c.args.writer.now, c.args.start) in
    let none = found_nowhere key c.self.inside.incarnations.items ps refl c.self.invariant.0.sorted c.in-Err.field-0 c.in-Err.ensures in
    sym (ap (λ (v : GatewayState). v.points) c.self.view_is) ∙ points_kept key ps c.self.invariant.0.sorted none
    ∙ ap (λ (v : GatewayState). retain_keys v.points (λ k. not (is_of_incarnation c.args.writer.now c.args.start k))) c.self.view_is

pub returns-in-Err-clause-numbers : goal.returns-in-Err-clause-numbers
returns-in-Err-clause-numbers c =
    let ps = c.self.inside.incarnations.items in
    let key : IncarnationKey = (c.args.writer.now, c.args.start) in
    let none = found_nowhere key c.self.inside.incarnations.items ps refl c.self.invariant.0.sorted c.in-Err.field-0 c.in-Err.ensures in
    sym (ap (λ (v : GatewayState). v.numbers) c.self.view_is) ∙ numbers_kept key ps c.self.invariant.0.sorted none
    ∙ ap (λ (v : GatewayState). retain_keys v.numbers (λ k. not (is_of_incarnation c.args.writer.now c.args.start k))) c.self.view_is

pub returns-in-Err-clause-dropped : goal.returns-in-Err-clause-dropped
returns-in-Err-clause-dropped c =
    sym (ap length (points_nowhere (c.args.writer.now, c.args.start) c.self.inside.incarnations.items c.self.inside.incarnations.items refl c.self.invariant.0.sorted c.in-Err.field-0 c.in-Err.ensures))
    ∙ ap (λ (v : GatewayState). length (incarnation_points c.args.writer.now c.args.start v.points)) c.self.view_is
