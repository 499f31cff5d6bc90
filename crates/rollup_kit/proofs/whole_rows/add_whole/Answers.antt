use Rattle.std.proofs.Common.{◌≡◌, ◌∙◌, [], ◌∷◌, ◌++◌, None, refl, sym, ap}
use Rattle.std.proofs.lemmas.Result.{on_ok_weaker}
use Rattle.rollup_kit.specs.Groups.{Grouped, no_group, with_held}
use Rattle.rollup_kit.specs.Indexed.{first_row}
use Rattle.rollup_kit.specs.Walks.{Rows, group_at}
use Rattle.rollup_kit.proofs.Adding.{held_first, absent}
use Rattle.rollup_kit.proofs.Indexed.{other_added}
use Rattle.rollup_kit.proofs.SetOrders.{sets_total, sets_exact}
use Rattle.rollup_kit.proofs.whole_rows.add_whole.Goals as goal

pub start-requires : goal.start-requires
start-requires c =
    ap (group_at c.add_held.new.rows.entries) c.in_ok-attrs.ensures.value ∙ ap (λ (rows : Rows). group_at rows c.args.attrs.now) (c.if-add_held.ensures.kept refl)
    ∙ absent sets_total sets_exact (λ (g : Grouped). g) (group_at c.args.rows.now.entries c.args.attrs.now) (sym c.add_held.ensures.value ∙ c.if-add_held.false)

pub returns-then-add_held : goal.returns-then-add_held
returns-then-add_held c =
    held_first sets_total sets_exact (λ (g : Grouped). with_held g c.args.cell.now.time c.args.cell.now.held) (no_group c.args.buckets) (group_at c.args.rows.now.entries) (group_at c.add_held.new.rows.entries) c.args.attrs.now
    (sym c.add_held.ensures.value ∙ c.if-add_held.true) c.add_held.ensures.adds

pub returns : goal.returns
returns c =
    let old = c.args.rows.now.entries in
    let none : group_at old c.args.attrs.now ≡ None = absent sets_total sets_exact (λ (g : Grouped). g) (group_at old c.args.attrs.now) (sym c.add_held.ensures.value ∙ c.if-add_held.false) in
    on_ok_weaker c.start.result
    (λ put. other_added [] old c.start.new.rows.entries c.args.buckets c.args.attrs.now c.args.cell.now none
    (put ∙ (λ i. c.if-add_held.ensures.kept refl i ++ first_row c.args.buckets (c.in_ok-attrs.ensures.value i) c.args.cell.now ∷ [])))
    c.start.ensures.ok
