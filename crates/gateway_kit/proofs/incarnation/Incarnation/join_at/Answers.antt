use Rattle.std.proofs.Common.{◌≡◌, ◌<◌, length, List, map, refl, sym, ap, subst, ◌∙◌, arith}
use Rattle.std.proofs.lemmas.Grind.{common_steps}
use lib.ListN.{length-map}
use Rattle.std.specs.FinMap.{entries, from_sorted, entries-from_sorted}
use Rattle.std.specs.FinMap.Entries.{is_sorted}
use Rattle.gateway_kit.specs.Changing.{KeyedCell, replacement}
use Rattle.gateway_kit.specs.Keys.{keyed_cell_of, item_cmp}
use Rattle.gateway_kit.specs.Places.{IsAt}
use Rattle.gateway_kit.proofs.Entries.{as_T, is_sorted-with_change}
use Rattle.gateway_kit.specs.KeyOrders.{item_total}
use Rattle.gateway_kit.specs.IncarnationState.{IncarnationState}
use Rattle.gateway_kit.proofs.AllMoves.{own_key}
use Rattle.gateway_kit.proofs.ItemMoves.{incarnation_moves}
use Rattle.gateway_kit.proofs.Movement.{stays}
use Rattle.gateway_kit.proofs.OneCell.{cells_of, joins_alike, kept_at, changed_at}
use Rattle.gateway_kit.specs.Tallies.{conflicts_in}
use Rattle.gateway_kit.proofs.Tallies.{shown}
use Rattle.gateway_kit.proofs.incarnation.Incarnation.join_at.Goals as goal

pub index-requires : goal.index-requires
index-requires c =
    let items = c.self.inside.items.items in
    let long : length (entries c.args.self.now.cells) ≡ length items = ap length (cells_of c.args.self.now c.self.inside.writer c.self.inside.start items c.self.invariant.sorted c.self.view_is) ∙ length-map items keyed_cell_of in
    let within : c.args.place < length items = omega (arith, c.requires) in
    grind (arith, common_steps)

pub returns-in_default-clause-joins : goal.returns-in_default-clause-joins
returns-in_default-clause-joins c = λ key at.
    let items = c.self.inside.items.items in
    let listed = cells_of c.args.self.now c.self.inside.writer c.self.inside.start items c.self.invariant.sorted c.self.view_is in
    let here : IsAt item_cmp (map keyed_cell_of items) key c.args.place = subst (λ (es : List KeyedCell). IsAt item_cmp es key c.args.place) listed at in
    joins_alike (map keyed_cell_of items) (entries c.args.self.now.cells) (map keyed_cell_of items) (entries c.args.self.now.cells) (key, c.args.cell) 0 0 (sym listed) (sym listed)
    (kept_at items c.self.invariant.sorted c.args.place c.index.result.now key c.args.cell here c.index.ensures c.in_default.ensures)

pub invariant_of-self : goal.invariant_of-self
invariant_of-self c = record {
  sorted = ap (is_sorted item_cmp) c.put_cell-self-inside.ensures.put ∙ is_sorted-with_change item_total replacement (map keyed_cell_of c.self.inside.items.items) c.args.place c.in-Some.cell ∙ c.self.invariant.sorted;
  tallied = c.put_cell-self-inside.ensures.tally;
  bounded = c.put_cell-self-inside.ensures.bounded c.self.invariant.bounded;
  up_to = c.put_cell-self-inside.ensures.up_to c.self.inside.number (omega arith) c.self.invariant.up_to;
}

pub returns-clause-joins : goal.returns-clause-joins
returns-clause-joins c = λ key at.
    let items = c.self.inside.items.items in
    let news = c.put_cell-self-inside.new.items.items in
    let listed = cells_of c.args.self.now c.self.inside.writer c.self.inside.start items c.self.invariant.sorted c.self.view_is in
    let here : IsAt item_cmp (map keyed_cell_of items) key c.args.place = subst (λ (es : List KeyedCell). IsAt item_cmp es key c.args.place) listed at in
    let sorted = ap (is_sorted item_cmp) c.put_cell-self-inside.ensures.put ∙ is_sorted-with_change item_total replacement (map keyed_cell_of items) c.args.place c.in-Some.cell ∙ c.self.invariant.sorted in
    joins_alike (map keyed_cell_of items) (entries c.args.self.now.cells) (map keyed_cell_of news) (entries (from_sorted {R = item_cmp} (map keyed_cell_of news))) (key, c.args.cell) 0 1 (sym listed) (sym (entries-from_sorted item_cmp (map keyed_cell_of news) (as_T sorted)))
    (changed_at items c.self.invariant.sorted c.args.place c.index.result.now key c.args.cell here c.index.ensures news c.in-Some.cell c.put_cell-self-inside.ensures.put c.in-Some.ensures.0 c.in-Some.ensures.1)

pub returns-in_default-clause-before : goal.returns-in_default-clause-before
returns-in_default-clause-before c = shown c.args.self.now c.self.inside.writer c.self.inside.start c.self.inside.items.items c.self.inside.tally.conflicts c.self.invariant.sorted c.self.view_is c.self.invariant.tallied.conflicts

pub returns-in_default-clause-after : goal.returns-in_default-clause-after
returns-in_default-clause-after c = shown c.args.self.now c.self.inside.writer c.self.inside.start c.self.inside.items.items c.self.inside.tally.conflicts c.self.invariant.sorted c.self.view_is c.self.invariant.tallied.conflicts

pub returns-clause-before : goal.returns-clause-before
returns-clause-before c = shown c.args.self.now c.self.inside.writer c.self.inside.start c.self.inside.items.items c.self.inside.tally.conflicts c.self.invariant.sorted c.self.view_is c.self.invariant.tallied.conflicts

pub returns-clause-after : goal.returns-clause-after
returns-clause-after c =
    let news = c.put_cell-self-inside.new.items.items in
    let sorted = ap (is_sorted item_cmp) c.put_cell-self-inside.ensures.put ∙ is_sorted-with_change item_total replacement (map keyed_cell_of c.self.inside.items.items) c.args.place c.in-Some.cell ∙ c.self.invariant.sorted in
    c.put_cell-self-inside.ensures.tally.conflicts ∙ ap (λ (es : List KeyedCell). conflicts_in es) (sym (entries-from_sorted item_cmp (map keyed_cell_of news) (as_T sorted)))

pub returns-in_default-clause-moves : goal.returns-in_default-clause-moves
returns-in_default-clause-moves c = λ q. stays 0 _ _

pub returns-clause-same : goal.returns-clause-same
returns-clause-same c = ap (λ (p : IncarnationState). own_key p) c.self.view_is

pub returns-clause-moves : goal.returns-clause-moves
returns-clause-moves c =
    let items = c.self.inside.items.items in
    let news = c.put_cell-self-inside.new.items.items in
    let sorted = ap (is_sorted item_cmp) c.put_cell-self-inside.ensures.put ∙ is_sorted-with_change item_total replacement (map keyed_cell_of items) c.args.place c.in-Some.cell ∙ c.self.invariant.sorted in
    incarnation_moves 0 c.args.self.now _ c.self.inside.writer c.self.inside.writer c.self.inside.start c.self.inside.start items news c.self.invariant.sorted sorted c.self.view_is refl c.put_cell-self-inside.ensures.moves
