use Rattle.std.proofs.Common.{◌≡◌, ◌+◌, ◌≤◌, ◌<◌, ◌^◌, ℕ, nat_le, max, length, List, map, refl, sym, ap, subst, ◌∙◌, arith}
use Rattle.std.proofs.lemmas.Grind.{common_steps}
use lib.ListN.{length-map}
use Rattle.std.specs.FinMap.{entries, from_sorted, entries-from_sorted}
use Rattle.std.specs.FinMap.Entries.{is_sorted}
use Rattle.std.specs.List.{insert}
use Rattle.gateway_kit.specs.Changing.{KeyedCell}
use Rattle.gateway_kit.specs.Keys.{keyed_cell_of, item_cmp}
use Rattle.gateway_kit.specs.Places.{IsGap}
use Rattle.gateway_kit.specs.Tallies.{conflict, conflicts_in}
use Rattle.gateway_kit.specs.Times.{latest}
use Rattle.gateway_kit.specs.declared.part_item.PartItem.{PartItem}
use Rattle.gateway_kit.proofs.Entries.{as_T}
use Rattle.gateway_kit.specs.Numbers.{ItemsMove}
use Rattle.gateway_kit.specs.IncarnationState.{IncarnationState}
use Rattle.gateway_kit.specs.Tallies.{are_up_to}
use Rattle.gateway_kit.proofs.AllMoves.{own_key}
use Rattle.gateway_kit.proofs.Growing.{all_insert}
use Rattle.gateway_kit.proofs.ItemMoves.{insert_moves, le_to, incarnation_moves}
use Rattle.gateway_kit.proofs.OneCell.{cells_of, joins_alike, new_at, sorted_at, latest_insert}
use Rattle.gateway_kit.proofs.Tallies.{conflicts_few, conflicts_insert}
use Rattle.gateway_kit.proofs.incarnation.Incarnation.join_new.Goals as goal

pub insert-requires : goal.insert-requires
insert-requires c =
    let items = c.self.inside.items.items in
    let long : length (entries c.args.self.now.cells) ≡ length items = ap length (cells_of c.args.self.now c.self.inside.writer c.self.inside.start items c.self.invariant.sorted c.self.view_is) ∙ length-map items keyed_cell_of in
    let within : c.args.place ≤ length items = omega (arith, c.requires.gap.within) in
    grind (arith, common_steps)

pub and-tally-requires : goal.and-tally-requires
and-tally-requires c =
    let items = c.self.inside.items.items in
    let few = conflicts_few (map keyed_cell_of items) in
    let long : length (map keyed_cell_of items) ≡ length items = length-map items keyed_cell_of in
    let short : length items < 2 ^ 63 = grind (arith, common_steps) in
    let is = c.self.invariant.tallied.conflicts in
    omega (arith, few, long, short, is)

pub invariant_of-self-2 : goal.invariant_of-self-2
invariant_of-self-2 c =
    let items = c.self.inside.items.items in
    let item = c.args.item in
    let listed = cells_of c.args.self.now c.self.inside.writer c.self.inside.start items c.self.invariant.sorted c.self.view_is in
    let gap : IsGap item_cmp (map keyed_cell_of items) (keyed_cell_of item).0 c.args.place = subst (λ (es : List KeyedCell). IsGap item_cmp es (keyed_cell_of item).0 c.args.place) listed c.requires.gap in
    let long : length (map keyed_cell_of items) ≡ length items = length-map items keyed_cell_of in
    let within : c.args.place ≤ length items = omega (arith, gap.within) in
    record {
      sorted = ap (λ (l : List PartItem). is_sorted item_cmp (map keyed_cell_of l)) c.in_ok-insert.ensures.items ∙ sorted_at items item c.args.place c.self.invariant.sorted gap;
      tallied = record {
        newest = c.and-tally.ensures.newest ∙ ap (λ (n : ℕ). max n item.cell.time) c.self.invariant.tallied.newest ∙ sym (latest_insert items item c.args.place within) ∙ ap (λ (l : List PartItem). latest (map keyed_cell_of l)) (sym c.in_ok-insert.ensures.items);
        conflicts = c.and-tally.ensures.conflicts ∙ ap (λ (n : ℕ). n + conflict item.cell) c.self.invariant.tallied.conflicts ∙ sym (conflicts_insert items item c.args.place) ∙ ap (λ (l : List PartItem). conflicts_in (map keyed_cell_of l)) (sym c.in_ok-insert.ensures.items);
      };
      bounded = c.clear.ensures.items c.insert.new.self.items;
      up_to = ap (λ (l : List PartItem). are_up_to c.self.inside.number l) c.in_ok-insert.ensures.items ∙ all_insert (λ (i : PartItem). nat_le i.number c.self.inside.number) items c.args.place item c.self.invariant.up_to (ap (λ (n : ℕ). nat_le n c.self.inside.number) c.requires.no_number ∙ le_to 0 c.self.inside.number (omega arith));
    }

pub returns-clause-joins : goal.returns-clause-joins
returns-clause-joins c =
    let items = c.self.inside.items.items in
    let item = c.args.item in
    let news = c.insert.new.self.items in
    let listed = cells_of c.args.self.now c.self.inside.writer c.self.inside.start items c.self.invariant.sorted c.self.view_is in
    let gap : IsGap item_cmp (map keyed_cell_of items) (keyed_cell_of item).0 c.args.place = subst (λ (es : List KeyedCell). IsGap item_cmp es (keyed_cell_of item).0 c.args.place) listed c.requires.gap in
    let sorted = ap (λ (l : List PartItem). is_sorted item_cmp (map keyed_cell_of l)) c.in_ok-insert.ensures.items ∙ sorted_at items item c.args.place c.self.invariant.sorted gap in
    joins_alike (map keyed_cell_of items) (entries c.args.self.now.cells) (map keyed_cell_of (insert items c.args.place item)) (entries (from_sorted {R = item_cmp} (map keyed_cell_of news))) (keyed_cell_of item) 1 1 (sym listed)
    (ap (map keyed_cell_of) (sym c.in_ok-insert.ensures.items) ∙ sym (entries-from_sorted item_cmp (map keyed_cell_of news) (as_T sorted)))
    (new_at items item c.args.place gap)

pub returns-clause-same : goal.returns-clause-same
returns-clause-same c = ap (λ (p : IncarnationState). own_key p) c.self.view_is

pub returns-clause-moves : goal.returns-clause-moves
returns-clause-moves c =
    let item = c.args.item in
    let items = c.self.inside.items.items in
    let listed = cells_of c.args.self.now c.self.inside.writer c.self.inside.start items c.self.invariant.sorted c.self.view_is in
    let gap = subst (λ (es : List KeyedCell). IsGap item_cmp es (keyed_cell_of item).0 c.args.place) listed c.requires.gap in
    let news = c.insert.new.self.items in
    let sorted = ap (λ (l : List PartItem). is_sorted item_cmp (map keyed_cell_of l)) c.in_ok-insert.ensures.items ∙ sorted_at items item c.args.place c.self.invariant.sorted gap in
    incarnation_moves 0 c.args.self.now _ c.self.inside.writer c.self.inside.writer c.self.inside.start c.self.inside.start items news c.self.invariant.sorted sorted c.self.view_is refl
    (subst (λ (l : List PartItem). ItemsMove 0 items l) (sym c.in_ok-insert.ensures.items) (insert_moves items item c.args.place c.requires.no_number gap.none))
