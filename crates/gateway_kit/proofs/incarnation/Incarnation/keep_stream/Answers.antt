use Rattle.std.proofs.Common.{◌≡◌, List, map, length, true, sym, ap, subst, ◌∙◌, arith}
use Rattle.std.proofs.lemmas.Grind.{common_steps}
use lib.ListN.{length-map}
use Rattle.std.specs.Prelude.{filter}
use Rattle.std.specs.FinMap.{entries, entries-from_sorted, from_sorted}
use Rattle.std.specs.FinMap.Entries.{is_sorted, is_sorted-where_key, where_key}
use Rattle.gateway_kit.specs.Keys.{item_cmp, key_and_number, keyed_cell_of}
use Rattle.gateway_kit.specs.Queries.{in_stream}
use Rattle.gateway_kit.specs.Tallies.{IsTally, are_up_to}
use Rattle.gateway_kit.specs.declared.part_item.PartItem.{PartItem}
use Rattle.gateway_kit.proofs.Entries.{as_T, as_true}
use Rattle.gateway_kit.proofs.ItemMoves.{numbers_in, numbers_sorted}
use Rattle.gateway_kit.proofs.Narrowed.{all_filter, map_filter}
use Rattle.gateway_kit.proofs.OneCell.{cells_of}
use Rattle.gateway_kit.proofs.incarnation.Incarnation.keep_stream.Goals as goal

pub invariant_of-self : goal.invariant_of-self
invariant_of-self c =
    let s = c.args.stream.now in
    let items = c.self.inside.items.items in
    let kept : c.keep_in.new.items.items ≡ filter (λ (i : PartItem). in_stream s (i.stream, i.attrs)) items = c.keep_in.ensures.kept in
    let cells : map keyed_cell_of c.keep_in.new.items.items ≡ where_key item_cmp (in_stream s) (map keyed_cell_of items) = ap (map keyed_cell_of) kept ∙ map_filter keyed_cell_of (λ e. in_stream s e.0) items in
    record {
      sorted = ap (is_sorted item_cmp) cells ∙ as_true _ (is_sorted-where_key item_cmp (in_stream s) (map keyed_cell_of items) (as_T c.self.invariant.sorted));
      tallied = subst (λ (l : List PartItem). IsTally (map keyed_cell_of l) c.tally_of-self-inside.result) c.as_slice.ensures.value c.tally_of-self-inside.ensures;
      bounded = c.clear.ensures.items c.keep_in.new.items.items;
      up_to = ap (are_up_to c.self.inside.number) kept ∙ all_filter _ (λ (i : PartItem). in_stream s (i.stream, i.attrs)) items c.self.invariant.up_to;
    }

pub returns-clause-cells : goal.returns-clause-cells
returns-clause-cells c =
    let s = c.args.stream.now in
    let items = c.self.inside.items.items in
    let kept : c.keep_in.new.items.items ≡ filter (λ (i : PartItem). in_stream s (i.stream, i.attrs)) items = c.keep_in.ensures.kept in
    let cells : map keyed_cell_of c.keep_in.new.items.items ≡ where_key item_cmp (in_stream s) (map keyed_cell_of items) = ap (map keyed_cell_of) kept ∙ map_filter keyed_cell_of (λ e. in_stream s e.0) items in
    let sorted : is_sorted item_cmp (map keyed_cell_of c.keep_in.new.items.items) ≡ true = ap (is_sorted item_cmp) cells ∙ as_true _ (is_sorted-where_key item_cmp (in_stream s) (map keyed_cell_of items) (as_T c.self.invariant.sorted)) in
    entries-from_sorted item_cmp (map keyed_cell_of c.keep_in.new.items.items) (as_T sorted) ∙ cells
    ∙ ap (where_key item_cmp (in_stream s)) (sym (cells_of c.args.self.now c.self.inside.writer c.self.inside.start items c.self.invariant.sorted c.self.view_is))

pub returns-clause-numbers : goal.returns-clause-numbers
returns-clause-numbers c =
    let s = c.args.stream.now in
    let items = c.self.inside.items.items in
    let kept : c.keep_in.new.items.items ≡ filter (λ (i : PartItem). in_stream s (i.stream, i.attrs)) items = c.keep_in.ensures.kept in
    let numbers : map key_and_number c.keep_in.new.items.items ≡ where_key item_cmp (in_stream s) (map key_and_number items) = ap (map key_and_number) kept ∙ map_filter key_and_number (λ e. in_stream s e.0) items in
    let sorted : is_sorted item_cmp (map key_and_number c.keep_in.new.items.items) ≡ true = ap (is_sorted item_cmp) numbers ∙ as_true _ (is_sorted-where_key item_cmp (in_stream s) (map key_and_number items) (as_T (numbers_sorted items c.self.invariant.sorted))) in
    entries-from_sorted item_cmp (map key_and_number c.keep_in.new.items.items) (as_T sorted) ∙ numbers
    ∙ ap (where_key item_cmp (in_stream s)) (sym (numbers_in c.args.self.now c.self.inside.writer c.self.inside.start items c.self.invariant.sorted c.self.view_is))

pub returns-clause-dropped : goal.returns-clause-dropped
returns-clause-dropped c =
    let s = c.args.stream.now in
    let items = c.self.inside.items.items in
    let cells : map keyed_cell_of c.keep_in.new.items.items ≡ where_key item_cmp (in_stream s) (map keyed_cell_of items) = ap (map keyed_cell_of) c.keep_in.ensures.kept ∙ map_filter keyed_cell_of (λ e. in_stream s e.0) items in
    let sorted : is_sorted item_cmp (map keyed_cell_of c.keep_in.new.items.items) ≡ true = ap (is_sorted item_cmp) cells ∙ as_true _ (is_sorted-where_key item_cmp (in_stream s) (map keyed_cell_of items) (as_T c.self.invariant.sorted)) in
    let kept : length (entries (from_sorted {R = item_cmp} (map keyed_cell_of c.keep_in.new.items.items))) ≡ length c.keep_in.new.items.items = ap length (entries-from_sorted item_cmp (map keyed_cell_of c.keep_in.new.items.items) (as_T sorted)) ∙ length-map c.keep_in.new.items.items keyed_cell_of in
    let were : length (entries c.args.self.now.cells) ≡ length items = ap length (cells_of c.args.self.now c.self.inside.writer c.self.inside.start items c.self.invariant.sorted c.self.view_is) ∙ length-map items keyed_cell_of in
    grind (arith, common_steps)
