use Rattle.std.proofs.Common.{◌≡◌, ℕ, ◌+◌, ◌-◌, ◌<◌, ◌≤◌, List, length, subst, Bool, true, false, cond, map, nat_le, vec_capacity, le-leb, refl, sym, ap, ◌∙◌, arith}
use Rattle.std.proofs.lemmas.Grind.{common_steps}
use Rattle.gateway_kit.specs.Keys.{item_cmp, keyed_cell_of}
use Rattle.gateway_kit.specs.Weave.{weave}
use Rattle.gateway_kit.proofs.Entries.{on_keys, map-weave}
use Rattle.gateway_kit.proofs.Finishing.{no_items}
use Rattle.gateway_kit.proofs.Ahead.{weave-nil}
use Rattle.std.proofs.lemmas.Bool.Decides.{nat_tests}
use Rattle.std.specs.FinMap.Entries.{is_sorted}
use Rattle.gateway_kit.specs.Numbers.{ItemsMove}
use Rattle.gateway_kit.specs.Tallies.{are_up_to}
use Rattle.gateway_kit.specs.declared.part_item.PartItem.{PartItem}
use Rattle.gateway_kit.proofs.ItemMoves.{all_up_to, items_stay, woven_move}
use Rattle.gateway_kit.proofs.MergeDrafts.{all_weave}
use Rattle.gateway_kit.proofs.items.put_items.Goals as goal
use Rattle.gateway_kit.proofs.items.put_items.Goals.{else-not-is_empty-via-then-not-is_empty+else-len-saturating_sub, else-not-is_empty-via-else-not-is_empty}

pub returns-then-len-saturating_sub-clause-woven : goal.returns-then-len-saturating_sub-clause-woven
returns-then-len-saturating_sub-clause-woven c =
    let fits : length c.args.items.now.items + length c.args.fresh.items ≤ vec_capacity c.args.room = grind (arith, common_steps) in
    ap (map keyed_cell_of) (c.settle.ensures.same ∙ c.weave_in.ensures) ∙ map-weave _ (on_keys item_cmp) keyed_cell_of (λ x y. refl) c.args.items.now.items c.renumber_all.new.values.items
    ∙ ap (weave (on_keys item_cmp) (map keyed_cell_of c.args.items.now.items)) c.renumber_all.ensures.same
    ∙ ap (λ b. cond b (weave (on_keys item_cmp) (map keyed_cell_of c.args.items.now.items) (map keyed_cell_of c.args.fresh.items)) (map keyed_cell_of c.args.items.now.items)) (sym (le-leb _ _ fits))

pub returns-then-len-saturating_sub-clause-moves : goal.returns-then-len-saturating_sub-clause-moves
returns-then-len-saturating_sub-clause-moves c =
    subst (λ (l : List PartItem). ItemsMove c.args.number c.args.items.now.items l) (sym (c.settle.ensures.same ∙ c.weave_in.ensures))
    (woven_move c.args.number c.args.items.now.items c.renumber_all.new.values.items c.requires.sorted (ap (is_sorted item_cmp) c.renumber_all.ensures.same ∙ c.requires.fresh_sorted) c.renumber_all.ensures.numbers)

pub returns-then-len-saturating_sub-clause-up_to : goal.returns-then-len-saturating_sub-clause-up_to
returns-then-len-saturating_sub-clause-up_to c = λ n g h.
    ap (λ (l : List PartItem). are_up_to n l) (c.settle.ensures.same ∙ c.weave_in.ensures)
    ∙ all_weave (λ x y. on_keys item_cmp (keyed_cell_of x) (keyed_cell_of y)) (λ (i : PartItem). nat_le i.number n) c.args.items.now.items c.renumber_all.new.values.items h (all_up_to c.args.number c.renumber_all.new.values.items c.renumber_all.ensures.numbers n g)

pub returns-else-not-is_empty-clause-moves : goal.returns-else-not-is_empty-clause-moves
returns-else-not-is_empty-clause-moves c = items_stay c.args.number c.args.items.now.items

same_either : {A : Type 0} (b : Bool) (x y : A) → y ≡ x → x ≡ cond b y x
same_either true x y e = sym e
same_either false x y e = refl

no_room : (a b n : ℕ) → n - a < b → nat_le (a + b) n ≡ false
no_room a b n h = grind (arith, nat_tests)

pub returns-else-not-is_empty-clause-woven : goal.returns-else-not-is_empty-clause-woven
returns-else-not-is_empty-clause-woven c = elim c.else-not-is_empty.branch [
  | else-not-is_empty-via-then-not-is_empty+else-len-saturating_sub w ↦
      let none : nat_le (length c.args.items.now.items + length c.args.fresh.items) (vec_capacity c.args.room) ≡ false = no_room (length c.args.items.now.items) (length c.args.fresh.items) (vec_capacity c.args.room) (grind (arith, common_steps)) in
      ap (λ b. cond b (weave (on_keys item_cmp) (map keyed_cell_of c.args.items.now.items) (map keyed_cell_of c.args.fresh.items)) (map keyed_cell_of c.args.items.now.items)) (sym none)
  | else-not-is_empty-via-else-not-is_empty w ↦
      let empty : length c.args.fresh.items ≡ 0 = grind (arith, common_steps) in
      same_either (nat_le (length c.args.items.now.items + length c.args.fresh.items) (vec_capacity c.args.room)) (map keyed_cell_of c.args.items.now.items) (weave (on_keys item_cmp) (map keyed_cell_of c.args.items.now.items) (map keyed_cell_of c.args.fresh.items))
      (ap (λ l. weave (on_keys item_cmp) (map keyed_cell_of c.args.items.now.items) (map keyed_cell_of l)) (no_items c.args.fresh.items empty) ∙ weave-nil (on_keys item_cmp) (map keyed_cell_of c.args.items.now.items))
]
