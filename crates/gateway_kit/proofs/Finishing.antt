-- Changes in the making become changes: new items in order, and room for them.
use Rattle.std.proofs.Common.{◌≡◌, ℕ, ◌+◌, ◌≤◌, ◌⊎◌, inl, inr, true, false, cond, List, [], ◌∷◌, map, length, refl, sym, ap, ◌∙◌, arith, nat_le, vec_capacity, true≢false, le-leb}
use Rattle.std.specs.FinMap.Entries.{find, is_sorted}
use Rattle.point_kit.specs.Join.{join_cells}
use Rattle.point_kit.specs.Equality.{payload_eq}
use Rattle.point_kit.specs.Join.{join_options}
use Rattle.gateway_kit.specs.Amending.{with_changes}
use Rattle.gateway_kit.specs.Changing.{KeyedCell, Drafts, Prepares, after_growth, replacement}
use Rattle.gateway_kit.specs.Keys.{ItemKey, item_cmp, keyed_cell_of}
use Rattle.gateway_kit.specs.Weave.{weave}
use Rattle.gateway_kit.specs.declared.changes.Changes.{Changes}
use Rattle.gateway_kit.specs.declared.part_item.PartItem.{PartItem}
use Rattle.gateway_kit.proofs.Entries.{on_keys, as_T, as_true, keys-with_changes, is_sorted-with_changes, sorted_weave}
use lib.ListN.{length-map}
use Rattle.gateway_kit.specs.KeyOrders.{item_total}
use Rattle.gateway_kit.proofs.Prepared.{brings_join, brings_held}

pub no_items : {A : Type 0} (xs : List A) → length xs ≡ 0 → xs ≡ []
no_items [] e = refl
no_items (x ∷ xs) e = absurd (omega arith)

pub prepared : (es came : List KeyedCell) (c : Changes) (fresh : List PartItem) → is_sorted item_cmp es ≡ true → ((q : ItemKey) → find item_cmp q (map keyed_cell_of c.fresh.items) ≡ find item_cmp q (map keyed_cell_of fresh)) → length c.fresh.items ≡ length fresh → (length es + length c.fresh.items ≤ vec_capacity c.room) ⊎ (length c.fresh.items ≡ 0) → Drafts es came c.updates.items fresh → Prepares es came c
prepared es came c fresh sorted same len room drafts = record {
  joined = elim (nat_le (length es + length c.fresh.items) (vec_capacity c.room)) as (λ b. nat_le (length es + length c.fresh.items) (vec_capacity c.room) ≡ b → (q : ItemKey) → find item_cmp q (cond b (weave (on_keys item_cmp) (with_changes replacement es c.updates.items) (map keyed_cell_of c.fresh.items)) (with_changes replacement es c.updates.items)) ≡ join_options (join_cells payload_eq) (find item_cmp q es) (find item_cmp q came)) [
    | true ↦ λ fits q. brings_join item_cmp (join_cells payload_eq) replacement item_total es came c.updates.items (map keyed_cell_of fresh) (map keyed_cell_of c.fresh.items) (as_T sorted) (as_T c.sorted) same drafts.brings q
    | false ↦ λ fits q. brings_held item_cmp (join_cells payload_eq) replacement es came c.updates.items (map keyed_cell_of fresh) (λ k. sym (same k) ∙ ap (λ l. find item_cmp k (map keyed_cell_of l)) (no_items c.fresh.items (none fits))) drafts.brings q
  ] refl;
  changed = drafts.changed ∙ ap (λ (n : ℕ). length c.updates.items + n) (sym len);
  new = drafts.new ∙ sym len;
}
  where
    none : nat_le (length es + length c.fresh.items) (vec_capacity c.room) ≡ false → length c.fresh.items ≡ 0
    none small = elim room [ inl fits ↦ absurd (true≢false (sym (le-leb (length es + length c.fresh.items) (vec_capacity c.room) fits) ∙ small)) | inr e ↦ e ]

-- what is put at places, and then woven in, is as the changes say
pub installed : (old mid : List PartItem) (new : List KeyedCell) (c : Changes) → map keyed_cell_of mid ≡ with_changes replacement (map keyed_cell_of old) c.updates.items → new ≡ cond (nat_le (length mid + length c.fresh.items) (vec_capacity c.room)) (weave (on_keys item_cmp) (map keyed_cell_of mid) (map keyed_cell_of c.fresh.items)) (map keyed_cell_of mid) → new ≡ after_growth (map keyed_cell_of old) c
installed old mid new c put woven =
    let long : length mid ≡ length (map keyed_cell_of old) = sym (length-map mid keyed_cell_of) ∙ ap length put ∙ sym (length-map (with_changes replacement (map keyed_cell_of old) c.updates.items) (λ e. e.0)) ∙ ap length (keys-with_changes item_total replacement (map keyed_cell_of old) c.updates.items) ∙ length-map (map keyed_cell_of old) (λ e. e.0) in
    woven ∙ (λ i. cond (nat_le (long i + length c.fresh.items) (vec_capacity c.room)) (weave (on_keys item_cmp) (put i) (map keyed_cell_of c.fresh.items)) (put i))

pub sorted_grown : (es : List KeyedCell) (c : Changes) → is_sorted item_cmp es ≡ true → is_sorted item_cmp (after_growth es c) ≡ true
sorted_grown es c h =
    let updated : is_sorted item_cmp (with_changes replacement es c.updates.items) ≡ true = is_sorted-with_changes item_total replacement es c.updates.items ∙ h in
    elim (nat_le (length es + length c.fresh.items) (vec_capacity c.room)) as (λ b. is_sorted item_cmp (cond b (weave (on_keys item_cmp) (with_changes replacement es c.updates.items) (map keyed_cell_of c.fresh.items)) (with_changes replacement es c.updates.items)) ≡ true) [
      | true ↦ as_true _ (sorted_weave item_total (with_changes replacement es c.updates.items) (map keyed_cell_of c.fresh.items) (as_T updated) (as_T c.sorted))
      | false ↦ updated
    ]
