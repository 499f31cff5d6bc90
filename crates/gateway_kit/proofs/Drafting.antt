-- One more entry comes in.
use Rattle.std.proofs.Common.{◌≡◌, ℕ, zero, suc, get_or, ◌+◌, Bool, true, false, not, cond, List, [], ◌∷◌, ◌++◌, map, length, Option, Some, None, refl, sym, ap, ◌∙◌, arith, count_by, length-append}
use Rattle.std.specs.Prelude.{T, slice_get, is_none}
use Rattle.std.specs.Option.{option_eq}
use Rattle.std.specs.declared.cmp.Ordering.{Ordering}
use Rattle.std.specs.Cmp.{IsTotalOrder}
use Rattle.std.specs.FinMap.Entries.{find, is_sorted}
use Rattle.std.proofs.lemmas.List.{map-append}
use Rattle.std.proofs.lemmas.List.Sums.{sum_by-append}
use Rattle.std.proofs.Common.{subst, zero-add}
use Rattle.point_kit.specs.declared.cell.Cell.{Cell}
use Rattle.point_kit.specs.declared.payload.Payload.{Payload}
use Rattle.point_kit.specs.Join.{join_cells}
use Rattle.point_kit.specs.Equality.{payload_eq}
use Rattle.point_kit.specs.Join.{join_options}
use Rattle.gateway_kit.specs.Bringing.{Brings, is_new, is_change}
use Rattle.gateway_kit.specs.Changing.{KeyedCell, Drafts, replacement}
use Rattle.gateway_kit.specs.Keys.{ItemKey, item_cmp, keyed_cell_of}
use Rattle.point_kit.specs.Equality.{cell_eq}
use Rattle.gateway_kit.specs.declared.part_item.PartItem.{PartItem}
use Rattle.point_kit.proofs.EqualityLaws.{cell_itself}
use Rattle.gateway_kit.proofs.Entries.{not_None, same_Some, find_at}
use Rattle.gateway_kit.specs.KeyOrders.{item_total, item_exact}
use Rattle.gateway_kit.proofs.Times.{joined_stays}
use Rattle.gateway_kit.proofs.Prepared.{brings_none, brings_kept, brings_changed, brings_fresh}

pub count_push : {A : Type 0} (p : A → Bool) (xs : List A) (x : A) → count_by p (xs ++ x ∷ []) ≡ count_by p xs + cond (p x) 1 0
count_push p xs x = sum_by-append (λ y. cond (p y) 1 0) xs (x ∷ []) ∙ ap (λ (n : ℕ). count_by p xs + n) (zero-add (cond (p x) 1 0))

pub drafts_none : (es : List KeyedCell) → Drafts es [] [] []
drafts_none es = record { brings = brings_none item_cmp (join_cells payload_eq) replacement es; changed = refl; new = refl }

module _ (es came : List KeyedCell) (updates : List (ℕ × Cell Payload)) (fresh : List PartItem) (so_far : Drafts es came updates fresh) (k : ItemKey) (w : Cell Payload) (first : find item_cmp k came ≡ None) where
  change_at : (o : Option (Cell Payload)) → find item_cmp k es ≡ o → is_change item_cmp (join_cells payload_eq) cell_eq es (k, w) ≡ not (option_eq cell_eq o (join_options (join_cells payload_eq) o (Some w)))
  change_at o e = ap (λ x. not (option_eq cell_eq x (join_options (join_cells payload_eq) x (Some w)))) e

  new_at : (o : Option (Cell Payload)) → find item_cmp k es ≡ o → is_new item_cmp es (k, w) ≡ is_none o
  new_at o e = ap is_none e

  counted : (b : Bool) (n : ℕ) → is_change item_cmp (join_cells payload_eq) cell_eq es (k, w) ≡ b → length updates + length fresh + cond b 1 0 ≡ n → count_by (is_change item_cmp (join_cells payload_eq) cell_eq es) (came ++ (k, w) ∷ []) ≡ n
  counted b n e is = count_push (is_change item_cmp (join_cells payload_eq) cell_eq es) came (k, w) ∙ (λ i. so_far.changed i + cond (e i) 1 0) ∙ is

  counted_new : (b : Bool) (n : ℕ) → is_new item_cmp es (k, w) ≡ b → length fresh + cond b 1 0 ≡ n → count_by (is_new item_cmp es) (came ++ (k, w) ∷ []) ≡ n
  counted_new b n e is = count_push (is_new item_cmp es) came (k, w) ∙ (λ i. so_far.new i + cond (e i) 1 0) ∙ is

  pub drafts_kept : (v : Cell Payload) → find item_cmp k es ≡ Some v → join_cells payload_eq v w ≡ v → Drafts es (came ++ (k, w) ∷ []) updates fresh
  drafts_kept v there same = record {
    brings = brings_kept item_cmp (join_cells payload_eq) replacement item_total item_exact es came updates (map keyed_cell_of fresh) so_far.brings k w first v there same;
    changed = counted false _ (change_at (Some v) there ∙ ap (λ x. not (cell_eq v x)) same ∙ ap not (cell_itself v)) (omega arith);
    new = counted_new false _ (new_at (Some v) there) (omega arith);
  }

  pub drafts_changed : T (is_sorted item_cmp es) → (v : Cell Payload) (place : ℕ) (cell : Cell Payload) → find item_cmp k es ≡ Some v → slice_get (map (λ e. e.0) es) place ≡ Some k → cell ≡ join_cells payload_eq v w → cell_eq v cell ≡ false → Drafts es (came ++ (k, w) ∷ []) (updates ++ (place, cell) ∷ []) fresh
  drafts_changed sorted v place cell there at is differs = record {
    brings = brings_changed item_cmp (join_cells payload_eq) replacement item_total item_exact es came updates (map keyed_cell_of fresh) so_far.brings k w first sorted v place cell there at (ap (replacement v) is ∙ joined_stays v w);
    changed = counted true _ (change_at (Some v) there ∙ ap (λ x. not (cell_eq v x)) (sym is) ∙ ap not differs) (omega (arith, length-append updates ((place, cell) ∷ [])));
    new = counted_new false _ (new_at (Some v) there) (omega arith);
  }

  pub drafts_fresh : (item : PartItem) → keyed_cell_of item ≡ (k, w) → find item_cmp k es ≡ None → Drafts es (came ++ (k, w) ∷ []) updates (fresh ++ item ∷ [])
  drafts_fresh item is none = record {
    brings = subst (λ l. Brings item_cmp (join_cells payload_eq) replacement es (came ++ (k, w) ∷ []) updates l) (sym (map-append keyed_cell_of fresh (item ∷ []) ∙ ap (λ e. map keyed_cell_of fresh ++ e ∷ []) is)) (brings_fresh item_cmp (join_cells payload_eq) replacement item_total item_exact es came updates (map keyed_cell_of fresh) so_far.brings k w first none);
    changed = counted true _ (change_at None none) (omega (arith, length-append fresh (item ∷ [])));
    new = counted_new true _ (new_at None none) (omega (arith, length-append fresh (item ∷ [])));
  }

-- the value at a place, whose key is known
module _ {A K V : Type 0} (f : A → K × V) where
  pub at_place : (xs : List A) (i : ℕ) (x : A) (k : K) → slice_get (map (λ e. e.0) (map f xs)) i ≡ Some k → x ≡ get_or xs i x → (slice_get (map f xs) i ≡ Some (f x)) × ((f x).0 ≡ k)
  at_place [] i x k at is = absurd (not_None at)
  at_place (z ∷ xs) zero x k at is = (ap (λ y. Some (f y)) (sym is), ap (λ y. (f y).0) is ∙ same_Some at)
  at_place (z ∷ xs) (suc i) x k at is = at_place xs i x k at is

  pub found_place : {R : K → K → Ordering} → IsTotalOrder R → (xs : List A) (i : ℕ) (x : A) (k : K) → T (is_sorted R (map f xs)) → slice_get (map (λ e. e.0) (map f xs)) i ≡ Some k → x ≡ get_or xs i x → find R k (map f xs) ≡ Some (f x).1
  found_place {R = R} o xs i x k sorted at is =
      let here = at_place xs i x k at is in
      subst (λ q. find R q (map f xs) ≡ Some (f x).1) here.1 (find_at o (map f xs) i (f x) sorted here.0)
