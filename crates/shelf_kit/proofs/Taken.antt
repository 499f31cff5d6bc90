-- A value that is taken off its shelf.
use Rattle.std.proofs.Common.{◌≡◌, ℕ, suc, ◌+◌, ◌-◌, ◌<◌, ◌≤◌, List, [], ◌++◌, map, length, get_or, take, drop, sym, ap, subst, ◌∙◌, arith, add-one}
use Rattle.std.specs.Prelude.{slice_set}
use Rattle.std.specs.List.{All, flat_map, remove}
use Rattle.std.proofs.lemmas.List.{nil_from_length, drop-set-lt, get_or-set_same, length-set, take-set-le}
use Rattle.std.proofs.lemmas.List.Edits.{length-remove}
use Rattle.std.proofs.lemmas.List.Elements.{All-same, All-set}
use Rattle.shelf_kit.specs.Shelving.{AreTops, IsFilled, IsShelved, Locates, Removes, Takes, bounds_of, bounds_on, items_of, items_on, starts_from}
use Rattle.shelf_kit.specs.declared.shelf.Shelf.{Shelf}
use Rattle.shelf_kit.proofs.Begins.{length_starts, starts_gone, starts_taken}
use Rattle.shelf_kit.proofs.Bounds.{begin_bounds, filled_at}
use Rattle.shelf_kit.proofs.Most.{all_remove}
use Rattle.shelf_kit.proofs.Pieces.{back, front, piece_none, piece_set, remove_in}
use Rattle.shelf_kit.proofs.Places.{got}
use Rattle.shelf_kit.proofs.Tops.{tops_kept}

module _ {A : Type 0} {xs ys : List (Shelf A)} {len index s at : ℕ} {value : A} (l : Locates xs len index s at) (t : Takes xs ys s at value) where
  pub tops_left : (tops : List ℕ) → AreTops xs tops → AreTops ys tops
  tops_left tops up =
      let P = λ (n : ℕ). n ≤ get_or tops s 0 in
      tops_kept l.within t.changes tops up (λ was. All-same P (bounds_of t.new) (remove (bounds_of t.old) at) t.bounds (all_remove P (bounds_of t.old) at was))

  module _ {starts : List ℕ} (is : IsShelved xs starts len) (inside : index < len) where
    within : at < length (items_of t.old)
    within = l.inside t.old t.changes.at inside

    long : length (items_of t.new) + 1 ≡ length (items_of t.old)
    long = ap (λ k. length k + 1) t.items ∙ length-remove (items_of t.old) at within

    -- the shelf that is left
    same_long : (x : Shelf A) → x ≡ get_or ys s x → length (items_of x) ≡ length (items_of t.new)
    same_long x e = ap (λ (y : Shelf A). length (items_of y)) (e ∙ ap (λ (zs : List (Shelf A)). get_or zs s x) t.changes.is ∙ get_or-set_same xs s t.new x l.within)

    taken : value ≡ get_or (items_on xs) index value
    taken = t.was ∙ sym (got xs len index s at l inside t.old t.changes.at value)

    items_left : items_on ys ≡ remove (items_on xs) index
    items_left =
        ap items_on t.changes.is ∙ piece_set items_of xs s t.new l.within ∙ ap (λ k. front items_of xs s ++ (k ++ back items_of xs s)) t.items
        ∙ sym (remove_in items_of xs s at t.old l.within t.changes.at within) ∙ ap (λ k. remove (items_on xs) k) l.place

    own : IsFilled t.old
    own = filled_at xs s t.old is.filled l.within t.changes.at

    inside_bounds : at < length (bounds_of t.old)
    inside_bounds = let m = own.matched in let w = within in omega (arith, m, w)

    bounds_left : bounds_on ys ≡ remove (bounds_on xs) index
    bounds_left =
        ap bounds_on t.changes.is ∙ piece_set bounds_of xs s t.new l.within ∙ ap (λ k. front bounds_of xs s ++ (k ++ back bounds_of xs s)) t.bounds
        ∙ sym (remove_in bounds_of xs s at t.old l.within t.changes.at inside_bounds)
        ∙ ap (λ k. remove (bounds_on xs) (k + at)) (begin_bounds xs s is.filled) ∙ ap (λ k. remove (bounds_on xs) k) l.place

    matched : length (bounds_of t.new) ≡ length (items_of t.new)
    matched =
        let less = ap length t.bounds in
        let n = length-remove (bounds_of t.old) at inside_bounds in
        let m = own.matched in
        let fewer = long in
        omega (arith, less, n, m, fewer)

    count_left : len - 1 ≡ length (items_on ys)
    count_left = let all = is.counted in let less = ap length items_left in let n = length-remove (items_on xs) index (omega (arith, all, inside)) in omega (arith, all, less, n)

    filled_left : 0 < length (items_of t.new) → All IsFilled ys
    filled_left some = subst (λ (zs : List (Shelf A)). All IsFilled zs) (sym t.changes.is) (All-set IsFilled xs s t.new (record { some = some; matched = matched }) is.filled)

    module _ {x : Shelf A} (here : x ≡ get_or ys s x) {news : List ℕ} (e : news ≡ take (s + 1) starts ++ map (λ n. n - 1) (drop (s + 1) starts)) where
      begins_left : news ≡ starts_from 0 ys
      begins_left =
          e ∙ (λ i. take (add-one s i) (is.begins i) ++ map (λ n. n - 1) (drop (add-one s i) (is.begins i)))
          ∙ sym (starts_taken 0 xs s t.old t.new l.within t.changes.at long) ∙ ap (λ (zs : List (Shelf A)). starts_from 0 zs) (sym t.changes.is)

      pub removes_left : 0 < length (items_of x) → Removes xs ys news len index value
      removes_left some =
          let same = same_long x here in
          record {
            was = taken;
            shelved = record { begins = begins_left; filled = filled_left (omega (arith, same, some)); counted = count_left };
            items = items_left;
            bounds = bounds_left;
          }

      pub long_left : s < length news
      long_left =
          let many = ap length begins_left in
          let same = length_starts 0 ys in
          let set = ap length t.changes.is in
          let kept = length-set xs s t.new in
          let w = l.within in
          omega (arith, many, same, set, kept, w)

      -- a shelf goes with its last value
      module _ (empty : length (items_of x) ≡ 0) {zs : List (Shelf A)} (without : zs ≡ remove ys s) {ns : List ℕ} (others : ns ≡ remove news s) where
        none : length (items_of t.new) ≡ 0
        none = sym (same_long x here) ∙ empty

        is_without : zs ≡ remove (slice_set xs s t.new) s
        is_without = without ∙ ap (λ (l : List (Shelf A)). remove l s) t.changes.is

        gone : {B : Type 0} (f : Shelf A → List B) → f t.new ≡ [] → flat_map f zs ≡ flat_map f ys
        gone f e = ap (λ (l : List (Shelf A)). flat_map f l) is_without ∙ piece_none f xs s t.new l.within e ∙ ap (λ (l : List (Shelf A)). flat_map f l) (sym t.changes.is)

        same_items : items_on zs ≡ items_on ys
        same_items = gone items_of (nil_from_length (items_of t.new) none)

        begins_gone : ns ≡ starts_from 0 zs
        begins_gone =
            others ∙ ap (λ (l : List ℕ). remove l s) begins_left ∙ ap (λ (l : List (Shelf A)). remove (starts_from 0 l) s) t.changes.is
            ∙ sym (starts_gone 0 xs s t.new l.within none) ∙ ap (λ (l : List (Shelf A)). starts_from 0 l) (sym is_without)

        filled_gone : All IsFilled zs
        filled_gone =
            subst (λ (l : List (Shelf A)). All IsFilled l)
            ((λ i. sym (take-set-le s xs s t.new (omega arith)) i ++ sym (drop-set-lt (suc s) xs s t.new (omega arith)) i) ∙ sym is_without)
            (all_remove IsFilled xs s is.filled)

        pub removes_gone : Removes xs zs ns len index value
        removes_gone = record {
          was = taken;
          shelved = record { begins = begins_gone; filled = filled_gone; counted = count_left ∙ sym (ap length same_items) };
          items = same_items ∙ items_left;
          bounds = gone bounds_of (nil_from_length (bounds_of t.new) (matched ∙ none)) ∙ bounds_left;
        }
