-- Numbers that the bounds of shelves do not exceed.
use Rattle.std.proofs.Common.{◌≡◌, ℕ, zero, suc, ◌<◌, ◌≤◌, List, [], ◌∷◌, length, get_or, sym, subst, arith}
use Rattle.std.specs.Prelude.{slice_set}
use Rattle.std.specs.List.{insert, remove}
use Rattle.std.proofs.lemmas.List.{set-get_or}
use Rattle.std.proofs.lemmas.List.Elements.{All-weaker}
use Rattle.shelf_kit.specs.Shelving.{AreTops, Changes, IsTop, bounds_of}
use Rattle.shelf_kit.specs.declared.shelf.Shelf.{Shelf}

module _ {A : Type 0} where
  pub top_more : (x : Shelf A) (few most : ℕ) → IsTop x few → few ≤ most → IsTop x most
  top_more x few most top h = All-weaker (λ n. n ≤ few) (λ n. n ≤ most) (λ n l. omega (arith, h, l)) (bounds_of x) top

  pub top_at : (xs : List (Shelf A)) (ts : List ℕ) (s : ℕ) (x : Shelf A) → AreTops xs ts → s < length xs → x ≡ get_or xs s x → IsTop x (get_or ts s 0)
  top_at [] ts s x h l e = absurd (omega (arith, l))
  top_at (y ∷ xs) [] s x h l e = absurd h
  top_at (y ∷ xs) (t ∷ ts) zero x h l e = subst (λ (z : Shelf A). IsTop z t) (sym e) h.0
  top_at (y ∷ xs) (t ∷ ts) (suc s) x h l e = top_at xs ts s x h.1 (omega (arith, l)) e

  tops_set : (xs : List (Shelf A)) (ts : List ℕ) (s : ℕ) (x : Shelf A) (t : ℕ) → AreTops xs ts → IsTop x t → AreTops (slice_set xs s x) (slice_set ts s t)
  tops_set [] [] zero x t h up = h
  tops_set [] [] (suc s) x t h up = h
  tops_set [] (u ∷ ts) s x t h up = absurd h
  tops_set (y ∷ xs) [] s x t h up = absurd h
  tops_set (y ∷ xs) (u ∷ ts) zero x t h up = (up, h.1)
  tops_set (y ∷ xs) (u ∷ ts) (suc s) x t h up = (h.0, tops_set xs ts s x t h.1 up)

  -- one shelf is changed
  module _ {xs ys : List (Shelf A)} {s : ℕ} (l : s < length xs) {old new : Shelf A} (c : Changes xs ys s old new) (ts : List ℕ) (h : AreTops xs ts) where
    -- and its top is raised
    pub tops_raised : (t : ℕ) → get_or ts s 0 ≤ t → (IsTop old t → IsTop new t) → AreTops ys (slice_set ts s t)
    tops_raised t most up =
        subst (λ (zs : List (Shelf A)). AreTops zs (slice_set ts s t)) (sym c.is)
        (tops_set xs ts s new t h (up (top_more old (get_or ts s 0) t (top_at xs ts s old h l c.at) most)))

    pub tops_kept : (IsTop old (get_or ts s 0) → IsTop new (get_or ts s 0)) → AreTops ys ts
    tops_kept up = subst (λ (us : List ℕ). AreTops ys us) (set-get_or ts s 0) (tops_raised (get_or ts s 0) (omega arith) up)

  pub tops_insert : (xs : List (Shelf A)) (ts : List ℕ) (s : ℕ) (x : Shelf A) (t : ℕ) → AreTops xs ts → IsTop x t → AreTops (insert xs s x) (insert ts s t)
  tops_insert [] [] zero x t h up = (up, h)
  tops_insert [] [] (suc s) x t h up = (up, h)
  tops_insert [] (u ∷ ts) s x t h up = absurd h
  tops_insert (y ∷ xs) [] s x t h up = absurd h
  tops_insert (y ∷ xs) (u ∷ ts) zero x t h up = (up, h)
  tops_insert (y ∷ xs) (u ∷ ts) (suc s) x t h up = (h.0, tops_insert xs ts s x t h.1 up)

  pub tops_remove : (xs : List (Shelf A)) (ts : List ℕ) (s : ℕ) → AreTops xs ts → AreTops (remove xs s) (remove ts s)
  tops_remove [] [] zero h = h
  tops_remove [] [] (suc s) h = h
  tops_remove [] (u ∷ ts) s h = absurd h
  tops_remove (y ∷ xs) [] s h = absurd h
  tops_remove (y ∷ xs) (u ∷ ts) zero h = h.1
  tops_remove (y ∷ xs) (u ∷ ts) (suc s) h = (h.0, tops_remove xs ts s h.1)
