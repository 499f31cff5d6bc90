-- The first shelf of a list.
use Rattle.std.proofs.Common.{◌≡◌, ℕ, zero, suc, ◌<◌, ◌≤◌, List, [], ◌∷◌, ◌++◌, length, get_or, refl, sym, ap, subst, ◌∙◌, arith}
use Rattle.std.specs.List.{All, insert}
use Rattle.std.proofs.lemmas.List.{length-append, nil_from_length}
use Rattle.std.proofs.lemmas.List.Elements.{All-cons, All-nil, All-same}
use Rattle.std.proofs.lemmas.Slice.Zip.{AllZip-long}
use Rattle.shelf_kit.specs.Shelving.{AreAtMost, AreTops, IsFilled, IsShelved, IsTop, bounds_of, bounds_on, items_of, items_on, starts_from}
use Rattle.shelf_kit.specs.declared.shelf.Shelf.{Shelf}

module _ {A : Type 0} where
  no_shelves : (xs : List (Shelf A)) → All IsFilled xs → items_on xs ≡ [] → xs ≡ []
  no_shelves [] filled e = refl
  no_shelves (x ∷ xs) filled e =
      let first : 0 < length (items_of x) = (filled 0 x (omega arith)).some in
      let both = length-append (items_of x) (items_on xs) in
      let none = ap length e in
      absurd (omega (arith, first, both, none))

  -- the first shelf
  module _ {xs : List (Shelf A)} {starts : List ℕ} {len : ℕ} (is : IsShelved xs starts len) (none : items_on xs ≡ []) (x : Shelf A) {v : A} {bound : ℕ} (one : items_of x ≡ v ∷ []) (only : bounds_of x ≡ bound ∷ []) {ys : List (Shelf A)} (e : ys ≡ xs ++ x ∷ []) where
    alone : ys ≡ x ∷ []
    alone = e ∙ ap (λ (l : List (Shelf A)). l ++ x ∷ []) (no_shelves xs is.filled none)

    pub begun : {news : List ℕ} → news ≡ starts ++ 0 ∷ [] → IsShelved ys news 1
    begun f = record {
      begins = f ∙ ap (λ (l : List ℕ). l ++ 0 ∷ []) (is.begins ∙ ap (λ (l : List (Shelf A)). starts_from 0 l) (no_shelves xs is.filled none)) ∙ ap (λ (l : List (Shelf A)). starts_from 0 l) (sym alone);
      filled = subst (λ (l : List (Shelf A)). All IsFilled l) (sym alone) (All-cons IsFilled x [] (record { some = let count = ap length one in omega (arith, count); matched = ap length only ∙ sym (ap length one) }) (All-nil IsFilled));
      counted = sym (ap (λ (l : List (Shelf A)). length (items_on l)) alone ∙ ap (λ (l : List A). length (l ++ [])) one);
    }

    pub begun_bounds : bounds_on ys ≡ bound ∷ []
    begun_bounds = ap bounds_on alone ∙ ap (λ (l : List ℕ). l ++ []) only

    pub begun_tops : (tops : List ℕ) → AreTops xs tops → {news : List ℕ} → news ≡ tops ++ bound ∷ [] → AreTops ys news
    begun_tops tops up {news} e =
        let P = λ (n : ℕ). n ≤ bound in
        let few : length tops ≡ 0 = AllZip-long IsTop xs tops up ∙ ap (λ (l : List (Shelf A)). length l) (no_shelves xs is.filled none) in
        subst (λ (l : List (Shelf A)). AreTops l news) (sym alone)
        (subst (λ (l : List ℕ). AreTops (x ∷ []) l) (sym (e ∙ ap (λ (l : List ℕ). l ++ bound ∷ []) (nil_from_length tops few)))
        (All-same P (bounds_of x) (bound ∷ []) only (All-cons P bound [] (omega arith) (All-nil P)), tt))

pub bound_alone : (bs : List ℕ) (i b : ℕ) (ns : List ℕ) → length bs ≡ 0 → ns ≡ b ∷ [] → AreAtMost (insert bs i b) ns
bound_alone [] zero b ns none e k = subst (λ l. get_or (b ∷ []) k 0 ≤ get_or l k 0) (sym e) (omega arith)
bound_alone [] (suc i) b ns none e k = subst (λ l. get_or (b ∷ []) k 0 ≤ get_or l k 0) (sym e) (omega arith)
bound_alone (x ∷ bs) i b ns none e k = absurd (omega (arith, none))
