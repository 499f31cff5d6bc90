-- Going up a list in which the answers to a key do not fall.
use Rattle.std.proofs.Common.{◌≡◌, ℕ, zero, suc, ◌+◌, ◌<◌, ◌≤◌, List, [], ◌∷◌, length, get_or, Ok, Err, sym, ap, ◌∙◌, arith, refl}
use Rattle.std.specs.List.Sorted.{IsBinarySearchResult}
use Rattle.std.specs.declared.cmp.Ordering.{Ordering}
use Rattle.std.specs.declared.cmp.Ordering.TheVariants.{Less, Equal, Greater}
use Rattle.std.specs.Ordering.{ordering_index}
use Rattle.gateway_kit.specs.Weave.{AreBelow}

index_least : (r : Ordering) → ordering_index r ≤ 0 → r ≡ Less
index_least Less h = refl
index_least Equal h = absurd (omega arith)
index_least Greater h = absurd (omega arith)

index_most : (r : Ordering) → 2 ≤ ordering_index r → r ≡ Greater
index_most Less h = absurd (omega arith)
index_most Equal h = absurd (omega arith)
index_most Greater h = refl

-- what stands at a place, whatever stands for the places past the end
at_any : {A : Type 0} (xs : List A) (i : ℕ) (x d : A) → i < length xs → x ≡ get_or xs i x → get_or xs i d ≡ x
at_any [] i x d h e = absurd (omega arith)
at_any (z ∷ xs) zero x d h e = sym e
at_any (z ∷ xs) (suc i) x d h e = at_any xs i x d (omega arith) e

module _ {A : Type 0} (R : A → A → Ordering) (xs : List A) (key : A) where
  pub below_here : (i : ℕ) (x : A) → i < length xs → x ≡ get_or xs i x → R x key ≡ Less → AreBelow R xs key (i + 1)
  below_here i x h at is up k d l =
      let top : ordering_index (R (get_or xs i d) key) ≡ 0 = ap (λ y. ordering_index (R y key)) (at_any xs i x d h at) ∙ ap ordering_index is in
      let rises : ordering_index (R (get_or xs k d) key) ≤ ordering_index (R (get_or xs i d) key) = up k i d (omega arith) h in
      index_least (R (get_or xs k d) key) (omega arith)

  pub none_below : AreBelow R xs key 0
  none_below up k d l = absurd (omega arith)

  pub tied_here : (i : ℕ) (x : A) → i < length xs → x ≡ get_or xs i x → R x key ≡ Equal → IsBinarySearchResult (λ y. R y key) xs (Ok i)
  tied_here i x h at is = λ d. ap (λ y. R y key) (at_any xs i x d h at) ∙ is

  pub above_here : (i : ℕ) (x : A) → i < length xs → x ≡ get_or xs i x → R x key ≡ Greater → AreBelow R xs key i → IsBinarySearchResult (λ y. R y key) xs (Err i)
  above_here i x h at is below = λ up. (
    λ k d low high. below up k d high,
    λ k d low high.
        let bottom : ordering_index (R (get_or xs i d) key) ≡ 2 = ap (λ y. ordering_index (R y key)) (at_any xs i x d h at) ∙ ap ordering_index is in
        let rises : ordering_index (R (get_or xs i d) key) ≤ ordering_index (R (get_or xs k d) key) = up i k d low high in
        index_most (R (get_or xs k d) key) (omega arith),
  )

  pub all_below : (i : ℕ) → length xs ≤ i → AreBelow R xs key i → IsBinarySearchResult (λ y. R y key) xs (Err i)
  all_below i h below = λ up. (λ k d low high. below up k d high, λ k d low high. absurd (omega arith))

-- where the last is below a key all are
pub behind_last : {A : Type 0} (answer : A → Ordering) (xs : List A) (i : ℕ) (x : A) → i + 1 ≡ length xs → x ≡ get_or xs i x → answer x ≡ Less → IsBinarySearchResult answer xs (Err (length xs))
behind_last answer xs i x end at is = λ up. (
  λ k d low high.
      let top : ordering_index (answer (get_or xs i d)) ≡ 0 = ap (λ y. ordering_index (answer y)) (at_any xs i x d (omega arith) at) ∙ ap ordering_index is in
      let rises : ordering_index (answer (get_or xs k d)) ≤ ordering_index (answer (get_or xs i d)) = up k i d (omega arith) (omega arith) in
      index_least (answer (get_or xs k d)) (omega arith),
  λ k d low high. absurd (omega arith),
)
