-- What of a list goes before a value that is woven in.
use Rattle.std.proofs.Common.{◌≡◌, ℕ, zero, suc, ◌<◌, ◌≤◌, List, [], ◌∷◌, ◌++◌, length, map, take, drop, get_or, refl, sym, ap, subst, ◌∙◌, append_assoc, length-append, arith}
use Rattle.std.proofs.lemmas.List.{get_or_append_left}
use Rattle.std.specs.Prelude.{T}
use Rattle.std.specs.Cmp.{IsTotalOrder}
use Rattle.std.specs.List.Sorted.{IsNonDecreasingBy}
use Rattle.std.specs.Ordering.{ordering_index}
use Rattle.std.specs.declared.cmp.Ordering.{Ordering}
use Rattle.std.specs.declared.cmp.Ordering.TheVariants.{Less}
use Rattle.std.specs.FinMap.{IsAntisymmetric}
use Rattle.std.specs.FinMap.Entries.{by_order, is_sorted}
use Rattle.gateway_kit.specs.Weave.{AreBelow, GoBefore, MovedBefore, by_key, weave}
use Rattle.gateway_kit.proofs.Entries.{first, second}
use Rattle.gateway_kit.proofs.Places.{below_at, does_not_fall}

pub weave-nil : {A : Type 0} (R : A → A → Ordering) (xs : List A) → weave R xs [] ≡ xs
weave-nil R [] = refl
weave-nil R (x ∷ xs) = refl

module _ {A : Type 0} (R : A → A → Ordering) (y : A) (room xs room_after xs_after : List A) where
  -- moving what goes before a value
  pub moved_before : (count : ℕ) → GoBefore R count xs y → room_after ≡ room ++ take count xs → xs_after ≡ drop count xs → MovedBefore R y room xs room_after xs_after
  moved_before count before e f ys =
      ap (λ (l : List A). l ++ weave R xs_after (y ∷ ys)) e ∙ ap (λ (l : List A). (room ++ take count xs) ++ weave R l (y ∷ ys)) f
      ∙ append_assoc room (take count xs) (weave R (drop count xs) (y ∷ ys)) ∙ ap (λ (l : List A). room ++ l) (sym (before ys))

pub sorted_drop : {A K V : Type 0} (R : K → K → Ordering) (f : A → K × V) (i : ℕ) (xs : List A) → T (is_sorted R (map f xs)) → T (is_sorted R (map f (drop i xs)))
sorted_drop R f zero xs s = s
sorted_drop R f (suc i) [] s = s
sorted_drop R f (suc i) (x ∷ xs) s = sorted_drop R f i xs (second _ _ s)

-- what does not fall along a list does not along its front
rises_in_front : {A : Type 0} (n : A → ℕ) (front rest : List A) → IsNonDecreasingBy n (front ++ rest) → IsNonDecreasingBy n front
rises_in_front n front rest up i j d low high =
    let whole : j < length (front ++ rest) = omega (arith, length-append front rest, high) in
    let first_is = get_or_append_left front rest d i (omega (arith, low, high)) in
    let last_is = get_or_append_left front rest d j high in
    rw (first_is, last_is) at (up i j d low whole)

module _ {A K V : Type 0} {R : K → K → Ordering} (o : IsTotalOrder R) (anti : IsAntisymmetric R) (f : A → K × V) where
  -- so many of a list in order go before a value where the last of them is below it
  pub go_before : (i : ℕ) (xs : List A) (y d : A) → T (is_sorted R (map f xs)) → i < length xs → R (f (get_or xs i d)).0 (f y).0 ≡ Less → GoBefore (by_key R f) (suc i) xs y
  go_before i [] y d s h l ys = absurd (omega arith)
  go_before zero (x ∷ xs) y d s h l ys = ap (λ r. by_order r (x ∷ weave (by_key R f) xs (y ∷ ys)) (x ∷ weave (by_key R f) xs ys) (y ∷ weave (by_key R f) (x ∷ xs) ys)) l
  go_before (suc i) (x ∷ xs) y d s h l ys =
      let below : R (f x).0 (f (get_or xs i d)).0 ≡ Less = below_at o anti f (f x).0 xs i d (first _ _ s) (omega arith) in
      let under : R (f x).0 (f y).0 ≡ Less = o.trans (f x).0 (f (get_or xs i d)).0 (f y).0 below l in
      ap (λ r. by_order r (x ∷ weave (by_key R f) xs (y ∷ ys)) (x ∷ weave (by_key R f) xs ys) (y ∷ weave (by_key R f) (x ∷ xs) ys)) under
      ∙ ap (λ zs. x ∷ zs) (go_before i xs y d (second _ _ s) (omega arith) l ys)

  -- so many at the front of it go before a value that they are below
  pub go_below : (n : ℕ) (front rest xs : List A) (y : A) → front ++ rest ≡ xs → T (is_sorted R (map f xs)) → n ≤ length front → AreBelow (by_key R f) front y n → GoBefore (by_key R f) n xs y
  go_below zero front rest xs y e s h b = λ ys. refl
  go_below (suc m) [] rest xs y e s h b = absurd (omega arith)
  go_below (suc m) (z ∷ front) rest xs y e s h b =
      let whole = (z ∷ front) ++ rest in
      let sorted : T (is_sorted R (map f ((z ∷ front) ++ rest))) = subst (λ (l : List A). T (is_sorted R (map f l))) (sym e) s in
      let here : m < length (z ∷ front) = omega arith in
      let within : m < length ((z ∷ front) ++ rest) = omega (arith, length-append (z ∷ front) rest, here) in
      let under : R (f (get_or (z ∷ front) m z)).0 (f y).0 ≡ Less = b (rises_in_front (λ w. ordering_index (R (f w).0 (f y).0)) (z ∷ front) rest (does_not_fall o anti f (f y).0 whole sorted)) m z (omega arith) in
      let less_here : R (f (get_or ((z ∷ front) ++ rest) m z)).0 (f y).0 ≡ Less = ap (λ (w : A). R (f w).0 (f y).0) (get_or_append_left (z ∷ front) rest z m here) ∙ under in
      subst (λ (l : List A). GoBefore (by_key R f) (suc m) l y) e (go_before m whole y z sorted within less_here)
