-- Bounds that rise, and bounds each of which is below the next.
use Rattle.std.proofs.Common.{◌≡◌, ℕ, ℤ, zero, suc, ◌+◌, ◌<◌, List, [], ◌∷◌, ◌&&◌, Bool, true, false, length, get_or, ap, sym, ◌∙◌, refl, arith}
use Rattle.std.specs.Prelude.{int_lt}
use Rattle.std.specs.List.{IsAllAdjacentAnswer, AllAdjacentBelow}
use Rattle.otlp_kit.specs.Doubles.{rounded}
use Rattle.otlp_kit.specs.Refusals.{rises_from, rises}

abbrev pub below : ℤ → ℤ → Bool
below b c = int_lt (rounded b) (rounded c)

and_false : (a b : Bool) → b ≡ false → (a && b) ≡ false
and_false true b h = h
and_false false b h = refl

-- an element behind the first
behind : (b : ℤ) (bs : List ℤ) (k : ℕ) (d : ℤ) → get_or (b ∷ bs) (suc k + 1) d ≡ get_or bs (k + 1) d
behind b bs k d =
    let later : suc k + 1 ≡ suc (k + 1) = omega arith in
    ap (λ n. get_or (b ∷ bs) n d) later

stepwise_all : (b : ℤ) (bs : List ℤ) → AllAdjacentBelow (λ x y. true ≡ below x y) (b ∷ bs) (length (b ∷ bs)) → rises_from b bs ≡ true
stepwise_all b [] a = refl
stepwise_all b (c ∷ cs) a =
    let rest : rises_from c cs ≡ true = stepwise_all c cs (λ k d h. a (suc k) d (omega arith) ∙ (λ i. below (get_or (c ∷ cs) k d) (behind b (c ∷ cs) k d i))) in
    let first : below b c ≡ true = sym (a 0 b (omega arith)) in
    ap (λ (t : Bool). t && rises_from c cs) first ∙ rest

stepwise_not : (b : ℤ) (bs : List ℤ) (k : ℕ) → k + 1 < length (b ∷ bs) → ((d : ℤ) → false ≡ below (get_or (b ∷ bs) k d) (get_or (b ∷ bs) (k + 1) d)) → rises_from b bs ≡ false
stepwise_not b [] k h f = absurd (omega arith)
stepwise_not b (c ∷ cs) zero h f = ap (λ (t : Bool). t && rises_from c cs) (sym (f b))
stepwise_not b (c ∷ cs) (suc k) h f =
    and_false (below b c) (rises_from c cs) (stepwise_not c cs k (omega arith) (λ d. f d ∙ (λ i. below (get_or (c ∷ cs) k d) (behind b (c ∷ cs) k d i))))

pub stepwise : (bs : List ℤ) (r : Bool) → IsAllAdjacentAnswer (λ x y b. b ≡ below x y) bs r → r ≡ rises bs
unfolding rises
stepwise [] true a = refl
stepwise [] false a = absurd (omega (arith, a.1))
stepwise (b ∷ bs) true a = sym (stepwise_all b bs a)
stepwise (b ∷ bs) false a = sym (stepwise_not b bs a.0 a.1 a.2)
