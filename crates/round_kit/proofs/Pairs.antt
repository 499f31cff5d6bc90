-- Keys and values apart, and the pairs that they are.
use Rattle.std.proofs.Common.{◌≡◌, ◌∙◌, ◌<◌, ◌+◌, ◌++◌, ℕ, zero, suc, List, [], ◌∷◌, length, map, take, refl, sym, ap, subst, arith}
use Rattle.std.proofs.Math.ListN.{get_or}
use Rattle.std.specs.Borrow.{Bor}
use Rattle.std.specs.List.{zip}
use Rattle.std.specs.Map.{keys_of, values_of}
use Rattle.std.proofs.lemmas.List.{length-map}
use Rattle.std.proofs.lemmas.Map.Entries.{length-keys_of, length-values_of}
use Rattle.std.proofs.lemmas.Map.Made.{keys_of-zip}
use Rattle.attr_kit.specs.declared.attr_value.AttrValue.{AttrValue}
use Rattle.round_kit.specs.Placed.{value_of, pairs_of}
use Rattle.round_kit.specs.declared.set.RoundValue.{RoundValue}

values_zipped : {A B : Type 0} (ks : List A) (vs : List B) → length ks ≡ length vs → values_of (zip ks vs) ≡ vs
values_zipped [] [] e = refl
values_zipped [] (v ∷ vs) e = cc
values_zipped (k ∷ ks) [] e = cc
values_zipped (k ∷ ks) (v ∷ vs) e = ap (λ l. v ∷ l) (values_zipped ks vs (omega (arith, e)))

-- the keys of the pairs
pub keys_apart : (ks : List (Bor (List ℕ))) (vs : List RoundValue) → length ks ≡ length vs → map (λ key. key.now) ks ≡ keys_of (pairs_of ks vs)
keys_apart ks vs e = sym (keys_of-zip (map (λ key. key.now) ks) (map value_of vs) (length-map vs value_of ∙ sym e ∙ sym (length-map ks (λ key. key.now))))

-- the values of the pairs
pub values_apart : (ks : List (Bor (List ℕ))) (vs : List RoundValue) → length ks ≡ length vs → map value_of vs ≡ values_of (pairs_of ks vs)
values_apart ks vs e = sym (values_zipped (map (λ key. key.now) ks) (map value_of vs) (length-map ks (λ key. key.now) ∙ e ∙ sym (length-map vs value_of)))

zip_apart : {A B : Type 0} (ps : List (A × B)) → zip (keys_of ps) (values_of ps) ≡ ps
zip_apart [] = refl
zip_apart (p ∷ ps) = ap (λ l. p ∷ l) (zip_apart ps)

-- the pairs whose keys and values these are
pub pairs_again : (ks : List (Bor (List ℕ))) (vs : List RoundValue) (ps : List (List ℕ × AttrValue)) → map (λ key. key.now) ks ≡ keys_of ps → map value_of vs ≡ values_of ps → pairs_of ks vs ≡ ps
pairs_again ks vs ps keys values = (λ i. zip (keys i) (values i)) ∙ zip_apart ps

-- there are as many keys as values
pub as_many : (ks : List (Bor (List ℕ))) (vs : List RoundValue) (ps : List (List ℕ × AttrValue)) → map (λ key. key.now) ks ≡ keys_of ps → map value_of vs ≡ values_of ps → length ks ≡ length vs
as_many ks vs ps keys values =
    sym (length-map ks (λ key. key.now)) ∙ ap length keys ∙ length-keys_of ps ∙ sym (length-values_of ps) ∙ ap length (sym values) ∙ length-map vs value_of

pairs_more_suc : (ks : List (Bor (List ℕ))) (vs : List RoundValue) (i : ℕ) (d : Bor (List ℕ)) (e : RoundValue) → i < length ks → i < length vs
    → pairs_of (take (suc i) ks) (take (suc i) vs) ≡ pairs_of (take i ks) (take i vs) ++ ((get_or ks i d).now, value_of (get_or vs i e)) ∷ []
pairs_more_suc [] vs i d e a b = absurd (omega (arith, a))
pairs_more_suc (k ∷ ks) [] i d e a b = absurd (omega (arith, b))
pairs_more_suc (k ∷ ks) (v ∷ vs) zero d e a b = refl
pairs_more_suc (k ∷ ks) (v ∷ vs) (suc i) d e a b = ap (λ l. (k.now, value_of v) ∷ l) (pairs_more_suc ks vs i d e (omega (arith, a)) (omega (arith, b)))

-- one pair more
pub pairs_more : (ks : List (Bor (List ℕ))) (vs : List RoundValue) (i : ℕ) (d : Bor (List ℕ)) (e : RoundValue) → i < length ks → i < length vs
    → pairs_of (take (i + 1) ks) (take (i + 1) vs) ≡ pairs_of (take i ks) (take i vs) ++ ((get_or ks i d).now, value_of (get_or vs i e)) ∷ []
pairs_more ks vs i d e a b =
    let next : suc i ≡ i + 1 = omega arith in
    subst (λ (n : ℕ). pairs_of (take n ks) (take n vs) ≡ pairs_of (take i ks) (take i vs) ++ ((get_or ks i d).now, value_of (get_or vs i e)) ∷ []) next (pairs_more_suc ks vs i d e a b)
