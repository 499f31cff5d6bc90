-- Ids that stand twice.
use Rattle.std.proofs.Common.{◌≡◌, ℕ, suc, ◌+◌, ◌<◌, true, false, ◌==◌, List, [], ◌∷◌, ◌++◌, length, take, drop, slice_index, position, cond, Option, Some, None, refl, sym, ap, subst, ◌∙◌, arith}
use Rattle.std.proofs.Math.Seq.{drop-cons}
use Rattle.std.proofs.lemmas.Bool.{eqb-true}
use Rattle.std.proofs.lemmas.List.{length-take-le, take_more}
use Rattle.std.proofs.lemmas.Iterator.Adapters.{position_from-zero}
use Rattle.std.specs.List.{position_from}
use Rattle.std.specs.Option.{option_map, option_or}
use Rattle.world_kit.specs.Building.{same_gateway_from}

-- at one place more
pub twice_here : (ids : List ℕ) (k a : ℕ) → k < length ids → position (λ x. x == slice_index ids k) (take k ids) ≡ Some a → same_gateway_from (take k ids) (drop k ids) ≡ Some (a, k)
twice_here ids k a h e =
    ap (same_gateway_from (take k ids)) (drop-cons ids k 0 h)
    ∙ ap (λ (o : Option ℕ). option_or (option_map (λ i. (i, length (take k ids))) o) (same_gateway_from (take k ids ++ slice_index ids k ∷ []) (drop (suc k) ids))) e
    ∙ ap (λ n. Some (a, n)) (length-take-le k ids (omega arith))

pub not_twice_here : (ids : List ℕ) (k : ℕ) → k < length ids → position (λ x. x == slice_index ids k) (take k ids) ≡ None → same_gateway_from (take k ids) (drop k ids) ≡ same_gateway_from (take (k + 1) ids) (drop (k + 1) ids)
not_twice_here ids k h e =
    let next : suc k ≡ k + 1 = omega arith in
    ap (same_gateway_from (take k ids)) (drop-cons ids k 0 h)
    ∙ ap (λ (o : Option ℕ). option_or (option_map (λ i. (i, length (take k ids))) o) (same_gateway_from (take k ids ++ slice_index ids k ∷ []) (drop (suc k) ids))) e
    ∙ ap (λ l. same_gateway_from l (drop (suc k) ids)) (sym (take_more ids k 0 h))
    ∙ ap (λ n. same_gateway_from (take (k + 1) ids) (drop n ids)) next

-- the first place of an id, from n on
abbrev pub first_of : ℕ → ℕ → List ℕ → Option ℕ
first_of id n ids = position_from (λ x. x == id) n ids

first-append : (id n : ℕ) (xs : List ℕ) (y : ℕ) → first_of id n (xs ++ y ∷ []) ≡ option_or (first_of id n xs) (cond (y == id) (Some (n + length xs)) None)
first-append id n [] y = ap (λ m. cond (y == id) (Some m) None) (let e : n ≡ n + 0 = omega arith in e)
first-append id n (x ∷ xs) y = elim (x == id) as (λ b. cond b (Some n) (first_of id (n + 1) (xs ++ y ∷ [])) ≡ option_or (cond b (Some n) (first_of id (n + 1) xs)) (cond (y == id) (Some (n + length (x ∷ xs))) None)) [
  | true ↦ refl
  | false ↦ first-append id (n + 1) xs y ∙ ap (λ m. option_or (first_of id (n + 1) xs) (cond (y == id) (Some m) None)) (let e : n + 1 + length xs ≡ n + length (x ∷ xs) = omega arith in e)
]

first_more : (ids : List ℕ) (k id : ℕ) → k < length ids → first_of id 0 (take (k + 1) ids) ≡ option_or (first_of id 0 (take k ids)) (cond (slice_index ids k == id) (Some k) None)
first_more ids k id h =
    ap (first_of id 0) (take_more ids k 0 h)
    ∙ first-append id 0 (take k ids) (slice_index ids k)
    ∙ ap (λ m. option_or (first_of id 0 (take k ids)) (cond (slice_index ids k == id) (Some m) None)) (let e = length-take-le k ids (omega arith) in omega arith)

-- where an id has no place yet, this is its first, and the others keep theirs
pub first_new : (ids : List ℕ) (k id : ℕ) (old new : Option ℕ) → k < length ids → first_of (slice_index ids k) 0 (take k ids) ≡ None → old ≡ first_of id 0 (take k ids) → new ≡ cond (slice_index ids k == id) (Some k) old → new ≡ first_of id 0 (take (k + 1) ids)
first_new ids k id old new h none was now =
    let P : Option ℕ = first_of id 0 (take k ids) in
    now ∙ ap (λ o. cond (slice_index ids k == id) (Some k) o) was
    ∙ elim (slice_index ids k == id) as (λ b. (slice_index ids k == id) ≡ b → cond b (Some k) P ≡ option_or P (cond b (Some k) None)) [
      | true ↦ λ e. sym (ap (λ o. option_or o (Some k)) (subst (λ (q : ℕ). first_of q 0 (take k ids) ≡ None) (eqb-true (slice_index ids k) id e) none))
      | false ↦ λ e. sym (or_nothing P)
    ] refl
    ∙ sym (first_more ids k id h)
  where
    or_nothing : (o : Option ℕ) → option_or o None ≡ o
    or_nothing None = refl
    or_nothing (Some n) = refl

-- the same places, as they are looked for
pub from_start : (ids : List ℕ) (id : ℕ) (o : Option ℕ) → o ≡ first_of id 0 ids → position (λ x. x == id) ids ≡ o
from_start ids id o e = position_from-zero (λ x. x == id) ids ∙ sym e
