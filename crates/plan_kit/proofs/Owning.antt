-- The first of equal instruments.
use Rattle.std.proofs.Common.{◌≡◌, ℕ, zero, suc, ◌+◌, ◌<◌, not, Bool, true, false, cond, List, [], ◌∷◌, ◌++◌, length, take, get_or, map, Option, Some, None, refl, sym, ap, ◌∙◌, subst, arith, length-take}
use Rattle.std.specs.List.{position_from, position_or_len}
use Rattle.std.specs.Option.{option_or}
use Rattle.std.proofs.lemmas.List.{take_more, map-append}
use Rattle.plan_kit.specs.declared.instrument.Instrument.{Instrument}
use Rattle.plan_kit.specs.contracts.instrument.InstrumentEq.TheImpl.Laws as laws
use Rattle.plan_kit.specs.Exact.{exact_instruments}
use Rattle.plan_kit.specs.Owners.{is_same, owner_of}

module _ {A : Type 0} where
  position_append : (t : A → Bool) (n : ℕ) (xs ys : List A) → position_from t n (xs ++ ys) ≡ option_or (position_from t n xs) (position_from t (n + length xs) ys)
  position_append t n [] ys = ap (λ (m : ℕ). position_from t m ys) (omega arith)
  position_append t n (x ∷ xs) ys = elim (t x) as (λ b. cond b (Some n) (position_from t (n + 1) (xs ++ ys)) ≡ option_or (cond b (Some n) (position_from t (n + 1) xs)) (position_from t (n + length (x ∷ xs)) ys)) [
    | true ↦ refl
    | false ↦ position_append t (n + 1) xs ys ∙ ap (λ (m : ℕ). option_or (position_from t (n + 1) xs) (position_from t m ys)) (omega arith)
  ]

  found_from : (t : A → Bool) (n : ℕ) (xs : List A) (i p : ℕ) → position_from t n (take i xs) ≡ Some p → n + position_or_len t xs ≡ p
  found_from t n xs zero p e = cc
  found_from t n [] (suc i) p e = cc
  found_from t n (x ∷ xs) (suc i) p e = elim (t x) as (λ b. cond b (Some n) (position_from t (n + 1) (take i xs)) ≡ Some p → n + cond (not b) (1 + position_or_len t xs) 0 ≡ p) [
    | true ↦ λ h. let k : n ≡ p = cc in omega arith
    | false ↦ λ h. let k : n + 1 + position_or_len t xs ≡ p = found_from t (n + 1) xs i p h in omega arith
  ] e

  new_from : (t : A → Bool) (n : ℕ) (xs : List A) (i : ℕ) (d : A) → i < length xs → t (get_or xs i d) ≡ true → position_from t n (take i xs) ≡ None → position_or_len t xs ≡ i
  new_from t n [] i d h y e = absurd (omega arith)
  new_from t n (x ∷ xs) zero d h y e = ap (λ b. cond (not b) (1 + position_or_len t xs) 0) y
  new_from t n (x ∷ xs) (suc i) d h y e = elim (t x) as (λ b. cond b (Some n) (position_from t (n + 1) (take i xs)) ≡ None → cond (not b) (1 + position_or_len t xs) 0 ≡ suc i) [
    | true ↦ λ k. cc
    | false ↦ λ k. let r : position_or_len t xs ≡ i = new_from t (n + 1) xs i d (omega arith) y k in omega arith
  ] e

or_none : {A : Type 0} (o : Option A) → option_or o None ≡ o
or_none None = refl
or_none (Some a) = refl

-- one instrument more
position_more : (q : Instrument) (is : List Instrument) (i : ℕ) (x : Instrument) → i < length is → x ≡ get_or is i x → position_from (is_same q) 0 (take (i + 1) is) ≡ option_or (position_from (is_same q) 0 (take i is)) (cond (is_same q x) (Some i) None)
position_more q is i x h at =
    let len : length (take i is) ≡ i = omega (arith, length-take {A = Instrument}) in
    ap (position_from (is_same q) 0) (take_more is i x h ∙ ap (λ y. take i is ++ y ∷ []) (sym at)) ∙ position_append (is_same q) 0 (take i is) (x ∷ [])
    ∙ ap (λ (m : ℕ). option_or (position_from (is_same q) 0 (take i is)) (cond (is_same q x) (Some m) None)) (omega arith)

pub same_self : (x : Instrument) → is_same x x ≡ true
same_self x = (laws.laws-law).refl x

owners_more : (is : List Instrument) (i : ℕ) (x : Instrument) (owners new : List ℕ) (p : ℕ) → i < length is → x ≡ get_or is i x → owners ≡ map (owner_of is) (take i is) → new ≡ owners ++ p ∷ [] → owner_of is x ≡ p → new ≡ map (owner_of is) (take (i + 1) is)
owners_more is i x owners new p h at old pushed own =
    pushed ∙ (λ j. old j ++ sym own j ∷ []) ∙ sym (map-append (owner_of is) (take i is) (x ∷ []))
    ∙ ap (map (owner_of is)) (ap (λ y. take i is ++ y ∷ []) at ∙ sym (take_more is i x h))

pub owners_found : (is : List Instrument) (i : ℕ) (x : Instrument) (owners new : List ℕ) (p : ℕ) → i < length is → x ≡ get_or is i x → owners ≡ map (owner_of is) (take i is) → new ≡ owners ++ p ∷ [] → position_from (is_same x) 0 (take i is) ≡ Some p → new ≡ map (owner_of is) (take (i + 1) is)
owners_found is i x owners new p h at old pushed found =
    let own : owner_of is x ≡ p = (let k : 0 + owner_of is x ≡ p = found_from (is_same x) 0 is i p found in omega arith) in
    owners_more is i x owners new p h at old pushed own

pub owners_new : (is : List Instrument) (i : ℕ) (x : Instrument) (owners new : List ℕ) → i < length is → x ≡ get_or is i x → owners ≡ map (owner_of is) (take i is) → new ≡ owners ++ i ∷ [] → position_from (is_same x) 0 (take i is) ≡ None → new ≡ map (owner_of is) (take (i + 1) is)
owners_new is i x owners new h at old pushed none =
    owners_more is i x owners new i h at old pushed (new_from (is_same x) 0 is i x h (subst (λ (y : Instrument). is_same x y ≡ true) at (same_self x)) none)

-- the first places, where an earlier instrument is equal
pub firsts_found : (q : Instrument) (is : List Instrument) (i : ℕ) (x : Instrument) (p : ℕ) → i < length is → x ≡ get_or is i x → position_from (is_same x) 0 (take i is) ≡ Some p → position_from (is_same q) 0 (take i is) ≡ position_from (is_same q) 0 (take (i + 1) is)
firsts_found q is i x p h at found =
    let P = position_from (is_same q) 0 (take i is) in
    elim (is_same q x) as (λ b. is_same q x ≡ b → P ≡ option_or P (cond b (Some i) None)) [
      | true ↦ λ e. let some : P ≡ Some p = subst (λ (y : Instrument). position_from (is_same y) 0 (take i is) ≡ Some p) (sym (exact_instruments q x e)) found in some ∙ sym (ap (λ o. option_or o (Some i)) some)
      | false ↦ λ e. sym (or_none P)
    ] refl ∙ sym (position_more q is i x h at)

-- the first places, where no earlier instrument is equal
pub firsts_new : (q : Instrument) (is : List Instrument) (i : ℕ) (x : Instrument) (new old : Option ℕ) → i < length is → x ≡ get_or is i x → position_from (is_same x) 0 (take i is) ≡ None → old ≡ position_from (is_same q) 0 (take i is) → new ≡ cond (is_same x q) (Some i) old → new ≡ position_from (is_same q) 0 (take (i + 1) is)
firsts_new q is i x new old h at none was now =
    let P = position_from (is_same q) 0 (take i is) in
    now ∙ ap (λ o. cond (is_same x q) (Some i) o) was ∙ ap (λ b. cond b (Some i) P) ((laws.laws-law).symm x q) ∙ (elim (is_same q x) as (λ b. is_same q x ≡ b → cond b (Some i) P ≡ option_or P (cond b (Some i) None)) [
      | true ↦ λ e. let nothing : P ≡ None = subst (λ (y : Instrument). position_from (is_same y) 0 (take i is) ≡ None) (sym (exact_instruments q x e)) none in sym (ap (λ o. option_or o (Some i)) nothing)
      | false ↦ λ e. sym (or_none P)
    ] refl) ∙ sym (position_more q is i x h at)
