-- Pairs that are found, noted and copied.
use Rattle.std.proofs.Common.{◌≡◌, ◌∙◌, ◌<◌, ◌+◌, ℕ, suc, zero, Bool, true, false, cond, not, List, [], ◌∷◌, ◌++◌, Option, None, Some, length, slice_get, position, take, drop, arith, Result, Ok, Err, IsOk, OnOk, refl, sym, ap, subst, is_some, true≢false, if◌then◌else◌}
use Rattle.std.specs.Prelude.{nat_lt}
use Rattle.std.specs.List.{position_or_len, IsDistinct}
use Rattle.std.specs.Map.{keys_of, lookup}
use Rattle.indexmap.specs.IndexMap.{insert_entry}
use Rattle.indexmap.proofs.MapLemmas.{absent_before, absent_from_lookup, insert_entry-absent}
use Rattle.attr_kit.specs.Exact.{IsExact, exact_lists, exact_pairs, exact_texts, exact_through, exact_unsigned, exact_values}
use Rattle.attr_kit.specs.declared.attr_set.AttrSet.{AttrSet}
use Rattle.agg_kit.specs.Feeding.{set_eq}
use Rattle.kit_c.specs.Pairs.{AreNumbers, held_of, is_pair, number_in, number_of, pair_eq}
use Rattle.kit_c.specs.contracts.pairs.PairEq.TheImpl.Laws as laws
use Rattle.kit_c.specs.declared.pairs.Pair.{Pair}

exact_sets : IsExact set_eq
exact_sets = exact_lists (exact_pairs exact_texts exact_values)

-- equal pairs are one
pub same_pair : IsExact pair_eq
same_pair = exact_through (λ p. (p.instrument, p.attrs)) (λ q. record { instrument = q.0; attrs = q.1 }) (λ _. refl) (exact_pairs exact_unsigned exact_sets)

prefix_of : (p : Pair) (ps : List Pair) → position_or_len (is_pair p.instrument p.attrs) (held_of ps) ≡ position_or_len (pair_eq p) ps
prefix_of p [] = refl
prefix_of p (q ∷ qs) = ap (λ n. cond (not (pair_eq p q)) (1 + n) 0) (prefix_of p qs)

length_of : (ps : List Pair) → length (held_of ps) ≡ length ps
length_of [] = refl
length_of (q ∷ qs) = ap suc (length_of qs)

-- the number of a pair is its place
pub number_is : (p : Pair) (ps : List Pair) → number_of (held_of ps) p.instrument p.attrs ≡ position (pair_eq p) ps
number_is p ps =
    let n = prefix_of p ps in
    let l = length_of ps in
    λ i. cond (nat_lt (n i) (l i)) (Some (n i)) None

pub held_push : (ps : List Pair) (p : Pair) → held_of (ps ++ p ∷ []) ≡ held_of ps ++ (p.instrument, p.attrs) ∷ []
held_push [] p = refl
held_push (q ∷ qs) p = ap (λ l. (q.instrument, q.attrs) ∷ l) (held_push qs p)

pub keys_push : (es : List (Pair × ℕ)) (p : Pair) (n : ℕ) → keys_of (es ++ (p, n) ∷ []) ≡ keys_of es ++ p ∷ []
keys_push [] p n = refl
keys_push (e ∷ es) p n = ap (λ l. e.0 ∷ l) (keys_push es p n)

pub last_is : {X : Type 0} (xs : List X) (x : X) → slice_get (xs ++ x ∷ []) (length xs) ≡ Some x
last_is [] x = refl
last_is (y ∷ xs) x = last_is xs x

-- ---- numbers that are noted

abbrev IsNumber : List (ℕ × AttrSet) → Pair → ℕ → Type 0
IsNumber hs p n = slice_get hs n ≡ Some (p.instrument, p.attrs)

-- one by one
abbrev Each : List (ℕ × AttrSet) → List (Pair × ℕ) → Type 0
Each hs [] = Unit {0}
Each hs (e ∷ es) = IsNumber hs e.0 e.1 × Each hs es

each : (hs : List (ℕ × AttrSet)) (es : List (Pair × ℕ)) → AreNumbers hs es → Each hs es
each hs [] h = tt
each hs (e ∷ es) h = (h 0 e.0 e.1 refl, each hs es (λ j. h (suc j)))

all : (hs : List (ℕ × AttrSet)) (es : List (Pair × ℕ)) → Each hs es → AreNumbers hs es
all hs [] h j p n at = absurd (cc)
all hs (e ∷ es) h zero p n at = let same : e ≡ (p, n) = cc in subst (λ (x : Pair × ℕ). IsNumber hs x.0 x.1) same h.0
all hs (e ∷ es) h (suc j) p n at = all hs es h.1 j p n at

get-grows : {X : Type 0} (xs ys : List X) (n : ℕ) (x : X) → slice_get xs n ≡ Some x → slice_get (xs ++ ys) n ≡ Some x
get-grows [] ys n x h = absurd (cc)
get-grows (y ∷ xs) ys zero x h = h
get-grows (y ∷ xs) ys (suc n) x h = get-grows xs ys n x h

-- they stay where more is held
pub numbers_stay : (hs ks : List (ℕ × AttrSet)) (es : List (Pair × ℕ)) → AreNumbers hs es → AreNumbers (hs ++ ks) es
numbers_stay hs ks es h = λ j p n at. get-grows hs ks n (p.instrument, p.attrs) (h j p n at)

-- one more
each-noted : (hs : List (ℕ × AttrSet)) (es : List (Pair × ℕ)) (p : Pair) (n : ℕ) → Each hs es → IsNumber hs p n → Each hs (insert_entry pair_eq es p n)
each-noted hs [] p n h is = (is, tt)
each-noted hs (e ∷ es) p n h is = by (pair_eq p e.0) refl (each-noted hs es p n h.1 is)
  where
    by : (b : Bool) → pair_eq p e.0 ≡ b → Each hs (insert_entry pair_eq es p n) → Each hs (if b then (e.0, n) ∷ es else e ∷ insert_entry pair_eq es p n)
    by true same rest = (subst (λ (q : Pair). IsNumber hs q n) (same_pair p e.0 same) is, h.1)
    by false other rest = (h.0, rest)

pub one_noted : (hs : List (ℕ × AttrSet)) (es : List (Pair × ℕ)) (p : Pair) (n : ℕ) → AreNumbers hs es → IsNumber hs p n → AreNumbers hs (insert_entry pair_eq es p n)
one_noted hs es p n h is = all hs (insert_entry pair_eq es p n) (each-noted hs es p n (each hs es h) is)

-- the number that is noted of a pair is that of it
pub noted_is : (p : Pair) (es : List (Pair × ℕ)) → lookup (pair_eq p) es ≡ number_in es p.instrument p.attrs
noted_is p [] = refl
noted_is p (e ∷ es) = ap (λ m. cond (pair_eq p e.0) (Some e.1) m) (noted_is p es)

each-stands : (hs : List (ℕ × AttrSet)) (es : List (Pair × ℕ)) (p : Pair) (n : ℕ) → Each hs es → lookup (pair_eq p) es ≡ Some n → IsNumber hs p n
each-stands hs [] p n h at = absurd (cc)
each-stands hs (e ∷ es) p n h at = by (pair_eq p e.0) refl at (each-stands hs es p n h.1)
  where
    by : (b : Bool) → pair_eq p e.0 ≡ b → cond b (Some e.1) (lookup (pair_eq p) es) ≡ Some n → (lookup (pair_eq p) es ≡ Some n → IsNumber hs p n) → IsNumber hs p n
    by true same is rest = let m : e.1 ≡ n = cc in subst (λ (q : Pair). IsNumber hs q n) (sym (same_pair p e.0 same)) (subst (λ (k : ℕ). IsNumber hs e.0 k) m h.0)
    by false other is rest = rest is

pub noted_stands : (hs : List (ℕ × AttrSet)) (es : List (Pair × ℕ)) (p : Pair) (n : ℕ) → AreNumbers hs es → lookup (pair_eq p) es ≡ Some n → IsNumber hs p n
noted_stands hs es p n h at = each-stands hs es p n (each hs es h) at

-- a new one goes last
pub noted_last : (es : List (Pair × ℕ)) (p : Pair) (n : ℕ) → lookup (pair_eq p) es ≡ None → insert_entry pair_eq es p n ≡ es ++ (p, n) ∷ []
noted_last es p n none = insert_entry-absent pair_eq p n es (absent_from_lookup (pair_eq p) es none)

-- what was inserted where there is room: a copy of a pair, into a map that grew
pub inserted : {U F : Type 0} (es rs ns : List (Pair × ℕ)) (pair copy : Pair) (n : ℕ) (told : Result U F) → rs ≡ es → copy ≡ pair → IsOk told
    → OnOk told (ns ≡ insert_entry pair_eq rs copy n) → ns ≡ insert_entry pair_eq es pair n
inserted es rs ns pair copy n (Ok x) kept same fits is = is ∙ (λ i. insert_entry pair_eq (kept i) (same i) n)
inserted es rs ns pair copy n (Err f) kept same fits is = absurd (true≢false (sym fits))

-- nothing is there
pub none_of : {X : Type 0} (o : Option X) → false ≡ is_some o → o ≡ None
none_of None e = refl
none_of (Some x) e = absurd (true≢false (sym e))

-- ---- copies, entry by entry

split-at : {X : Type 0} (xs : List X) (i : ℕ) (x : X) → slice_get xs i ≡ Some x → xs ≡ take i xs ++ x ∷ drop (suc i) xs
split-at [] i x e = absurd (cc)
split-at (y ∷ xs) zero x e = let same : y ≡ x = cc in ap (λ z. z ∷ xs) same
split-at (y ∷ xs) (suc i) x e = ap (λ l. y ∷ l) (split-at xs i x e)

pub take-push : {X : Type 0} (xs : List X) (i : ℕ) (x : X) → slice_get xs i ≡ Some x → take (suc i) xs ≡ take i xs ++ x ∷ []
take-push [] i x e = absurd (cc)
take-push (y ∷ xs) zero x e = let same : y ≡ x = cc in ap (λ z. z ∷ []) same
take-push (y ∷ xs) (suc i) x e = ap (λ l. y ∷ l) (take-push xs i x e)

pub copied_more : (es ns ms : List (Pair × ℕ)) (i : ℕ) (p : Pair) (n : ℕ) → IsDistinct pair_eq (keys_of es) → slice_get es i ≡ Some (p, n) → ns ≡ take i es
    → ms ≡ insert_entry pair_eq ns p n → ms ≡ take (i + 1) es
copied_more es ns ms i p n once at before e =
    let once' = subst (λ (l : List (Pair × ℕ)). IsDistinct pair_eq (keys_of l)) (split-at es i (p, n) at) once in
    let absent : lookup (pair_eq p) (take i es) ≡ None = absent_before laws.laws-law (take i es) (drop (suc i) es) (p, n) once' in
    let z : suc i ≡ i + 1 = omega arith in
    e ∙ ap (λ (l : List (Pair × ℕ)). insert_entry pair_eq l p n) before
    ∙ insert_entry-absent pair_eq p n (take i es) (absent_from_lookup (pair_eq p) (take i es) absent)
    ∙ sym (take-push es i (p, n) at)
    ∙ ap (λ k. take k es) z

-- there is one at each place below their number
pub none_there : {X : Type 0} (xs : List X) (i : ℕ) → i < length xs → slice_get xs i ≡ None → ⊥
none_there [] i l e = omega arith
none_there (x ∷ xs) zero l e = cc
none_there (x ∷ xs) (suc i) l e = none_there xs i (omega arith) e
