-- What `parse` answers for a numeral.
use Rattle.std.proofs.Common.{◌≡◌, ◌≢◌, ◌<◌, ◌≤◌, ◌^◌, ◌&&◌, ℕ, zero, suc, Bool, true, false, List, [], ◌∷◌, ap, arith, refl, length, Some, None, Result, Ok, Err, cond, not, ltb, leb, eqb, ℤ, pos, w64, rules, tests}
use Rattle.std.specs.Str.{all_ascii_digits, bytes_eq}
use Rattle.std.specs.Str.Parse.{digits_value, ParsesUnsigned, ParsesSigned}
use Rattle.std.specs.Result.{OkIff, result_ok}
use Rattle.std.proofs.lemmas.Str.Parse.{IsNumeralModel, numerals_by_value, tells_all_ascii_digits, parse_digits, parse_signed_digits, parse_signed_minus}
use Rattle.std.proofs.lemmas.Bool.Decides.{nat_tests}
use Rattle.std.proofs.lemmas.Bool.{false≢true}
use Rattle.std.proofs.Math.IntN.{neg_ℤ}
use Rattle.script_kit.specs.Numbers.{is_numeral, number_of, value_of, minus}

own : IsNumeralModel (λ ds. all_ascii_digits ds ≡ true) (digits_value 10)
own = numerals_by_value _ tells_all_ascii_digits

pub numeral_is_digits : (w : List ℕ) → is_numeral w ≡ true → (all_ascii_digits w ≡ true) × (0 < length w)
numeral_is_digits [] e = cc
numeral_is_digits (d ∷ []) e = (e, omega arith)
numeral_is_digits (d ∷ e ∷ ds) h = (grind (arith, nat_tests), omega arith)

abbrev Parsed : {E T : Type 0} → Result T E → ℕ → Bool → T → Type 0
Parsed r l t v = OkIff r ((0 < l) × (t ≡ true)) v

picked : {E T : Type 0} (r : Result T E) (l : ℕ) (is t : Bool) (v : T) → is ≡ true → 0 < l → Parsed r l t v → result_ok r ≡ cond (is && t) (Some v) None
picked (Ok x) l is t v e s h = rw (e, h.0.1, h.1) refl
picked (Err y) l is true v e s h = absurd (h (s, refl))
picked (Err y) l is false v e s h = rw e refl

lt_parsed : {E T : Type 0} (r : Result T E) (l n limit : ℕ) (v : T) → OkIff r ((0 < l) × (n < limit)) v → Parsed r l (ltb n limit) v
lt_parsed (Ok x) l n limit v h = ((h.0.0, search (rules, tests)), h.1)
lt_parsed (Err y) l n limit v h = λ q. h (q.0, search (rules, tests))

le_parsed : {E T : Type 0} (r : Result T E) (l n limit : ℕ) (v : T) → OkIff r ((0 < l) × (n ≤ limit)) v → Parsed r l (leb n limit) v
le_parsed (Ok x) l n limit v h = ((h.0.0, search (rules, tests)), h.1)
le_parsed (Err y) l n limit v h = λ q. h (q.0, search (rules, tests))

pub parsed_number : {E : Type 0} (k : ℕ) (w : List ℕ) (r : Result ℕ E) → ParsesUnsigned k 10 w r → is_numeral w ≡ true → result_ok r ≡ number_of (2 ^ k) w
parsed_number k w r h e =
    let d = numeral_is_digits w e in
    picked r (length w) (is_numeral w) _ _ e d.1 (lt_parsed r _ _ _ _ (parse_digits own k w r h d.0))

pub not_a_number : (limit : ℕ) (w : List ℕ) → is_numeral w ≡ false → number_of limit w ≡ None
not_a_number limit w e = rw e refl

other_byte : (c : ℕ) (w : List ℕ) → ((rest : List ℕ) → c ∷ w ≢ 45 ∷ rest) → eqb c 45 ≡ false
other_byte c w differs =
    let apart : c ≢ 45 = λ e. differs w (ap {A = ℕ} {B = List ℕ} (λ x. x ∷ w) e) in
    grind (arith, nat_tests)

-- a word with no sign
pub parsed_plain : {E : Type 0} (w : List ℕ) (r : Result ℤ E) → ParsesSigned w64 10 w r → is_numeral w ≡ true → ((rest : List ℕ) → w ≢ 45 ∷ rest) → result_ok r ≡ value_of w
parsed_plain [] r h e differs = absurd (false≢true e)
parsed_plain (c ∷ w) r h e differs =
    let d = numeral_is_digits (c ∷ w) e in
    let p = picked r (length (c ∷ w)) (is_numeral (c ∷ w)) _ _ e d.1 (lt_parsed r _ _ _ _ (parse_signed_digits own w64 (c ∷ w) r h d.0)) in
    rw (other_byte c w differs) p

pub no_value : (w : List ℕ) → is_numeral w ≡ false → ((rest : List ℕ) → w ≢ 45 ∷ rest) → value_of w ≡ None
no_value [] e differs = refl
no_value (c ∷ w) e differs = rw (other_byte c w differs, e) refl

neg_is_minus : (n : ℕ) → neg_ℤ (pos n) ≡ minus n
neg_is_minus zero = refl
neg_is_minus (suc n) = refl

known_part : {E T : Type 0} (A B C : Type 0) (r : Result T E) (v : T) → A → OkIff r (A × B × C) v → OkIff r (B × C) v
known_part A B C (Ok x) v a h = ((h.0.1, h.0.2), h.1)
known_part A B C (Err y) v a h = λ q. h (a, q.0, q.1)

-- a word with a sign
pub parsed_minus : {E : Type 0} (w : List ℕ) (r : Result ℤ E) → ParsesSigned w64 10 (45 ∷ w) r → is_numeral w ≡ true → bytes_eq w (48 ∷ []) ≡ false → result_ok r ≡ value_of (45 ∷ w)
parsed_minus w r h e zero_not =
    let d = numeral_is_digits w e in
    let g : OkIff r ((0 < length w) × (digits_value 10 w ≤ 2 ^ 63)) (minus (digits_value 10 w)) =
    known_part _ _ _ r _ d.0 (rw neg_is_minus at (parse_signed_minus own w64 (45 ∷ w) r h refl)) in
    let p = picked r (length w) (is_numeral w && not (bytes_eq w (48 ∷ []))) _ _ (rw (e, zero_not) refl) d.1 (le_parsed r _ _ _ _ g) in
    p

pub no_minus : (w : List ℕ) → (is_numeral w && not (bytes_eq w (48 ∷ []))) ≡ false → value_of (45 ∷ w) ≡ None
no_minus w e = rw e refl
