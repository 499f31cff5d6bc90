-- The first piece of a split, and bytes that make a text.
use Rattle.std.proofs.Common.{◌≡◌, ◌<◌, ◌≤◌, ◌+◌, ℕ, zero, suc, Bool, true, false, List, [], ◌∷◌, arith, refl, take, drop, length, Some, None, cond, ltb, subst}
use Rattle.std.specs.List.{slice_split, position, position_or_len, list_all}
use Rattle.std.specs.Str.{IsAscii, IsUtf8}
use Rattle.std.proofs.lemmas.List.Splits.{slice_split_first, slice_split_none}
use Rattle.std.proofs.lemmas.List.Sums.{fails_before_first}
use Rattle.std.proofs.lemmas.List.Elements.{All-from_get_or}
use Rattle.std.proofs.lemmas.Str.{IsUtf8-from_ascii}
use Rattle.std.proofs.lemmas.Bool.Decides.{nat_tests}
use Rattle.script_kit.specs.Words.{is_line_byte}

cases : (p : ℕ → Bool) (xs : List ℕ) (b : Bool) → ltb (position_or_len p xs) (length xs) ≡ b → (i : ℕ)
    → (cond b (Some (position_or_len p xs)) None ≡ Some i → (position_or_len p xs ≡ i) × (position_or_len p xs < length xs))
    × (cond b (Some (position_or_len p xs)) None ≡ None → length xs ≤ position_or_len p xs)
cases p xs true t i = (λ e. (cc, grind (arith, nat_tests)), λ e. cc)
cases p xs false t i = (λ e. cc, λ e. grind (arith, nat_tests))

pub split_at_first : (p : ℕ → Bool) (xs : List ℕ) (i : ℕ) → position p xs ≡ Some i → slice_split p xs ≡ take i xs ∷ slice_split p (drop (i + 1) xs)
split_at_first p xs i e = let h = (cases p xs _ refl i).0 e in
    let P : ℕ → Type 0 = λ j. slice_split p xs ≡ take j xs ∷ slice_split p (drop (j + 1) xs) in
    subst P h.0 (slice_split_first p xs 0 h.1)

pub split_at_none : (p : ℕ → Bool) (xs : List ℕ) → position p xs ≡ None → slice_split p xs ≡ xs ∷ []
split_at_none p xs e = let h = (cases p xs _ refl 0).1 e in
    slice_split_none p xs (All-from_get_or (λ x. p x ≡ false) xs 0 (λ i less. fails_before_first p xs i 0 (omega arith)))

pub line_is_ascii : (bs : List ℕ) → list_all is_line_byte bs ≡ true → IsAscii bs
line_is_ascii [] e i = omega arith
line_is_ascii (b ∷ bs) e zero = grind (arith, nat_tests)
line_is_ascii (b ∷ bs) e (suc i) = line_is_ascii bs (grind (arith, nat_tests)) i

pub line_is_utf8 : (bs : List ℕ) → list_all is_line_byte bs ≡ true → IsUtf8 bs
line_is_utf8 bs e = IsUtf8-from_ascii bs (line_is_ascii bs e)
