-- The number that an option is read as.
use Rattle.std.proofs.Common.{◌≡◌, ◌∙◌, ◌<◌, ◌≤◌, ◌^◌, ℕ, List, Option, Some, None, Result, Ok, Err, refl, subst, sym, arith}
use Rattle.std.specs.Str.Parse.{ParsesUnsigned, digits_value, without_leading_plus}
use Rattle.clap.specs.Words.{ReadsOne, Text, rows_of}
use Rattle.clap.specs.Matches.{one_text}
use Rattle.clap.specs.declared.parser.matches.Found.{Found}
use Rattle.clap.proofs.WalkLemmas.{one_text-rows}
use Rattle.otm_kit.specs.Asked.{GivesNone, IsGiven}

pub number_given : {E : Type 0} (f : Found) (id : Text) (gives : List ℕ → Result ℕ E → Type 0)
    → ((t : Text) (n : ℕ) → gives t (Ok n) → n ≡ digits_value 10 (without_leading_plus t))
    → (r : Option ℕ) (n : ℕ) → r ≡ Some n → (one_text f id ≡ None → r ≡ None) → ((t : Text) → one_text f id ≡ Some t → ReadsOne gives t r)
    → IsGiven (rows_of f) id n
number_given f id gives reads r n is none value = go (one_text f id) refl
  where
    go : (o : Option Text) → one_text f id ≡ o → IsGiven (rows_of f) id n
    go None e = let bad : Some n ≡ None = sym is ∙ none e in cc
    go (Some t) e = (t, sym (one_text-rows f id) ∙ e, reads t n (rw is at value t e))

-- An option that is read as no number, or as one out of a range below 2 ^ k, gives no number of that range.
pub none_given : {E : Type 0} (f : Found) (id : Text) (k least most : ℕ) (gives : List ℕ → Result ℕ E → Type 0)
    → ((t : Text) (r : Result ℕ E) → gives t r → ParsesUnsigned k 10 t r) → most < 2 ^ k
    → (r : Option ℕ) → ((t : Text) → one_text f id ≡ Some t → ReadsOne gives t r)
    → ((n : ℕ) → r ≡ Some n → least ≤ n → n ≤ most → ⊥)
    → GivesNone (rows_of f) id least most
none_given {E} f id k least most gives parses below r value out text is fits =
    go r refl (value text (one_text-rows f id ∙ is))
  where
    go : (o : Option ℕ) → r ≡ o → ReadsOne gives text r → ⊥
    go None e reads =
        let found : (x : E) × gives text (Err x) = subst (λ o. ReadsOne gives text o) e reads in
        parses text (Err found.0) found.1 (fits.0, let small : digits_value 10 (without_leading_plus text) < 2 ^ k = omega arith in small)
    go (Some n) e reads =
        let found : gives text (Ok n) = subst (λ o. ReadsOne gives text o) e reads in
        let same : n ≡ digits_value 10 (without_leading_plus text) = (parses text (Ok n) found).1 in
        out n e (rw same fits.2) (rw same fits.3)
