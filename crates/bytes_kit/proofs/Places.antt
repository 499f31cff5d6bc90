-- The place of a text among texts.
use Rattle.std.proofs.Common.{◌≡◌, ℕ, zero, suc, ◌+◌, ◌<◌, length, nat_eq, Bool, true, false, not, cond, ◌||◌, ◌&&◌, List, [], ◌∷◌, ◌++◌, Option, Some, None, is_none, refl, sym, ap, subst, ◌∙◌, arith, Bor}
use Rattle.std.specs.Prelude.{slice_get, IfSome}
use Rattle.std.specs.List.{list_any, position_from, AllByRecursion, IsDistinct}
use Rattle.std.specs.Option.{option_copied}
use Rattle.std.specs.Cmp.Lexicographic.{pointwise}
use Rattle.std.proofs.lemmas.Bool.{false≢true}
use Rattle.std.proofs.lemmas.Iterator.Adapters.{position_from-zero}
use Rattle.std.proofs.Math.Dec.{eqb_refl}
use lib.Dec.{T}
use Rattle.std.proofs.lemmas.List.Quantifiers.{position-Some}
use Rattle.std.proofs.lemmas.Map.Keys.{IsDistinct-push}
use Rattle.std.specs.Cmp.{IsEquivalence}
use Rattle.attr_kit.specs.Exact.{exact_texts}
use Rattle.attr_kit.specs.contracts.txt.TxtEq.TheImpl.Laws as text_laws
use Rattle.bytes_kit.specs.Past.{place_of}

abbrev pub same : List ℕ → List ℕ → Bool
same = pointwise nat_eq

from_test : (b : Bool) → T b → b ≡ true
from_test true h = refl
from_test false h = absurd h

pub itself : (xs : List ℕ) → same xs xs ≡ true
itself [] = refl
itself (x ∷ xs) = λ i. from_test (nat_eq x x) (eqb_refl x) i && itself xs i

-- ---- a text at a place has that place

all_at : {A : Type 0} (test : A → Bool) (xs : List A) (n : ℕ) (x : A) → AllByRecursion (λ y. test y ≡ false) xs → slice_get xs n ≡ Some x → test x ≡ false
all_at test [] n x all e = absurd cc
all_at test (y ∷ ys) zero x all e =
    let one : y ≡ x = cc in
    subst (λ z. test z ≡ false) one all.0
all_at test (y ∷ ys) (suc n) x all e = all_at test ys n x all.1 e

other : (x t : List ℕ) (b : Bool) → same t x ≡ b → same x t ≡ false → b ≡ false
other x t true e f =
    let one : t ≡ x = exact_texts t x e in
    absurd (false≢true (sym f ∙ subst (λ (z : List ℕ). same x z ≡ true) (sym one) (itself x)))
other x t false e f = refl

found_at : (texts : List (List ℕ)) (from n : ℕ) (t : List ℕ) → IsDistinct same texts → slice_get texts n ≡ Some t → position_from (same t) from texts ≡ Some (from + n)
unfolding IsDistinct
found_at [] from n t apart e = absurd cc
found_at (x ∷ xs) from zero t apart e =
    let one : x ≡ t = cc in
    let hit : same t x ≡ true = subst (λ (z : List ℕ). same t z ≡ true) (sym one) (itself t) in
    ap (λ (b : Bool). cond b (Some from) (position_from (same t) (from + 1) xs)) hit ∙ ap (λ (m : ℕ). Some m) (omega arith)
found_at (x ∷ xs) from (suc n) t apart e =
    let miss : same t x ≡ false = other x t (same t x) refl (all_at (same x) xs n t apart.0 e) in
    ap (λ (b : Bool). cond b (Some from) (position_from (same t) (from + 1) xs)) miss ∙ found_at xs (from + 1) n t apart.1 e ∙ ap (λ (m : ℕ). Some m) (omega arith)

pub place_is : (texts : List (List ℕ)) (t : List ℕ) → place_of texts t ≡ position_from (same t) 0 texts
unfolding place_of
place_is texts t = position_from-zero (same t) texts

place_at : (texts : List (List ℕ)) (n : ℕ) (t : List ℕ) → IsDistinct same texts → slice_get texts n ≡ Some t → place_of texts t ≡ Some n
place_at texts n t apart e = place_is texts t ∙ found_at texts 0 n t apart e ∙ ap (λ (m : ℕ). Some m) (omega arith)

pub lent_at : (texts : List (List ℕ)) (n : ℕ) (o : Option (Bor (List ℕ))) → IsDistinct same texts → option_copied o ≡ slice_get texts n → IfSome o (λ t. place_of texts t.now ≡ Some n)
lent_at texts n None apart e = tt
lent_at texts n (Some t) apart e = place_at texts n t.now apart (sym e)

texts_equal : IsEquivalence same
texts_equal = text_laws.laws-law

-- ---- a text without a place goes last

found_none : {A : Type 0} (t : A → Bool) (n : ℕ) (xs : List A) → is_none (position_from t n xs) ≡ not (list_any t xs)
found_none t n [] = refl
found_none t n (x ∷ xs) = elim (t x) as (λ b. is_none (cond b (Some n) (position_from t (n + 1) xs)) ≡ not (b || list_any t xs)) [ true ↦ refl | false ↦ found_none t (n + 1) xs ]

not_any : (b : Bool) → not b ≡ true → b ≡ false
not_any true e = absurd (false≢true e)
not_any false e = refl

pub none_same : (texts : List (List ℕ)) (t : List ℕ) → place_of texts t ≡ None → list_any (same t) texts ≡ false
none_same texts t e = not_any (list_any (same t) texts) (sym (found_none (same t) 0 texts) ∙ ap is_none (sym (place_is texts t) ∙ e))

pub none_distinct : IsDistinct same []
unfolding IsDistinct
none_distinct = tt

pub distinct_more : (texts : List (List ℕ)) (t : List ℕ) → IsDistinct same texts → place_of texts t ≡ None → IsDistinct same (texts ++ t ∷ [])
distinct_more texts t apart none = IsDistinct-push texts_equal texts t apart (none_same texts t none)

-- a place is below the number of texts
pub place_below : (texts : List (List ℕ)) (t : List ℕ) (o : Option ℕ) (n : ℕ) → o ≡ place_of texts t → length texts < n → IfSome o (λ place. place < n)
unfolding place_of
place_below texts t None n e h = tt
place_below texts t (Some place) n e h = omega (arith, (position-Some (same t) texts place [] (sym e)).0)
