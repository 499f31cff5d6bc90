-- Forms behind what came before are forms that no two values share.
use Rattle.std.specs.Prelude.{◌≡◌, ℕ, ◌+◌, ◌<◌, nat_eq, List, [], ◌∷◌, ◌++◌, length, refl, Option, Some, None, get_or}
use Rattle.std.proofs.Common.{sym, ap, ◌∙◌, append_assoc, arith, length-append, subst}
use Rattle.std.proofs.lemmas.List.Quantifiers.{position-Some}
use Rattle.std.specs.Cmp.Lexicographic.{pointwise}
use Rattle.attr_kit.specs.Exact.{exact_texts}
use Rattle.bytes_kit.specs.Codes.{IsCode}
use Rattle.bytes_kit.specs.Format.{varint, text, text_or_place, text_behind, pair_behind, forms_behind, list_behind}
use Rattle.bytes_kit.specs.Laws.{varint_code, varint_bytes, text_code}
use Rattle.bytes_kit.specs.Past.{Past, place_of}

-- a form behind whatever came before
abbrev pub IsCodeBehind : {S A : Type 0} → (S → A → List ℕ) → Type 0
IsCodeBehind {S} code = (p : S) → IsCode (code p)

-- texts of one place are one
pub same_place : (texts : List (List ℕ)) (a b : List ℕ) (n : ℕ) → place_of texts a ≡ Some n → place_of texts b ≡ Some n → a ≡ b
unfolding place_of
same_place texts a b n p q =
    let one = position-Some (pointwise nat_eq a) texts n [] p in
    let two = position-Some (pointwise nat_eq b) texts n [] q in
    exact_texts a (get_or texts n []) one.1 ∙ sym (exact_texts b (get_or texts n []) two.1)

-- a number above 0 begins no new text
pub no_zero : (n : ℕ) (s t : List ℕ) → varint (n + 1) ++ s ≡ 0 ∷ t → ⊥
unfolding varint
no_zero n s t e =
    let both = varint_code (n + 1) 0 s t e in
    let same : n + 1 ≡ 0 = both.0 in
    absurd (omega arith)

text_or_place_code : (texts : List (List ℕ)) (a b : List ℕ) (p q : Option ℕ) (s t : List ℕ) → place_of texts a ≡ p → place_of texts b ≡ q → text_or_place a p ++ s ≡ text_or_place b q ++ t → (a ≡ b) × (s ≡ t)
text_or_place_code texts a b None None s t _ _ e =
    let rest : text a ++ s ≡ text b ++ t = cc in
    text_code a b s t rest
text_or_place_code texts a b (Some m) (Some n) s t p q e =
    let both = varint_code (m + 1) (n + 1) s t e in
    let same : m ≡ n = omega (arith, both.0) in
    (same_place texts a b n (p ∙ ap (λ (i : ℕ). Some i) same) q, both.1)
text_or_place_code texts a b None (Some n) s t _ _ e = absurd (no_zero n t (text a ++ s) (sym e))
text_or_place_code texts a b (Some m) None s t _ _ e = absurd (no_zero m s (text b ++ t) e)

pub text_behind_code : IsCodeBehind text_behind
text_behind_code p a b s t e = text_or_place_code p.texts a b (place_of p.texts a) (place_of p.texts b) s t refl refl e

text_or_place_bytes : (t : List ℕ) (o : Option ℕ) → 0 < length (text_or_place t o)
text_or_place_bytes t None = omega arith
text_or_place_bytes t (Some n) = varint_bytes (n + 1)

pub text_behind_bytes : (p : Past) (t : List ℕ) → 0 < length (text_behind p t)
text_behind_bytes p t = text_or_place_bytes t (place_of p.texts t)

module _ {S A : Type 0} (code : S → A → List ℕ) (past : S → A → S) where
  -- as many forms of each at the front of equal lists
  pub forms_behind_code : IsCodeBehind code → (p : S) (xs ys : List A) (s t : List ℕ) → length xs ≡ length ys → forms_behind code past p xs ++ s ≡ forms_behind code past p ys ++ t → (xs ≡ ys) × (s ≡ t)
  forms_behind_code is p [] [] s t n e = (refl, e)
  forms_behind_code is p [] (y ∷ ys) s t n e = absurd (omega arith)
  forms_behind_code is p (x ∷ xs) [] s t n e = absurd (omega arith)
  forms_behind_code is p (x ∷ xs) (y ∷ ys) s t n e =
      let one = is p x y (forms_behind code past (past p x) xs ++ s) (forms_behind code past (past p y) ys ++ t)
      (sym (append_assoc (code p x) (forms_behind code past (past p x) xs) s) ∙ e ∙ append_assoc (code p y) (forms_behind code past (past p y) ys) t) in
      let first : x ≡ y = one.0 in
      let both = forms_behind_code is (past p y) xs ys s t (omega arith) (subst (λ (z : A). forms_behind code past (past p z) xs ++ s ≡ forms_behind code past (past p y) ys ++ t) first one.1) in
      let later : xs ≡ ys = both.0 in
      (λ i. first i ∷ later i, both.1)

  pub list_behind_code : IsCodeBehind code → IsCodeBehind (list_behind code past)
  list_behind_code is p a b s t e =
      let both = varint_code (length a) (length b) (forms_behind code past p a ++ s) (forms_behind code past p b ++ t)
      (sym (append_assoc (varint (length a)) (forms_behind code past p a) s) ∙ e ∙ append_assoc (varint (length b)) (forms_behind code past p b) t) in
      forms_behind_code is p a b s t both.0 both.1

  pub list_behind_bytes : (p : S) (xs : List A) → 0 < length (list_behind code past p xs)
  list_behind_bytes p xs = omega (arith, varint_bytes (length xs), length-append (varint (length xs)) (forms_behind code past p xs))

module _ {A B : Type 0} (first : Past → A → List ℕ) (past : Past → A → Past) (second : Past → B → List ℕ) where
  pub pair_behind_code : IsCodeBehind first → IsCodeBehind second → IsCodeBehind (pair_behind first past second)
  pair_behind_code is_first is_second p a b s t e =
      let one = is_first p a.0 b.0 (second (past p a.0) a.1 ++ s) (second (past p b.0) b.1 ++ t)
      (sym (append_assoc (first p a.0) (second (past p a.0) a.1) s) ∙ e ∙ append_assoc (first p b.0) (second (past p b.0) b.1) t) in
      let two = is_second (past p b.0) a.1 b.1 s t (subst (λ (x : A). second (past p x) a.1 ++ s ≡ second (past p b.0) b.1 ++ t) one.0 one.1) in
      (λ i. (one.0 i, two.0 i), two.1)

  pub pair_behind_bytes : ((p : Past) (a : A) → 0 < length (first p a)) → (p : Past) (x : A × B) → 0 < length (pair_behind first past second p x)
  pair_behind_bytes some p x = omega (arith, some p x.0, length-append (first p x.0) (second (past p x.0) x.1))
