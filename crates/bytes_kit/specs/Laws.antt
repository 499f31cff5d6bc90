-- The forms of the format are forms that no two values share.
use Rattle.std.specs.Prelude.{◌≡◌, ℕ, zero, suc, ◌+◌, ◌/◌, ◌%◌, ◌<◌, nat_lt, ℤ, pos, negsuc, cond, Bool, true, false, List, [], ◌∷◌, ◌++◌, length, refl}
use Rattle.std.proofs.Common.{sym, ap, ◌∙◌, append_assoc, arith, length-append}
use Rattle.std.specs.List.{flat_map}
use borrow.Author.Tests.{ltb-true}
use Rattle.bytes_kit.specs.Codes.{IsCode}
use Rattle.bytes_kit.specs.Format.{groups, varint, zigzag, integer, text, list_of, pair_of}

groups_step : (more a b : ℕ) (s t : List ℕ) (p q : Bool) → IsCode (groups more) → nat_lt a 128 ≡ p → nat_lt b 128 ≡ q
    → cond p (a ∷ []) ((a % 128 + 128) ∷ groups more (a / 128)) ++ s ≡ cond q (b ∷ []) ((b % 128 + 128) ∷ groups more (b / 128)) ++ t → (a ≡ b) × (s ≡ t)
groups_step more a b s t true true ih p q e = (cc, cc)
groups_step more a b s t true false ih p q e =
    let first : a ≡ b % 128 + 128 = cc in
    let low = ltb-true a 128 p in
    absurd (omega arith)
groups_step more a b s t false true ih p q e =
    let first : a % 128 + 128 ≡ b = cc in
    let low = ltb-true b 128 q in
    absurd (omega arith)
groups_step more a b s t false false ih p q e =
    let first : a % 128 + 128 ≡ b % 128 + 128 = cc in
    let rest : groups more (a / 128) ++ s ≡ groups more (b / 128) ++ t = cc in
    let both = ih (a / 128) (b / 128) s t rest in
    let high : a / 128 ≡ b / 128 = both.0 in
    (omega arith, both.1)

pub groups_code : (more : ℕ) → IsCode (groups more)
groups_code zero a b s t e = (cc, cc)
groups_code (suc more) a b s t e = groups_step more a b s t (nat_lt a 128) (nat_lt b 128) (groups_code more) refl refl e

pub varint_code : IsCode varint
unfolding varint
varint_code a b s t e = groups_code 9 a b s t e

groups_nonempty : (more n : ℕ) (p : Bool) → 0 < length (cond p (n ∷ []) ((n % 128 + 128) ∷ groups more (n / 128)))
groups_nonempty more n true = omega arith
groups_nonempty more n false = omega arith

pub groups_bytes : (more n : ℕ) → 0 < length (groups more n)
groups_bytes zero n = omega arith
groups_bytes (suc more) n = groups_nonempty more n (nat_lt n 128)

pub varint_bytes : (n : ℕ) → 0 < length (varint n)
unfolding varint
varint_bytes n = groups_bytes 9 n

zigzag_one : (a b : ℤ) → zigzag a ≡ zigzag b → a ≡ b
zigzag_one (pos m) (pos n) e = let same : m ≡ n = omega arith in ap pos same
zigzag_one (pos m) (negsuc n) e = absurd (omega arith)
zigzag_one (negsuc m) (pos n) e = absurd (omega arith)
zigzag_one (negsuc m) (negsuc n) e = let same : m ≡ n = omega arith in ap negsuc same

pub integer_code : IsCode integer
integer_code a b s t e =
    let both = varint_code (zigzag a) (zigzag b) s t e in
    (zigzag_one a b both.0, both.1)

pub integer_bytes : (z : ℤ) → 0 < length (integer z)
integer_bytes z = varint_bytes (zigzag z)

-- lists of one length that begin equal lists
pub split : (a b s t : List ℕ) → length a ≡ length b → a ++ s ≡ b ++ t → (a ≡ b) × (s ≡ t)
split [] [] s t n e = (refl, e)
split [] (y ∷ b) s t n e = absurd (omega arith)
split (x ∷ a) [] s t n e = absurd (omega arith)
split (x ∷ a) (y ∷ b) s t n e =
    let first : x ≡ y = cc in
    let later : a ++ s ≡ b ++ t = cc in
    let both = split a b s t (omega arith) later in
    let same : a ≡ b = both.0 in
    (cc, both.1)

pub text_code : IsCode text
text_code a b s t e =
    let both = varint_code (length a) (length b) (a ++ s) (b ++ t) (sym (append_assoc (varint (length a)) a s) ∙ e ∙ append_assoc (varint (length b)) b t) in
    split a b s t both.0 both.1

pub text_bytes : (bytes : List ℕ) → 0 < length (text bytes)
text_bytes bytes = omega (arith, varint_bytes (length bytes), length-append (varint (length bytes)) bytes)

module _ {A : Type 0} (code : A → List ℕ) where
  -- as many forms of each at the front of equal lists
  pub forms_code : IsCode code → (xs ys : List A) (s t : List ℕ) → length xs ≡ length ys → flat_map code xs ++ s ≡ flat_map code ys ++ t → (xs ≡ ys) × (s ≡ t)
  forms_code is [] [] s t n e = (refl, e)
  forms_code is [] (y ∷ ys) s t n e = absurd (omega arith)
  forms_code is (x ∷ xs) [] s t n e = absurd (omega arith)
  forms_code is (x ∷ xs) (y ∷ ys) s t n e =
      let one = is x y (flat_map code xs ++ s) (flat_map code ys ++ t) (sym (append_assoc (code x) (flat_map code xs) s) ∙ e ∙ append_assoc (code y) (flat_map code ys) t) in
      let first : x ≡ y = one.0 in
      let both = forms_code is xs ys s t (omega arith) one.1 in
      let later : xs ≡ ys = both.0 in
      (cc, both.1)

  pub list_code : IsCode code → IsCode (list_of code)
  list_code is a b s t e =
      let both = varint_code (length a) (length b) (flat_map code a ++ s) (flat_map code b ++ t) (sym (append_assoc (varint (length a)) (flat_map code a) s) ∙ e ∙ append_assoc (varint (length b)) (flat_map code b) t) in
      forms_code is a b s t both.0 both.1

  pub list_bytes : (xs : List A) → 0 < length (list_of code xs)
  list_bytes xs = omega (arith, varint_bytes (length xs), length-append (varint (length xs)) (flat_map code xs))

module _ {A B : Type 0} (first : A → List ℕ) (second : B → List ℕ) where
  pub pair_code : IsCode first → IsCode second → IsCode (pair_of first second)
  pair_code is_first is_second a b s t e =
      let one = is_first a.0 b.0 (second a.1 ++ s) (second b.1 ++ t) (sym (append_assoc (first a.0) (second a.1) s) ∙ e ∙ append_assoc (first b.0) (second b.1) t) in
      let two = is_second a.1 b.1 s t one.1 in
      (λ i. (one.0 i, two.0 i), two.1)

  pub pair_bytes : ((a : A) → 0 < length (first a)) → (p : A × B) → 0 < length (pair_of first second p)
  pair_bytes some p = omega (arith, some p.0, length-append (first p.0) (second p.1))

-- a value that can be made again of its fields
pub code_through : {A B : Type 0} (code : B → List ℕ) (fields : A → B) (whole : B → A) → ((a : A) → whole (fields a) ≡ a) → IsCode code → IsCode (λ a. code (fields a))
code_through code fields whole back is a b s t e =
    let both = is (fields a) (fields b) s t e in
    (sym (back a) ∙ ap whole both.0 ∙ back b, both.1)
