-- Bytes that do not begin with the form of a value.
use Rattle.std.proofs.Common.{◌≡◌, ℕ, zero, suc, ◌+◌, ◌-◌, ◌*◌, ◌/◌, ◌%◌, ◌<◌, ◌≤◌, ◌^◌, cond, Bool, true, false, List, [], ◌∷◌, ◌++◌, length, refl, sym, ap, subst, ◌∙◌, append_assoc, arith, length-append}
use Rattle.std.specs.List.{flat_map, AllByRecursion}
use Rattle.std.specs.Prelude.{nat_lt}
use Rattle.std.specs.Str.{IsUtf8}
use borrow.Author.Tests.{ltb-true}
use Rattle.std.proofs.lemmas.Bool.{ltb-false}
use Rattle.bytes_kit.specs.Codes.{IsCode}
use Rattle.bytes_kit.specs.Fits.{IsNumber, IsCounted, IsText, IsList}
use Rattle.bytes_kit.specs.Format.{groups, varint, text, list_of}
use Rattle.bytes_kit.specs.Laws.{groups_code, varint_code, text_code}
use Rattle.bytes_kit.specs.Reading.{NoneAt}

module _ {A : Type 0} (code : A → List ℕ) (fits : A → Type 0) where
  -- the value whose form comes first is not one that fits
  pub none_but : IsCode code → (x : A) (bytes s : List ℕ) → bytes ≡ code x ++ s → (fits x → ⊥) → NoneAt code fits bytes
  none_but is_code x bytes s is bad a rest fit e =
      let both = is_code x a s rest (sym is ∙ e) in
      bad (subst fits (sym both.0) fit)

  pub none_of_nothing : ((a : A) → 0 < length (code a)) → (bytes : List ℕ) → bytes ≡ [] → NoneAt code fits bytes
  none_of_nothing some bytes none a rest _ e =
      let same : length bytes ≡ length (code a ++ rest) = ap length e in
      let empty : length bytes ≡ 0 = ap length none in
      absurd (omega (arith, some a, length-append (code a) rest))

  -- fewer bytes than values
  forms_long : ((a : A) → 0 < length (code a)) → (xs : List A) → length xs ≤ length (flat_map code xs)
  forms_long some [] = omega arith
  forms_long some (x ∷ xs) = omega (arith, some x, forms_long some xs, length-append (code x) (flat_map code xs))

  pub none_of_few : ((a : A) → 0 < length (code a)) → (count : ℕ) (bytes rest : List ℕ) → bytes ≡ varint count ++ rest → length rest < count → NoneAt (list_of code) (IsList fits) bytes
  none_of_few some count bytes rest is few xs more _ e =
      let both = varint_code count (length xs) rest (flat_map code xs ++ more) (sym is ∙ e ∙ append_assoc (varint (length xs)) (flat_map code xs) more) in
      let same : count ≡ length xs = both.0 in
      let long : length rest ≡ length (flat_map code xs ++ more) = ap length both.1 in
      absurd (omega (arith, forms_long some xs, length-append (flat_map code xs) more))

  -- some forms, and then none
  none_behind : IsCode code → (ys xs : List A) (s t : List ℕ) → length ys < length xs → AllByRecursion fits xs → NoneAt code fits s → flat_map code ys ++ s ≡ flat_map code xs ++ t → ⊥
  none_behind is [] [] s t lt fit none e = absurd (omega arith)
  none_behind is [] (x ∷ xs) s t lt fit none e = none x (flat_map code xs ++ t) fit.0 (e ∙ append_assoc (code x) (flat_map code xs) t)
  none_behind is (y ∷ ys) [] s t lt fit none e = absurd (omega arith)
  none_behind is (y ∷ ys) (x ∷ xs) s t lt fit none e =
      let both = is y x (flat_map code ys ++ s) (flat_map code xs ++ t) (sym (append_assoc (code y) (flat_map code ys) s) ∙ e ∙ append_assoc (code x) (flat_map code xs) t) in
      none_behind is ys xs s t (omega arith) fit.1 none both.1

  pub none_of_list : IsCode code → (count : ℕ) (ys : List A) (bytes s : List ℕ) → bytes ≡ varint count ++ (flat_map code ys ++ s) → length ys < count → NoneAt code fits s → NoneAt (list_of code) (IsList fits) bytes
  none_of_list is_code count ys bytes s is lt none xs more fit e =
      let both = varint_code count (length xs) (flat_map code ys ++ s) (flat_map code xs ++ more) (sym is ∙ e ∙ append_assoc (varint (length xs)) (flat_map code xs) more) in
      let same : count ≡ length xs = both.0 in
      none_behind is_code ys xs s more (omega arith) fit.1 none both.1

groups_below : (more byte : ℕ) (mid : List ℕ) (a : ℕ) (rest : List ℕ) (p : Bool) → nat_lt a 128 ≡ p → 128 ≤ byte → byte ∷ mid ≡ cond p (a ∷ []) ((a % 128 + 128) ∷ groups more (a / 128)) ++ rest → (128 ≤ a) × (mid ≡ groups more (a / 128) ++ rest)
groups_below more byte mid a rest true lt big e =
    let first : byte ≡ a = cc in
    let low = ltb-true a 128 lt in
    absurd (omega arith)
groups_below more byte mid a rest false lt big e =
    let high = ltb-false a 128 lt in
    (high, cc)

-- a byte with its top bit set goes on
high_groups : (more byte : ℕ) (mid : List ℕ) (a : ℕ) (rest : List ℕ) → 128 ≤ byte → 0 < more → byte ∷ mid ≡ groups more a ++ rest → (128 ≤ a) × (mid ≡ groups (more - 1) (a / 128) ++ rest)
high_groups zero byte mid a rest big some e = absurd (omega arith)
high_groups (suc more) byte mid a rest big some e =
    let less : suc more - 1 ≡ more = omega arith in
    rw less (groups_below more byte mid a rest (nat_lt a 128) refl big e)

pub none_at_high : (more byte : ℕ) (bytes mid : List ℕ) → bytes ≡ byte ∷ mid → 128 ≤ byte → 0 < more → NoneAt (groups (more - 1)) IsNumber mid → NoneAt (groups more) IsNumber bytes
none_at_high more byte bytes mid is big some none a rest fit e =
    let both = high_groups more byte mid a rest big some (sym is ∙ e) in
    none (a / 128) rest (omega arith) both.1

-- the groups behind are too many
pub none_above : (more byte high : ℕ) (bytes mid s : List ℕ) → bytes ≡ byte ∷ mid → 128 ≤ byte → 0 < more → mid ≡ groups (more - 1) high ++ s → 2 ^ 64 ≤ high * 128 → NoneAt (groups more) IsNumber bytes
none_above more byte high bytes mid s is big some at above a rest fit e =
    let both = high_groups more byte mid a rest big some (sym is ∙ e) in
    let same : high ≡ a / 128 = (groups_code (more - 1) high (a / 128) s rest (sym at ∙ both.1)).0 in
    absurd (omega arith)

-- one more group
groups_cons : (more n : ℕ) (p : Bool) → nat_lt n 128 ≡ p → 128 ≤ n → cond p (n ∷ []) ((n % 128 + 128) ∷ groups more (n / 128)) ≡ (n % 128 + 128) ∷ groups more (n / 128)
groups_cons more n true lt big = let low = ltb-true n 128 lt in absurd (omega arith)
groups_cons more n false lt big = refl

groups_more : (more n : ℕ) → 0 < more → 128 ≤ n → groups more n ≡ (n % 128 + 128) ∷ groups (more - 1) (n / 128)
groups_more zero n some big = absurd (omega arith)
groups_more (suc more) n some big =
    let less : suc more - 1 ≡ more = omega arith in
    rw less (groups_cons more n (nat_lt n 128) refl big)

pub written_more : (more n : ℕ) (old mid new : List ℕ) → 0 < more → 128 ≤ n → mid ≡ old ++ (n % 128 + 128) ∷ [] → new ≡ mid ++ groups (more - 1) (n / 128) → new ≡ old ++ groups more n
written_more more n old mid new some big mid_is new_is =
    let behind = groups (more - 1) (n / 128) in
    new_is ∙ ap (λ (l : List ℕ). l ++ behind) mid_is ∙ append_assoc old ((n % 128 + 128) ∷ []) behind ∙ ap (λ (l : List ℕ). old ++ l) (sym (groups_more more n some big))

pub none_counted : (len : ℕ) (bytes mid : List ℕ) → bytes ≡ varint len ++ mid → length mid < len → NoneAt text IsCounted bytes
none_counted len bytes mid is short a rest fit e =
    let both = varint_code len (length a) mid (a ++ rest) (sym is ∙ e ∙ append_assoc (varint (length a)) a rest) in
    let same : len ≡ length a = both.0 in
    let long : length mid ≡ length (a ++ rest) = ap length both.1 in
    absurd (omega (arith, length-append a rest))

pub none_of_bytes : (found bytes mid : List ℕ) → bytes ≡ text found ++ mid → (IsUtf8 found → ⊥) → NoneAt text IsText bytes
none_of_bytes found bytes mid is bad a rest fit e =
    let both = text_code found a mid rest (sym is ∙ e) in
    bad (subst IsUtf8 (sym both.0) fit.1)
