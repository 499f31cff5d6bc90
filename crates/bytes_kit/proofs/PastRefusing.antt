-- Bytes that do not begin with a form behind what came before.
use Rattle.std.proofs.Common.{◌≡◌, ◌≢◌, ℕ, ◌+◌, ◌-◌, ◌<◌, ◌≤◌, ◌^◌, nat_eq, Bool, true, false, List, [], ◌∷◌, ◌++◌, length, refl, sym, ap, subst, ◌∙◌, append_assoc, arith, length-append, Option, Some, None, Ok, Err}
use Rattle.std.proofs.lemmas.List.{append-nil}
use Rattle.std.proofs.lemmas.List.Quantifiers.{position-Some}
use Rattle.std.specs.Cmp.Lexicographic.{pointwise}
use Rattle.std.specs.List.{AllByRecursion}
use Rattle.std.specs.Prelude.{Result, IfOk, IfErr}
use Rattle.point_kit.specs.contracts.stream.StreamEq.TheImpl.Laws as stream_laws
use Rattle.point_kit.specs.declared.stream.Stream.{Stream}
use Rattle.bytes_kit.specs.Fits.{IsNumber, IsText, IsStream, IsList}
use Rattle.bytes_kit.specs.Format.{varint, text, text_or_place, text_behind, forms_behind, past_all, list_behind, stream, stream_or_last, point_stream, past_point_stream, past_stream_or_last}
use Rattle.bytes_kit.specs.Laws.{varint_code}
use Rattle.bytes_kit.specs.Past.{Past, place_of, is_last}
use Rattle.bytes_kit.specs.PastFits.{IsNewText, IsOtherStream}
use Rattle.bytes_kit.specs.PastLaws.{IsCodeBehind, no_zero}
use Rattle.bytes_kit.specs.Reading.{NoneAt, Reads}
use Rattle.bytes_kit.specs.declared.fault.DecodeFault.{DecodeFault}
use Rattle.bytes_kit.specs.declared.fault.DecodeFault.TheVariants as faults

-- ---- texts

place_within : (texts : List (List ℕ)) (t : List ℕ) (n : ℕ) → place_of texts t ≡ Some n → n < length texts
unfolding place_of
place_within texts t n e = (position-Some (pointwise nat_eq t) texts n [] e).0

zero_form : (l : List ℕ) → 0 ∷ l ≡ varint 0 ++ l
unfolding varint
zero_form l = refl

number_at : (p : Past) (bytes t rest : List ℕ) (o : Option ℕ) → length p.texts < 2 ^ 64 → place_of p.texts t ≡ o → NoneAt varint IsNumber bytes → bytes ≡ text_or_place t o ++ rest → ⊥
number_at p bytes t rest None few is none e = none 0 (text t ++ rest) (omega arith) (e ∙ zero_form (text t ++ rest))
number_at p bytes t rest (Some n) few is none e = none (n + 1) rest (omega (arith, place_within p.texts t n is)) e

-- no number comes
pub no_number : (p : Past) (bytes : List ℕ) → length p.texts < 2 ^ 64 → NoneAt varint IsNumber bytes → NoneAt (text_behind p) IsText bytes
no_number p bytes few none t rest fit e = number_at p bytes t rest (place_of p.texts t) few refl none e

new_at : (p : Past) (bytes mid t rest : List ℕ) (o : Option ℕ) → place_of p.texts t ≡ o → bytes ≡ varint 0 ++ mid → IsText t → NoneAt text (IsNewText p) mid → bytes ≡ text_or_place t o ++ rest → ⊥
new_at p bytes mid t rest None is at fit none e =
    let both = varint_code 0 0 mid (text t ++ rest) (sym at ∙ e ∙ zero_form (text t ++ rest)) in
    none t rest (fit, is) both.1
new_at p bytes mid t rest (Some n) is at fit none e = no_zero n rest mid (sym e ∙ at ∙ sym (zero_form mid))

-- no new text comes behind a 0
pub no_new : (p : Past) (bytes mid : List ℕ) → bytes ≡ varint 0 ++ mid → NoneAt text (IsNewText p) mid → NoneAt (text_behind p) IsText bytes
no_new p bytes mid at none t rest fit e = new_at p bytes mid t rest (place_of p.texts t) refl at fit none e

place_at : (p : Past) (bytes mid t rest : List ℕ) (number : ℕ) (o : Option ℕ) → place_of p.texts t ≡ o → bytes ≡ varint number ++ mid → number ≢ 0 → length p.texts ≤ number - 1 → bytes ≡ text_or_place t o ++ rest → ⊥
place_at p bytes mid t rest number None is at some far e =
    let both = varint_code number 0 mid (text t ++ rest) (sym at ∙ e ∙ zero_form (text t ++ rest)) in
    some both.0
place_at p bytes mid t rest number (Some n) is at some far e =
    let both = varint_code number (n + 1) mid rest (sym at ∙ e) in
    let same : number ≡ n + 1 = both.0 in
    absurd (omega (arith, place_within p.texts t n is))

-- a number behind the last place
pub no_place : (p : Past) (bytes mid : List ℕ) (number : ℕ) → bytes ≡ varint number ++ mid → number ≢ 0 → length p.texts ≤ number - 1 → NoneAt (text_behind p) IsText bytes
no_place p bytes mid number at some far t rest fit e = place_at p bytes mid t rest number (place_of p.texts t) refl at some far e

-- what is read behind a 0
pub reads_new : (p : Past) (bytes mid rest : List ℕ) (number : ℕ) (r : Result (List ℕ) DecodeFault) → bytes ≡ varint number ++ mid → number ≡ 0 → IfOk r (λ t. mid ≡ text t ++ rest) → IfOk r (λ t. place_of p.texts t ≡ None)
    → IfErr r (λ f. f ≢ faults.NoMemory → NoneAt text (IsNewText p) mid) → Reads (text_behind p) IsText bytes r rest
reads_new p bytes mid rest number (Ok t) at none is new _ =
    at ∙ ap (λ (n : ℕ). varint n ++ mid) none ∙ sym (zero_form mid) ∙ ap (λ (l : List ℕ). 0 ∷ l) is ∙ ap (λ (o : Option ℕ). text_or_place t o ++ rest) (sym new)
reads_new p bytes mid rest number (Err f) at none _ _ fails = λ ne. no_new p bytes mid (at ∙ ap (λ (n : ℕ). varint n ++ mid) none) (fails ne)

-- ---- streams

pub last_itself : (o : Option Stream) (s : Stream) → o ≡ Some s → is_last o s ≡ true
last_itself o s e = ap (λ (x : Option Stream). is_last x s) e ∙ stream_laws.laws-law.refl s

pub again : (p : Past) (s : Stream) → p.stream ≡ Some s → point_stream p s ≡ 0 ∷ []
again p s e = ap (λ (b : Bool). stream_or_last b p s) (last_itself p.stream s e)

pub past_again : (p : Past) (s : Stream) → p.stream ≡ Some s → past_point_stream p s ≡ p
past_again p s e = ap (λ (b : Bool). past_stream_or_last b p s) (last_itself p.stream s e)

other_at : (p : Past) (mid : List ℕ) (s : Stream) (rest : List ℕ) (b : Bool) → is_last p.stream s ≡ b → IsStream s → NoneAt (stream p) (IsOtherStream p) mid → 1 ∷ mid ≡ stream_or_last b p s ++ rest → ⊥
other_at p mid s rest true is fit none e = absurd cc
other_at p mid s rest false is fit none e =
    let later : mid ≡ stream p s ++ rest = cc in
    none s rest (fit, is) later

-- what is read behind a 1
pub reads_other : (p : Past) (bytes mid rest : List ℕ) (r : Result Stream DecodeFault) → bytes ≡ 1 ∷ mid → IfOk r (λ s. mid ≡ stream p s ++ rest) → IfOk r (λ s. is_last p.stream s ≡ false)
    → IfErr r (λ f. f ≢ faults.NoMemory → NoneAt (stream p) (IsOtherStream p) mid) → Reads (point_stream p) IsStream bytes r rest
reads_other p bytes mid rest (Ok s) at is new _ = at ∙ ap (λ (l : List ℕ). 1 ∷ l) is ∙ ap (λ (b : Bool). stream_or_last b p s ++ rest) (sym new)
reads_other p bytes mid rest (Err f) at _ _ fails = λ ne s more fit e. other_at p mid s more (is_last p.stream s) refl fit (fails ne) (sym at ∙ e)

-- ---- lists

pub all_more : {A : Type 0} (fits : A → Type 0) (xs : List A) (x : A) → AllByRecursion fits xs → fits x → AllByRecursion fits (xs ++ x ∷ [])
all_more fits [] x all one = (one, tt)
all_more fits (y ∷ xs) x all one = (all.0, all_more fits xs x all.1 one)

module _ {S A : Type 0} (code : S → A → List ℕ) (past : S → A → S) where
  -- one value more
  pub forms_more : (p : S) (xs : List A) (x : A) → forms_behind code past p (xs ++ x ∷ []) ≡ forms_behind code past p xs ++ code (past_all past p xs) x
  forms_more p [] x = append-nil (code p x)
  forms_more p (y ∷ xs) x =
      ap (λ (l : List ℕ). code p y ++ l) (forms_more (past p y) xs x) ∙ sym (append_assoc (code p y) (forms_behind code past (past p y) xs) (code (past_all past (past p y) xs) x))

  pub past_more : (p : S) (xs : List A) (x : A) → past_all past p (xs ++ x ∷ []) ≡ past (past_all past p xs) x
  past_more p [] x = refl
  past_more p (y ∷ xs) x = past_more (past p y) xs x

  -- one value more is read
  pub taken_more : (p : S) (bytes front mid last : List ℕ) (xs : List A) (x : A) → bytes ≡ front ++ (forms_behind code past p xs ++ mid) → mid ≡ code (past_all past p xs) x ++ last → bytes ≡ front ++ (forms_behind code past p (xs ++ x ∷ []) ++ last)
  taken_more p bytes front mid last xs x so_far at =
      so_far ∙ ap (λ (l : List ℕ). front ++ (forms_behind code past p xs ++ l)) at
      ∙ ap (λ (l : List ℕ). front ++ l) (sym (append_assoc (forms_behind code past p xs) (code (past_all past p xs) x) last) ∙ ap (λ (l : List ℕ). l ++ last) (sym (forms_more p xs x)))

  -- one value more is written
  pub written_more : (p q : S) (front out new : List ℕ) (xs : List A) (x : A) → out ≡ front ++ forms_behind code past p xs → q ≡ past_all past p xs → new ≡ out ++ code q x → new ≡ front ++ forms_behind code past p (xs ++ x ∷ [])
  written_more p q front out new xs x so_far is step =
      step ∙ ap (λ (l : List ℕ). l ++ code q x) so_far ∙ append_assoc front (forms_behind code past p xs) (code q x)
      ∙ ap (λ (z : S). front ++ (forms_behind code past p xs ++ code z x)) is ∙ ap (λ (l : List ℕ). front ++ l) (sym (forms_more p xs x))

  module _ (fits : A → Type 0) where
    -- fewer bytes than values
    forms_long : ((p : S) (x : A) → 0 < length (code p x)) → (p : S) (xs : List A) → length xs ≤ length (forms_behind code past p xs)
    forms_long some p [] = omega arith
    forms_long some p (x ∷ xs) = omega (arith, some p x, forms_long some (past p x) xs, length-append (code p x) (forms_behind code past (past p x) xs))

    pub no_few : ((p : S) (x : A) → 0 < length (code p x)) → (p : S) (count : ℕ) (bytes rest : List ℕ) → bytes ≡ varint count ++ rest → length rest < count → NoneAt (list_behind code past p) (IsList fits) bytes
    no_few some p count bytes rest is few xs more _ e =
        let both = varint_code count (length xs) rest (forms_behind code past p xs ++ more) (sym is ∙ e ∙ append_assoc (varint (length xs)) (forms_behind code past p xs) more) in
        let same : count ≡ length xs = both.0 in
        let long : length rest ≡ length (forms_behind code past p xs ++ more) = ap length both.1 in
        absurd (omega (arith, forms_long some p xs, length-append (forms_behind code past p xs) more))

    -- some values, and then none
    none_behind : IsCodeBehind code → (p : S) (ys xs : List A) (s t : List ℕ) → length ys < length xs → AllByRecursion fits xs → NoneAt (code (past_all past p ys)) fits s → forms_behind code past p ys ++ s ≡ forms_behind code past p xs ++ t → ⊥
    none_behind is p [] [] s t lt fit none e = absurd (omega arith)
    none_behind is p [] (x ∷ xs) s t lt fit none e = none x (forms_behind code past (past p x) xs ++ t) fit.0 (e ∙ append_assoc (code p x) (forms_behind code past (past p x) xs) t)
    none_behind is p (y ∷ ys) [] s t lt fit none e = absurd (omega arith)
    none_behind is p (y ∷ ys) (x ∷ xs) s t lt fit none e =
        let one = is p y x (forms_behind code past (past p y) ys ++ s) (forms_behind code past (past p x) xs ++ t)
        (sym (append_assoc (code p y) (forms_behind code past (past p y) ys) s) ∙ e ∙ append_assoc (code p x) (forms_behind code past (past p x) xs) t) in
        let same : y ≡ x = one.0 in
        none_behind is (past p y) ys xs s t (omega arith) fit.1 none (subst (λ (z : A). forms_behind code past (past p y) ys ++ s ≡ forms_behind code past (past p z) xs ++ t) (sym same) one.1)

    pub no_list : IsCodeBehind code → (p q : S) (count : ℕ) (ys : List A) (bytes s : List ℕ) → bytes ≡ varint count ++ (forms_behind code past p ys ++ s) → length ys < count → q ≡ past_all past p ys → NoneAt (code q) fits s → NoneAt (list_behind code past p) (IsList fits) bytes
    no_list is_code p q count ys bytes s is lt at none xs more fit e =
        let both = varint_code count (length xs) (forms_behind code past p ys ++ s) (forms_behind code past p xs ++ more) (sym is ∙ e ∙ append_assoc (varint (length xs)) (forms_behind code past p xs) more) in
        let same : count ≡ length xs = both.0 in
        none_behind is_code p ys xs s more (omega arith) fit.1 (subst (λ (z : S). NoneAt (code z) fits s) at none) both.1
