-- Digits one after the other, and zeros at their end.
use Rattle.std.proofs.Common.{◌≡◌, ℕ, ℤ, pos, negsuc, zero, suc, ◌+◌, ◌<◌, ◌≤◌, Bool, true, false, cond, eqb, FitsSigned, w64, List, [], ◌∷◌, ◌++◌, length, take, get_or, refl, sym, ap, ◌∙◌, arith}
use Rattle.std.specs.Fmt.{signed_decimal}
use Rattle.std.specs.Str.{IsAscii}
use Rattle.std.proofs.lemmas.Bool.{eqb-true}
use Rattle.std.proofs.lemmas.Fmt.{IsAscii-signed}
use Rattle.std.proofs.lemmas.List.{take_more}
use Rattle.page_kit.specs.Rows.{before_zeros, without_zeros, mantissa}

-- what a mantissa has still to say of these digits, the first of which stands at a place
abbrev pub left : ℕ → List ℕ → List ℕ
left zero digits = mantissa digits
left (suc place) digits = digits

-- a zero at the end is left out, and what ends otherwise is kept
pub zero_left : (ds : List ℕ) → without_zeros (ds ++ 48 ∷ []) ≡ without_zeros ds
zero_left [] = refl
zero_left (d ∷ ds) = ap (before_zeros d) (zero_left ds)

kept_before : (d : ℕ) (ds : List ℕ) (x : ℕ) → before_zeros d (ds ++ x ∷ []) ≡ d ∷ (ds ++ x ∷ [])
kept_before d [] x = refl
kept_before d (e ∷ es) x = refl

last_kept : (x : ℕ) → eqb x 48 ≡ false → before_zeros x [] ≡ x ∷ []
last_kept x e = ap (λ (b : Bool). cond b [] (x ∷ [])) e

pub end_kept : (ds : List ℕ) (x : ℕ) → eqb x 48 ≡ false → without_zeros (ds ++ x ∷ []) ≡ ds ++ x ∷ []
end_kept [] x e = last_kept x e
end_kept (d ∷ ds) x e = ap (before_zeros d) (end_kept ds x e) ∙ kept_before d ds x

kept_at : (ds : List ℕ) (len i : ℕ) (b : Bool) → i < length ds → eqb (get_or ds i 0) 48 ≡ b → take len ds ≡ without_zeros (take i ds) → take (cond b len (i + 1)) ds ≡ without_zeros (take (i + 1) ds)
kept_at ds len i true h is before =
    let zero_here : get_or ds i 0 ≡ 48 = eqb-true (get_or ds i 0) 48 is in
    before ∙ sym (zero_left (take i ds)) ∙ ap (λ (x : ℕ). without_zeros (take i ds ++ x ∷ [])) (sym zero_here) ∙ ap without_zeros (sym (take_more ds i 0 h))
kept_at ds len i false h is before =
    take_more ds i 0 h ∙ sym (end_kept (take i ds) (get_or ds i 0) is) ∙ ap without_zeros (sym (take_more ds i 0 h))

-- the digits so far without zeros at their end, with one digit more
pub digits_kept : (ds : List ℕ) (len i : ℕ) → i < length ds → take len ds ≡ without_zeros (take i ds) → take (cond (eqb (get_or ds i 0) 48) len (i + 1)) ds ≡ without_zeros (take (i + 1) ds)
digits_kept ds len i h before = kept_at ds len i (eqb (get_or ds i 0) 48) h refl before

-- and there are no more than digits so far
pub kept_within : (len i : ℕ) (b : Bool) → len ≤ i → cond b len (i + 1) ≤ i + 1
kept_within len i true h = omega arith
kept_within len i false h = omega arith

-- digits of a number are of ASCII
pub ascii_signed : (z : ℤ) → FitsSigned w64 z → IsAscii (signed_decimal z)
ascii_signed (pos n) h = IsAscii-signed (pos n) h.sfits
ascii_signed (negsuc n) h = IsAscii-signed (negsuc n) h.sfits
