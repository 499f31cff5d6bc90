-- Text stays UTF-8 where its letters of ASCII are put into lower case.
use Rattle.std.proofs.Common.{◌≡◌, ℕ, zero, suc, ◌+◌, ◌<◌, ◌≤◌, Bool, true, false, cond, ltb, List, [], ◌∷◌, ◌++◌, map, length, get_or, IsUtf8, IsAscii, ap, sym, refl, subst, inl, inr, arith}
use Rattle.std.proofs.Math.Seq.{take-append_seam, drop-append-add, get_or-append_seam}
use Rattle.std.proofs.lemmas.Bool.{cases_lt, ltb-true, le-ltb}
use Rattle.std.proofs.lemmas.List.{append_assoc, length-append}
use Rattle.std.proofs.lemmas.Str.{IsUtf8-append, IsUtf8-take, IsUtf8-drop, IsUtf8-from_ascii, IsCharBoundary-before_ascii, IsCharBoundary-after_ascii}
use Rattle.std.specs.Char.{to_ascii_lowercase}

single : (b : ℕ) → b < 128 → IsAscii (b ∷ [])
single b low zero = low
single b low (suc i) = omega arith

-- a byte of ASCII in the place of another
swapped : (front rest : List ℕ) (b c : ℕ) → b < 128 → c < 128 → IsUtf8 (front ++ b ∷ rest) → IsUtf8 (front ++ c ∷ rest)
swapped front rest b c low small text =
    let whole = front ++ b ∷ rest in
    let long = length-append front (b ∷ rest) in
    let inside : length front < length whole = omega (arith, long) in
    let here : get_or whole (length front) 0 < 128 = subst (λ x. x < 128) (sym (get_or-append_seam front b rest 0)) low in
    let before = IsUtf8-take whole (length front) text (IsCharBoundary-before_ascii whole (length front) inside here) in
    let after = IsUtf8-drop whole (length front + 1) text (IsCharBoundary-after_ascii whole (length front) text inside here) in
    IsUtf8-append front (c ∷ rest)
    (subst IsUtf8 (take-append_seam front (b ∷ rest)) before)
    (IsUtf8-append (c ∷ []) rest (IsUtf8-from_ascii (c ∷ []) (single c small)) (subst IsUtf8 (drop-append-add front (b ∷ rest) 1) after))

small : (x y : Bool) (b v : ℕ) → b < 128 → (y ≡ true → v < 128) → cond x b (cond y v b) < 128
small true y b v h k = h
small false true b v h k = k refl
small false false b v h k = h

kept : (x y : Bool) (b v : ℕ) → y ≡ false → cond x b (cond y v b) ≡ b
kept true y b v e = refl
kept false y b v e = ap (λ z. cond z v b) e

lowered_low : (b : ℕ) → b < 128 → to_ascii_lowercase b < 128
lowered_low b h = small (ltb b 65) (ltb b 91) b (b + 32) h (λ e. let below = ltb-true b 91 e in omega arith)

lowered_high : (b : ℕ) → 128 ≤ b → to_ascii_lowercase b ≡ b
lowered_high b h = kept (ltb b 65) (ltb b 91) b (b + 32) (le-ltb b 91 (omega arith))

after_front : (front rest : List ℕ) → IsUtf8 (front ++ rest) → IsUtf8 (front ++ map to_ascii_lowercase rest)
after_front front [] text = text
after_front front (b ∷ rest) text =
    let next : IsUtf8 (front ++ to_ascii_lowercase b ∷ rest) = elim (cases_lt b 128) [
      | inl low ↦ swapped front rest b (to_ascii_lowercase b) low (lowered_low b low) text
      | inr high ↦ subst (λ x. IsUtf8 (front ++ x ∷ rest)) (sym (lowered_high b high)) text
    ] in
    let on = after_front (front ++ to_ascii_lowercase b ∷ []) rest (subst IsUtf8 (sym (append_assoc front (to_ascii_lowercase b ∷ []) rest)) next) in
    subst IsUtf8 (append_assoc front (to_ascii_lowercase b ∷ []) (map to_ascii_lowercase rest)) on

pub IsUtf8-lowered : (bytes : List ℕ) → IsUtf8 bytes → IsUtf8 (map to_ascii_lowercase bytes)
IsUtf8-lowered bytes text = after_front [] bytes text
