-- A text and the room that it lies in.
use Rattle.std.proofs.Common.{◌≡◌, ◌≤◌, ◌++◌, ℕ, zero, suc, List, [], ◌∷◌, length, take, refl, ap, subst, arith, ◌∙◌}

-- the front of a room, as long as the text that lies in it, is the text
pub text_in_room : (text rest : List ℕ) (n : ℕ) → length text ≤ n → take (length text) (take n (text ++ rest)) ≡ text
text_in_room [] rest n h = refl
text_in_room (b ∷ bs) rest zero h = absurd (omega (arith, h))
text_in_room (b ∷ bs) rest (suc n) h = ap (λ l. b ∷ l) (text_in_room bs rest n (omega (arith, h)))

-- so it is in a copy of the room's front
pub text_copied : (text shown room copied : List ℕ) (rest : List ℕ) (n : ℕ) → shown ≡ text → room ≡ text ++ rest → copied ≡ take n room → length shown ≤ n → take (length shown) copied ≡ text
text_copied text shown room copied rest n same whole front h =
    let short : length text ≤ n = subst (λ (t : List ℕ). length t ≤ n) same h in
    (λ i. take (length (same i)) (front i)) ∙ ap (λ r. take (length text) (take n r)) whole ∙ text_in_room text rest n short
