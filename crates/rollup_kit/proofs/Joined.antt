-- Pieces with a comma between each two, one more at a time.
use Rattle.std.proofs.Common.{◌≡◌, ◌++◌, ◌∷◌, [], ◌+◌, ◌<◌, ◌≤◌, ◌∙◌, ℕ, List, Some, None, inl, inr, take, length, slice_get, ap, sym, rules, append_assoc, arith}
use Rattle.std.specs.List.{join_by, flat_map}
use Rattle.std.proofs.lemmas.List.{append-nil, take_more, length-take-le}
use Rattle.std.proofs.lemmas.Grind.{flat_map-append}
use Rattle.std.proofs.lemmas.Option.{slice_get_within, get_or_from_slice_get, slice_get_cases}
use Rattle.rollup_kit.specs.RowText.{comma_before}

module _ {X : Type 0} (f : X → List ℕ) where
  -- one more piece
  join_more : (ps : List X) (x : X) → join_by f (44 ∷ []) (ps ++ x ∷ []) ≡ (join_by f (44 ∷ []) ps ++ comma_before (length ps)) ++ f x
  join_more [] x = append-nil (f x)
  join_more (p ∷ ps) x =
      let more : flat_map (λ y. (44 ∷ []) ++ f y) (ps ++ x ∷ []) ≡ flat_map (λ y. (44 ∷ []) ++ f y) ps ++ (44 ∷ f x) = flat_map-append (λ y. (44 ∷ []) ++ f y) ps (x ∷ []) ∙ ap (λ l. flat_map (λ y. (44 ∷ []) ++ f y) ps ++ l) (ap (λ l. 44 ∷ l) (append-nil (f x))) in
      rw more (search (rules, append_assoc))

  -- the piece at a place, after those before it
  pub join_step : (xs : List X) (i : ℕ) (x : X) → slice_get xs i ≡ Some x → join_by f (44 ∷ []) (take (i + 1) xs) ≡ (join_by f (44 ∷ []) (take i xs) ++ comma_before i) ++ f x
  join_step xs i x e =
      let within : i < length xs = slice_get_within xs i x e in
      let one : take (i + 1) xs ≡ take i xs ++ x ∷ [] = take_more xs i x within ∙ ap (λ y. take i xs ++ y ∷ []) (get_or_from_slice_get xs i x x e) in
      let so_many : length (take i xs) ≡ i = length-take-le i xs (omega arith) in
      ap (join_by f (44 ∷ [])) one ∙ join_more (take i xs) x ∙ ap (λ n. (join_by f (44 ∷ []) (take i xs) ++ comma_before n) ++ f x) so_many

-- a place of a list has an element
pub past_end : {X : Type 0} (xs : List X) (i : ℕ) → i < length xs → slice_get xs i ≡ None → ⊥
past_end [] i h e = omega arith
past_end (x ∷ xs) i h e = elim (slice_get_cases (x ∷ xs) i).1 [ inl is ↦ let a : Some is.0 ≡ None = sym is.2 ∙ e in cc | inr out ↦ let b : length (x ∷ xs) ≤ i = out.0 in omega arith ]
