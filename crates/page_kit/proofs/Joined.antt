-- Pieces with a text between each two, one more at a time.
use Rattle.std.proofs.Common.{◌≡◌, ◌++◌, ◌∷◌, [], ◌+◌, ◌<◌, ◌∙◌, ℕ, List, take, length, get_or, sym, ap, rules, append_assoc, arith}
use Rattle.std.specs.List.{join_by, flat_map}
use Rattle.std.proofs.lemmas.List.{append-nil, take_more, length-take-le}
use Rattle.std.proofs.lemmas.Grind.{flat_map-append}
use Rattle.page_kit.specs.Labels.{joined, separator}

module _ {X : Type 0} (f : X → List ℕ) (between : List ℕ) where
  join_more : (ps : List X) (x : X) → join_by f between (ps ++ x ∷ []) ≡ (join_by f between ps ++ separator between (length ps)) ++ f x
  join_more [] x = append-nil (f x)
  join_more (p ∷ ps) x =
      let more : flat_map (λ y. between ++ f y) (ps ++ x ∷ []) ≡ flat_map (λ y. between ++ f y) ps ++ (between ++ f x) = flat_map-append (λ y. between ++ f y) ps (x ∷ []) ∙ ap (λ l. flat_map (λ y. between ++ f y) ps ++ l) (append-nil (between ++ f x)) in
      rw more (search (rules, append_assoc))

  -- the piece at a place, after those before it
  pub join_step : (xs : List X) (i : ℕ) (d : X) → i < length xs → join_by f between (take (i + 1) xs) ≡ (join_by f between (take i xs) ++ separator between i) ++ f (get_or xs i d)
  join_step xs i d within =
      let one : take (i + 1) xs ≡ take i xs ++ get_or xs i d ∷ [] = take_more xs i d within in
      let so_many : length (take i xs) ≡ i = length-take-le i xs (omega arith) in
      ap (join_by f between) one ∙ join_more (take i xs) (get_or xs i d) ∙ ap (λ n. (join_by f between (take i xs) ++ separator between n) ++ f (get_or xs i d)) so_many

-- one text alone
pub joined_one : (t : List ℕ) → t ≡ joined (t ∷ [])
joined_one t = sym (append-nil t)
