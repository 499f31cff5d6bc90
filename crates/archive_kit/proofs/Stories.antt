-- What gateways show that take, merge, hear mails and forget.
use Rattle.std.proofs.Common.{◌≡◌, ℕ, Bool, List, [], ◌∷◌, ◌++◌, refl, sym, ap, ◌∙◌}
use Rattle.std.proofs.lemmas.Grind.{flat_map-append}
use Rattle.std.specs.List.{flat_map}
use Rattle.std.specs.declared.cmp.Ordering.{Ordering}
use Rattle.std.specs.Cmp.{IsTotalOrder, IsEquivalence}
use Rattle.std.specs.FinMap.{FinMap, IsAntisymmetric}
use Rattle.attr_kit.specs.Exact.{IsExact}
use Rattle.point_kit.specs.declared.cell.Cell.{Cell}
use Rattle.point_kit.specs.Join.{join_cells, IsAssociative}
use Rattle.point_kit.proofs.JoinLaws.{cells_commute, cells_associate}
use Rattle.point_kit.specs.States.{join_maps, state_of}
use Rattle.point_kit.proofs.StateLaws.{state-append, maps_commute}
use Rattle.schedule_kit.proofs.Headline.{same_took}
use Rattle.archive_kit.specs.Showing.{NamesNoNamer, shown, IsShownBelow}
use Rattle.archive_kit.specs.Stories.{Story, taken, SameTaken, held, state_of_taken, IsHeard}
use Rattle.archive_kit.specs.Stories.Story.{Begun, Taking, Merging, Hearing, Forgetting}
use Rattle.archive_kit.proofs.Showing.{shown_twice, shown_congruent, delta_brings}

module _ {E K P : Type 0} {R : K → K → Ordering} (o : IsTotalOrder R) (anti : IsAntisymmetric R) (eq : P → P → Bool) (laws : IsEquivalence eq) (exact : IsExact eq)
    (names : K → K → Bool) (none : NamesNoNamer names) (points : E → List (K × (ℕ × P))) where
  abbrev S : List E → FinMap R (Cell P)
  S es = state_of_taken R eq names points es

  more : (xs ys : List E) → S (xs ++ ys) ≡ join_maps (join_cells eq) (S xs) (S ys)
  more xs ys = ap (state_of R eq) (flat_map-append points xs ys) ∙ state-append o anti eq laws exact (flat_map points xs) (flat_map points ys)

  abbrev H : Story E (FinMap R (Cell P)) → FinMap R (Cell P)
  H s = held R eq names points s

  cells_assoc : IsAssociative (join_cells eq)
  cells_assoc = cells_associate eq laws exact

  -- what a join of two shows that show what exports show
  both : (m n : FinMap R (Cell P)) (xs ys : List E) → shown names m ≡ shown names (S xs) → shown names n ≡ shown names (S ys) → shown names (join_maps (join_cells eq) m n) ≡ shown names (S (xs ++ ys))
  both m n xs ys e f =
      shown_congruent o anti names none (join_cells eq) m n (S xs) (S ys) e f
      ∙ ap (λ (m : FinMap R (Cell P)). shown names m) (sym (more xs ys))

  -- a receiver that shows what it once had
  has_once : (m once : FinMap R (Cell P)) → IsShownBelow names (join_cells eq) once m → shown names (join_maps (join_cells eq) m once) ≡ shown names m
  has_once m once below = ap (λ (x : FinMap R (Cell P)). shown names x) (maps_commute o anti (join_cells eq) (cells_commute eq laws exact) m once) ∙ below

  pub held_shows : (s : Story E (FinMap R (Cell P))) → IsHeard R eq names points s → shown names (H s) ≡ shown names (S (taken s))
  held_shows Begun h = refl
  held_shows (Taking s e) h = both (H s) (S (e ∷ [])) (taken s) (e ∷ []) (held_shows s h) refl
  held_shows (Merging s t) h = both (H s) (H t) (taken s) (taken t) (held_shows s h.0) (held_shows t h.1)
  held_shows (Hearing s t once part) h =
      delta_brings o anti names none (join_cells eq) cells_assoc (H s) once part (H t) (has_once (H s) once h.2) h.3
      ∙ both (H s) (H t) (taken s) (taken t) (held_shows s h.0) (held_shows t h.1)
  held_shows (Forgetting s) h = shown_twice o anti names none (H s) ∙ held_shows s h

  pub same_shown : (s t : Story E (FinMap R (Cell P))) → IsHeard R eq names points s → IsHeard R eq names points t → SameTaken s t → shown names (H s) ≡ shown names (H t)
  same_shown s t h k same = held_shows s h ∙ ap (λ (m : FinMap R (Cell P)). shown names m) (same_took o anti eq laws exact points (taken s) (taken t) same.0 same.1) ∙ sym (held_shows t k)
