-- Incarnations of archives adopt each incarnation once.
use Rattle.std.proofs.Common.{◌≡◌, ℕ, Bool, true, false, cond, inl, inr, List, [], ◌∷◌, map, filter, refl, sym, ap, subst, ◌∙◌}
use Rattle.std.specs.List.{flat_map}
use Rattle.std.proofs.lemmas.List.{map-append}
use Rattle.archive_kit.specs.Adopting.{Counted, EachOnce}
use Rattle.archive_kit.specs.Archive.{fresh}
use Rattle.archive_kit.specs.Driving.{Adoption}
use Rattle.archive_kit.specs.Written.{adoption_of}
use Rattle.archive_kit.proofs.Driving.{left_once, sealed_apart}
use Rattle.archive_kit.proofs.Exact.{once_below}
use Rattle.archive_world_kit.specs.Adopted.{Archives, adopted_by}
use Rattle.archive_world_kit.specs.Apart.{AdoptApart, AdoptOnce, IsSealedBefore, adopted_in, of_archives}
use Rattle.archive_world_kit.specs.Steps.{History, HasIdentities, deeds, rounding}
use Rattle.point_kit.specs.declared.writer_id.WriterId.{WriterId}
use Rattle.schedule_kit.specs.Members.{In, Once}
use Rattle.schedule_kit.specs.Taken.{incarnations}
use Rattle.schedule_kit.proofs.Incarnations.{incarnations_once}
use Rattle.schedule_kit.proofs.Members.{filter-In, flat_map-In, map-In}
use Rattle.schedule_kit.proofs.Recorded.{Once-append}
use mathlib.Core.List.{map-map}

once_filtered : {A : Type 0} (p : A → Bool) (xs : List A) → Once xs → Once (filter p xs)
once_filtered p [] h = tt
once_filtered p (x ∷ xs) h = elim (p x) as (λ b. Once (cond b (x ∷ filter p xs) (filter p xs))) [
  | true ↦ (λ i. h.0 (filter-In p x xs i).0, once_filtered p xs h.1)
  | false ↦ once_filtered p xs h.1
]

-- what lists bring that are once each and apart
once_flat : {A B C : Type 0} (f : A → List B) (name : B → C) (xs : List A) → Once xs → ((x : A) → In x xs → Once (map name (f x)))
    → ((x y : A) → In x xs → In y xs → (x ≡ y → ⊥) → (b c : B) → In b (f x) → In c (f y) → name b ≡ name c → ⊥)
    → Once (map name (flat_map f xs))
once_flat f name [] once each apart = tt
once_flat {A} {B} {C} f name (x ∷ xs) once each apart =
    subst (λ (l : List C). Once l) (sym (map-append name (f x) (flat_map f xs)))
    (Once-append (map name (f x)) (map name (flat_map f xs)) (each x (inl refl))
    (once_flat f name xs once.1 (λ y i. each y (inr i)) (λ y z i j. apart y z (inr i) (inr j)))
    (λ n i j.
    let b = map-In name n (f x) i in
    let c = map-In name n (flat_map f xs) j in
    let y = flat_map-In f c.0 xs c.1 in
    apart x y.0 (inl refl) (inr y.1) (λ e. once.0 (subst (λ (z : A). In z xs) (sym e) y.1)) b.0 c.0 b.1 y.2 (sym b.2 ∙ c.2)))

module _ {N : Type 0} (h : History N) (a : Archives h) (g : ℕ) where
  abbrev its : ℕ → Counted N → Adoption
  its b c = adoption_of (rounding h.writing) a.held b c

  abbrev named : ℕ × ℕ → WriterId × ℕ
  named i = (h.writing.who i.0, i.1)

  own_once : (i : ℕ × ℕ) → In i (of_archives a g) → Once {A = ℕ × ℕ} (map (λ c. c.0) (adopted_in a g i))
  own_once i there =
      let by = (filter-In (λ (i : ℕ × ℕ). a.is_archive (h.writing.who i.0)) i (incarnations h.starts (deeds h.steps)) there).1 in
      let d = a.are.driven.each i.0 _ by in
      once_below named (map (λ (c : Counted N). c.0) (adopted_in a g i))
      (subst (λ (l : List (WriterId × ℕ)). Once l)
      (ap (map (λ (c : Adoption). c.0)) (sym d.adopts) ∙ map-map (λ (c : Adoption). c.0) (its i.0) (adopted_in a g i) ∙ sym (map-map named (λ (c : Counted N). c.0) (adopted_in a g i)))
      (left_once (fresh (h.writing.who i.0) d.start d.limit) refl d.calls d.accepted))

  pub sealed_adopt_apart : (i j : ℕ × ℕ) → IsSealedBefore a g i j → AdoptApart a g i j
  sealed_adopt_apart i j is c d k l same =
      sealed_apart (fresh (h.writing.who i.0) is.start is.limit) refl is.later is.earlier is.again is.accepted
      (its i.0 c) (its j.0 d) (is.first c k) (is.second d l) (ap named same)

  swapped : (i j : ℕ × ℕ) → AdoptApart a g j i → AdoptApart a g i j
  swapped i j apart c d k l same = apart d c l k (sym same)

  pub each_once : HasIdentities h → AdoptOnce a g → EachOnce (adopted_by a g)
  each_once told apart =
      once_flat (adopted_in a g) (λ (c : Counted N). c.0) (of_archives a g)
      (once_filtered (λ (i : ℕ × ℕ). a.is_archive (h.writing.who i.0)) (incarnations h.starts (deeds h.steps))
      (once_below named (incarnations h.starts (deeds h.steps)) (incarnations_once h.starts h.writing.who told h.fits h.gateways (deeds h.steps) h.is.lawful)))
      own_once
      (λ i j k l differ. elim (apart i j k l differ) [
        | inl before ↦ sealed_adopt_apart i j before
        | inr (inl after) ↦ swapped i j (sealed_adopt_apart j i after)
        | inr (inr others) ↦ others
      ])
