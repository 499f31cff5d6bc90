-- What requests bring that have a point in the scope of tombstones, and what those that have none.
use Rattle.std.proofs.Common.{◌≡◌, ℕ, ◌+◌, Bool, not, cond, List, [], ◌∷◌, Option, Some, None, Ok, length, map, position, refl, ap}
use Rattle.std.specs.List.{position_or_len}
use Rattle.std.proofs.lemmas.List.{length-map}
use Rattle.otlp_kit.specs.Reading.{exports_read, said_of}
use Rattle.point_kit.specs.declared.export.Export.{Export}
use Rattle.kit_c.specs.Formats.{bringing_fault, has_reserved}
use Rattle.kit_c.specs.declared.fault.Fault.TheVariants as faults

module _ {A B : Type 0} (f : A → B) (p : B → Bool) where
  place_of_map : (xs : List A) → position_or_len p (map f xs) ≡ position_or_len (λ x. p (f x)) xs
  place_of_map [] = refl
  place_of_map (x ∷ xs) = ap (λ n. cond (not (p (f x))) (1 + n) 0) (place_of_map xs)

  position_of_map : (xs : List A) → position p (map f xs) ≡ position (λ x. p (f x)) xs
  position_of_map xs = rw (place_of_map xs) (rw (length-map xs f) refl)

module _ (bytes : List ℕ) (es : List Export) (read : exports_read bytes ≡ Ok (map said_of es)) where
  pub brings_all : position (λ e. has_reserved (said_of e)) es ≡ None → bringing_fault bytes ≡ None
  brings_all none = rw read (rw (position_of_map said_of has_reserved es) (rw none refl))

  pub brings_reserved : (k : ℕ) → position (λ e. has_reserved (said_of e)) es ≡ Some k → bringing_fault bytes ≡ Some (faults.ReservedPoint k)
  brings_reserved k there = rw read (rw (position_of_map said_of has_reserved es) (rw there refl))
