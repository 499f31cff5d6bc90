-- How gateways come to what they hold that take, merge, hear mails and forget what they hide.
use Rattle.std.specs.Prelude.{◌≡◌, ℕ, Bool, List, [], ◌∷◌, ◌++◌}
use Rattle.std.specs.List.{flat_map}
use Rattle.std.specs.declared.cmp.Ordering.{Ordering}
use Rattle.std.specs.FinMap.{FinMap}
use Rattle.point_kit.specs.declared.cell.Cell.{Cell}
use Rattle.point_kit.specs.Join.{join_cells}
use Rattle.point_kit.specs.States.{join_maps, state_of}
use Rattle.schedule_kit.specs.Members.{In}
use Rattle.archive_kit.specs.Showing.{shown, join_shown, IsShownBelow}

-- a gateway took an export, merged what another held, heard the part that a mail carries of what its sender held, beside what it
-- once had itself, by the sender's books; and forgot what it hides
pub data Story (E M : Type 0) : Type 0 where
  Begun : Story E M
  Taking : (before : Story E M) (export : E) → Story E M
  Merging : (before other : Story E M) → Story E M
  Hearing : (before sender : Story E M) (once part : M) → Story E M
  Forgetting : (before : Story E M) → Story E M

-- the exports that it took, by itself or by those that it merged or heard
abbrev pub taken : {E M : Type 0} → Story E M → List E
taken Begun = []
taken (Taking s e) = taken s ++ e ∷ []
taken (Merging s t) = taken s ++ taken t
taken (Hearing s t once part) = taken s ++ taken t
taken (Forgetting s) = taken s

-- the same exports, in whatever order and however often
abbrev pub SameTaken : {E M : Type 0} → Story E M → Story E M → Type 0
SameTaken {E} s t = ((e : E) → In e (taken s) → In e (taken t)) × ((e : E) → In e (taken t) → In e (taken s))

module _ {E K P : Type 0} (R : K → K → Ordering) (eq : P → P → Bool) (names : K → K → Bool) (points : E → List (K × (ℕ × P))) where
  -- the state of exports
  abbrev pub state_of_taken : List E → FinMap R (Cell P)
  state_of_taken es = state_of R eq (flat_map points es)

  -- what it holds
  abbrev pub held : Story E (FinMap R (Cell P)) → FinMap R (Cell P)
  held Begun = state_of_taken []
  held (Taking s e) = join_maps (join_cells eq) (held s) (state_of_taken (e ∷ []))
  held (Merging s t) = join_maps (join_cells eq) (held s) (held t)
  held (Hearing s t once part) = join_maps (join_cells eq) (held s) part
  held (Forgetting s) = shown names (held s)

  -- Each mail is as a node promises: what its receiver once had, joined with what it carries, shows what that shows joined with all
  -- that its sender had; and its receiver shows all that it once had.
  abbrev pub IsHeard : Story E (FinMap R (Cell P)) → Type 0
  IsHeard Begun = Unit {0}
  IsHeard (Taking s e) = IsHeard s
  IsHeard (Merging s t) = IsHeard s × IsHeard t
  IsHeard (Hearing s t once part) =
      IsHeard s × IsHeard t × IsShownBelow names (join_cells eq) once (held s)
      × (join_shown names (join_cells eq) once part ≡ join_shown names (join_cells eq) once (held t))
  IsHeard (Forgetting s) = IsHeard s
