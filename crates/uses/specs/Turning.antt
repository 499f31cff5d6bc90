-- A mark that only rises.
use Rattle.std.specs.Prelude.{◌≡◌, ◌≤◌, ℕ, Option, Some, None, if◌then◌else◌, nat_lt}
use Rattle.turn_kit.specs.Public.{Enters, Refuses, opening, limit_of}
use Rattle.turn_kit.specs.declared.seat.Seat.{Seat}
use Rattle.turn_kit.specs.declared.turn.Turn.{Turn}

-- what a height makes of a mark; nothing where it is not higher
abbrev pub mark_after : ℕ → ℕ → Option ℕ
mark_after old height = if nat_lt old height then Some height else None

module _ {G : Type 0} {g : _} (turn : Turn ℕ G ℕ) where
  -- a seat's change raises the mark: at its place in the one history of all, from one height to another
  abbrev pub Raises : ℕ → ℕ → Seat ℕ ℕ g → Seat ℕ ℕ g → Type 0
  Raises from to old new = Enters (λ m. m) mark_after (opening turn) (limit_of turn) to (λ m. from ≡ m) old new

  -- its change is refused: what the whole history so far makes of the mark is no lower
  abbrev pub IsNotRaised : ℕ → Seat ℕ ℕ g → Seat ℕ ℕ g → Type 0
  IsNotRaised to old new = Refuses (λ m. m) mark_after (opening turn) (limit_of turn) (λ m. to ≤ m) old new
