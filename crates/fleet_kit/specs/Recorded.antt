-- What the seats of a shared writer recorded, each by its number.
use Rattle.std.specs.Prelude.{◌≡◌, ℕ, List, [], ◌∷◌}
use Rattle.agg_kit.specs.Entries.{Entry}
use Rattle.agg_kit.specs.Tallies.{Tallied}
use Rattle.turn_kit.specs.declared.seat.Seat.{Seat}
use Rattle.turn_kit.specs.History.{by, flat, StartsWith}
use Rattle.turn_kit.specs.Public.{joined, mine, seen}
use Rattle.writer_kit.specs.Shared.{History, recorded_by, tally_after}
use Rattle.writer_kit.specs.Written.{Written}
use Rattle.writer_kit.specs.declared.shared.change.WriterChange.{WriterChange}

-- each change of a history, by its seat's number, as what it recorded, where the history began with this tally
abbrev pub recordings : Tallied → History → List (ℕ × List Entry)
recordings t [] = []
recordings t (x ∷ xs) = (x.0, recorded_by t x.1) ∷ recordings (tally_after t x.1) xs

-- what the seat of a number recorded, in its order
abbrev pub recorded_at : Tallied → History → ℕ → List Entry
recorded_at t h n = flat (by n (recordings t h))

-- the seat of a number, whose own changes are these, recorded these entries; what it saw begins what is seen now
pub record HasBrought (t : Tallied) (now : History) (n : ℕ) (own : List WriterChange) (es : List Entry) : Type 0 where
  pub saw : History
  pub begins : StartsWith now saw
  pub whole : by n saw ≡ own
  pub recorded : recorded_at t saw n ≡ es

-- seats and their entries, one by one
abbrev pub HaveBrought : Tallied → History → List (ℕ × List WriterChange) → List (List Entry) → Type 0
HaveBrought t now [] [] = Unit {0}
HaveBrought t now [] (es ∷ ess) = ⊥
HaveBrought t now (s ∷ ss) [] = ⊥
HaveBrought t now (s ∷ ss) (es ∷ ess) = HasBrought t now s.0 s.1 es × HaveBrought t now ss ess

-- The seats that were joined into this one recorded these entries, one seat's after the other's, and it changed nothing itself.
pub record Brings {g : _} (t : Tallied) (s : Seat Written WriterChange g) (es : List Entry) : Type 0 where
  pub idle : mine s ≡ []
  pub each : List (List Entry)
  pub brought : HaveBrought t (seen s) (joined s) each
  pub all : flat each ≡ es
