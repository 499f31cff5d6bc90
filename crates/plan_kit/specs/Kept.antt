-- How a plan keeps its instruments: equal ones share the feeds of the first.
use Rattle.std.specs.Prelude.{◌≡◌, ◌||◌, ℕ, nat_lt, not, Bool, true, false, List, [], length, map, slice_get, slice_index_or}
use Rattle.std.specs.List.{list_all}
use Rattle.std.specs.Option.{option_map_or}
use Rattle.point_kit.specs.declared.stream.Stream.{Stream}
use Rattle.plan_kit.specs.declared.feed.Feed.{Feed}
use Rattle.plan_kit.specs.declared.kept.KeptInstrument.{KeptInstrument}
use Rattle.plan_kit.specs.declared.instrument.Instrument.{Instrument}
use Rattle.plan_kit.specs.Owners.{owner_of}
use Rattle.plan_kit.specs.declared.wanted.Wanted.{Wanted}
use Rattle.plan_kit.specs.Plans.{Source, Planned, is_proper, rises, only_rises}

-- an instrument as it is kept
abbrev pub kept_instrument : List Instrument → Instrument → KeptInstrument
kept_instrument is i = record { kind = i.kind; owner = owner_of is i }

-- an instrument has the feeds of the first that is equal to it
abbrev pub source_at : List (List Feed) → KeptInstrument → Source
source_at lists place = record { kind = place.kind; feeds = slice_index_or lists place.owner [] }

abbrev pub plan_from_parts : List KeptInstrument → List (List Feed) → List Stream → ℕ → Planned
plan_from_parts places lists streams limit = record { instruments = map (source_at lists) places; streams = streams; limit = limit }

-- the instrument at a place takes no values below 0
abbrev pub owner_rises : List Instrument → ℕ → Bool
owner_rises is n = option_map_or (λ i. only_rises i.kind) (slice_get is n) false

-- a feed whose totals only rise is of an instrument that takes no values below 0
abbrev pub is_rightly_rising : List Instrument → Wanted → Bool
is_rightly_rising is w = not (rises w.stream.shape) || owner_rises is w.owner

-- what holds of the feeds of instruments by views with good bounds
pub record AreSound (is : List Instrument) (ws : List Wanted) : Type 0 where
  pub below : list_all (λ w. nat_lt w.owner (length is)) ws ≡ true
  pub proper : list_all (λ w. is_proper w.stream.shape) ws ≡ true
  pub rising : list_all (is_rightly_rising is) ws ≡ true
