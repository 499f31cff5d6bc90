-- A log of recordings, and what taking it in makes of a tally.
use Rattle.std.specs.Prelude.{◌≡◌, ◌+◌, ◌++◌, ℕ, ℤ, List, Option, Some, None, fold}
use Rattle.std.specs.Option.{option_map, option_map_or}
use Rattle.agg_kit.specs.Entries.{Entry}
use Rattle.agg_kit.specs.Feeds.{IsHeld}
use Rattle.agg_kit.specs.Held.{IsHeldAt}
use Rattle.agg_kit.specs.Measuring.{after_held, after_measure, early_fault_of, early_held_fault_of, fault_of, held_fault_of}
use Rattle.agg_kit.specs.Tallies.{Tallied}
use Rattle.agg_kit.specs.declared.fault.TallyFault.{TallyFault}

-- a recording of an instrument with a set, or one at a held point, by its number
pub data Recording : Type 0 where
  ByName : Entry → Recording
  ByNumber : ℕ → ℤ → Recording

-- what contracts see of a recorder
pub record Logged : Type 0 where
  pub log : List Recording
  pub capacity : ℕ

-- why a tally refuses a recording, memory aside
abbrev pub fault_at : Tallied → Recording → Option TallyFault
fault_at t (ByName e) = fault_of t e
fault_at t (ByNumber n v) = held_fault_of t n v

-- what of it is looked for before memory is wanted
abbrev pub early_fault_at : Tallied → Recording → Option TallyFault
early_fault_at t (ByName e) = early_fault_of t e
early_fault_at t (ByNumber n v) = early_held_fault_of t n v

-- no recording like this one takes memory: its points are there, and no feed copies what it keeps of the set
abbrev pub TakesNoMemory : Tallied → Recording → Type 0
TakesNoMemory t (ByName e) = IsHeld t e
TakesNoMemory t (ByNumber n v) = IsHeldAt t n

-- memory may be refused for a recording: nothing refuses it before memory is wanted, and it may take some
abbrev pub WantsMemory : Tallied → Recording → Type 0
WantsMemory t r = (early_fault_at t r ≡ None) × (TakesNoMemory t r → ⊥)

-- a tally after a recording
abbrev pub after_at : Tallied → Recording → Tallied
after_at t (ByName e) = after_measure t e
after_at t (ByNumber n v) = after_held t n v

-- what a log came to so far: the tally, how many recordings it took and refused, and which was refused first, and why
pub record Outcome : Type 0 where
  pub tally : Tallied
  pub recorded : ℕ
  pub refused : ℕ
  pub first : Option (ℕ × TallyFault)

abbrev pub or_first : Option (ℕ × TallyFault) → ℕ × TallyFault → Option (ℕ × TallyFault)
or_first None f = Some f
or_first (Some e) f = Some e

-- one recording more: it is measured, or it is refused and the tally stays
abbrev pub taken_one : Outcome → Recording → Outcome
taken_one o r =
    option_map_or (λ f. record o { refused = o.refused + 1; first = or_first o.first (o.recorded + o.refused, f) }) (fault_at o.tally r)
    (record o { tally = after_at o.tally r; recorded = o.recorded + 1 })

abbrev pub nothing_taken : Tallied → Outcome
nothing_taken t = record { tally = t; recorded = 0; refused = 0; first = None }

-- what a log comes to: its recordings, one after the other
abbrev pub taken_in : Tallied → List Recording → Outcome
taken_in t rs = fold taken_one (nothing_taken t) rs

-- two answers as one: what comes second is counted on behind the first, and so are its places
abbrev pub then_taken : Outcome → Outcome → Outcome
then_taken o p = record {
  tally = p.tally;
  recorded = o.recorded + p.recorded;
  refused = o.refused + p.refused;
  first = option_map_or Some o.first (option_map (λ f. (o.recorded + o.refused + f.0, f.1)) p.first);
}

-- a log that is taken in by pieces is taken in as at once
abbrev pub PiecesAreTheWhole : Type 0
PiecesAreTheWhole = (t : Tallied) (rs qs : List Recording) → taken_in t (rs ++ qs) ≡ then_taken (taken_in t rs) (taken_in (taken_in t rs).tally qs)
