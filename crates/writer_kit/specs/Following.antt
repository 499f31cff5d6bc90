-- What a writer is after events that it accepted.
use Rattle.std.specs.Prelude.{◌≡◌, ℕ, Bool, not, is_none, List, [], ◌∷◌}
use Rattle.agg_kit.specs.Entries.{Entry}
use Rattle.agg_kit.specs.Refusals.{first_refusal}
use Rattle.agg_kit.specs.Rounds.{StandsFor, round}
use Rattle.plan_kit.specs.Plans.{Planned}
use Rattle.round_kit.specs.Rounds.{points_of}
use Rattle.round_kit.specs.Rounds as rounds
use Rattle.schedule_kit.specs.Schedule.{Act, Collection, start_of, last_of, is_open, running, AreAccepted}
use Rattle.writer_kit.specs.Written.{Written}

-- whether a recording is accepted after those that an incarnation has
abbrev pub fits : Planned → List Entry → Entry → Bool
fits plan h e = is_none (first_refusal plan h e)

-- A writer that began at `first` has accepted these events, the newest first. Its times and whether it is open are read off them, and its points are the
-- round of what was recorded since its start.
pub record Follows (first : ℕ) (acts : List (Act Entry)) (w : Written) : Type 0 where
  pub accepted : AreAccepted (fits w.tally.plan) first acts
  pub start : w.start ≡ start_of first acts
  pub last : w.last ≡ last_of first acts
  pub opened : not w.closed ≡ is_open acts
  pub points : StandsFor w.tally (running first acts)

-- the round of a collection under a plan
abbrev pub round_of : Planned → Collection Entry → rounds.Collected
round_of plan c = record { start = c.start; time = c.time; points = points_of plan.streams (round plan c.entries) }

-- recordings as events behind earlier ones, the newest first
abbrev pub measured_after : List (Act Entry) → List Entry → List (Act Entry)
measured_after acts [] = acts
measured_after acts (e ∷ es) = measured_after (Act.Measured e ∷ acts) es
