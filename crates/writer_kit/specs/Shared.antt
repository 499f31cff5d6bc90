-- The history of a shared writer, and what it makes of the writer.
use Rattle.std.specs.Prelude.{◌≡◌, ◌≢◌, ℕ, false, cond, is_none, List, [], ◌∷◌, ◌++◌, Option, Some, None, slice_get}
use Rattle.agg_kit.specs.Entries.{Entry, entry_of}
use Rattle.agg_kit.specs.Measuring.{after_held, after_measure}
use Rattle.agg_kit.specs.Rounds.{StandsFor}
use Rattle.agg_kit.specs.Tallies.{Tallied}
use Rattle.attr_kit.specs.declared.attr_set.AttrSet.{AttrSet}
use Rattle.recorder_kit.specs.Log.{Recording, ByName, ByNumber, TakesNoMemory, taken_in}
use Rattle.round_kit.specs.Rounds.{points_of}
use Rattle.round_kit.specs.Rounds as rounds
use Rattle.turn_kit.specs.declared.seat.Seat.{Seat}
use Rattle.turn_kit.specs.Public.{IsOf, IsSameTurn, Enters, Looks, Exhausts, Refuses, opening, limit_of, seen, number}
use Rattle.schedule_kit.specs.Schedule.{Act, Collection, collections}
use Rattle.writer_kit.specs.Following.{Follows, measured_after, round_of}
use Rattle.writer_kit.specs.Recorded.{entries_at, recorded_of}
use Rattle.writer_kit.specs.Recording.{after_hold, after_record, after_take_in, with_held}
use Rattle.writer_kit.specs.Refusals.{collect_fault, early_fault, fault_now, hold_fault, no_memory}
use Rattle.writer_kit.specs.Written.{Written}
use Rattle.writer_kit.specs.declared.fault.CollectFault.{CollectFault}
use Rattle.writer_kit.specs.declared.fault.CollectFault.TheVariants as collect
use Rattle.writer_kit.specs.declared.fault.MeasureFault.{MeasureFault}
use Rattle.writer_kit.specs.declared.shared.writer.SharedWriter.{SharedWriter}
use Rattle.writer_kit.specs.declared.shared.change.WriterChange.{WriterChange}
use Rattle.writer_kit.specs.declared.shared.change.WriterChange.TheVariants.{Measured, MeasuredHeld, Held, Collected, TakenIn}

-- accepted changes, each with the number of the seat that made it, in their order
abbrev pub History : Type 0
History = List (ℕ × WriterChange)

-- a writer after a change, as one thread makes it; none where the change is not accepted
abbrev pub after_writer_change : Written → WriterChange → Option Written
after_writer_change w (Measured i a v) = cond (is_none (fault_now w (ByName (entry_of i a v)))) (Some (after_record w (ByName (entry_of i a v)))) None
after_writer_change w (MeasuredHeld n v) = cond (is_none (fault_now w (ByNumber n v))) (Some (after_record w (ByNumber n v))) None
after_writer_change w (Held i a) = cond (is_none (hold_fault w i)) (Some (after_hold w i a)) None
after_writer_change w (Collected time) = cond (is_none (collect_fault w time)) (Some (record w { last = time })) None
after_writer_change w (TakenIn rs) = cond w.closed None (Some (after_take_in w rs))

-- what a change recorded of a writer with this tally: of a log those of its recordings that were not refused
abbrev pub recorded_by : Tallied → WriterChange → List Entry
recorded_by t (Measured i a v) = entry_of i a v ∷ []
recorded_by t (MeasuredHeld n v) = entries_at t (ByNumber n v)
recorded_by t (Held i a) = []
recorded_by t (Collected time) = []
recorded_by t (TakenIn rs) = recorded_of t rs

-- and its tally after the change
abbrev pub tally_after : Tallied → WriterChange → Tallied
tally_after t (Measured i a v) = after_measure t (entry_of i a v)
tally_after t (MeasuredHeld n v) = after_held t n v
tally_after t (Held i a) = with_held t i a
tally_after t (Collected time) = t
tally_after t (TakenIn rs) = (taken_in t rs).tally

-- what a history recorded, in its order, where it began with this tally
abbrev pub entries_of : Tallied → History → List Entry
entries_of t [] = []
entries_of t (x ∷ xs) = recorded_by t x.1 ++ entries_of (tally_after t x.1) xs

-- what it held
abbrev pub held_by : WriterChange → List (ℕ × AttrSet)
held_by (Measured i a v) = []
held_by (MeasuredHeld n v) = []
held_by (Held i a) = (i, a) ∷ []
held_by (Collected time) = []
held_by (TakenIn rs) = []

abbrev pub held_in : History → List (ℕ × AttrSet)
held_in [] = []
held_in (x ∷ xs) = held_by x.1 ++ held_in xs

-- a number stands for an instrument and a set, by what the first writer held and what the history holds
abbrev pub StandsIn : Written → History → ℕ → ℕ → AttrSet → Type 0
StandsIn first h n i a = slice_get (first.tally.held ++ held_in h) n ≡ Some (i, a)

-- a change as events of a writer's schedule, behind earlier ones, the newest first
abbrev pub then_acts : Tallied → List (Act Entry) → WriterChange → List (Act Entry)
then_acts t earlier (Measured i a v) = Act.Measured (entry_of i a v) ∷ earlier
then_acts t earlier (MeasuredHeld n v) = measured_after earlier (entries_at t (ByNumber n v))
then_acts t earlier (Held i a) = earlier
then_acts t earlier (Collected time) = Act.Collected time false ∷ earlier
then_acts t earlier (TakenIn rs) = measured_after earlier (recorded_of t rs)

-- the events of a history behind earlier ones, the newest first
abbrev pub acts_after : Tallied → List (Act Entry) → History → List (Act Entry)
acts_after t earlier [] = earlier
acts_after t earlier (x ∷ xs) = acts_after (tally_after t x.1) (then_acts t earlier x.1) xs

-- What a history makes of the first writer: one of the same identity, plan and start. It holds what that one held, followed by what was held, so each
-- number stands for what it stood for. It stands for what that one stood for, followed by the recorded entries. These and the collections are accepted
-- events of one writer's schedule.
pub record Serves (first : Written) (h : History) (w : Written) : Type 0 where
  pub same_id : w.id ≡ first.id
  pub same_plan : w.tally.plan ≡ first.tally.plan
  pub same_start : w.start ≡ first.start
  pub held : w.tally.held ≡ first.tally.held ++ held_in h
  pub stands : (es : List Entry) → StandsFor first.tally es → StandsFor w.tally (es ++ entries_of first.tally h)
  pub follows : (start : ℕ) (earlier : List (Act Entry)) → Follows start earlier first → Follows start (acts_after first.tally earlier h) w

-- the seat is at this shared writer
abbrev pub IsAt : {G : Type 0} {g : _} → SharedWriter G → Seat Written WriterChange g → Type 0
IsAt shared s = IsOf shared.turn s

-- the shared writers are one, however the turn of each is given back: the seats and notes of one are the other's
abbrev pub IsSameShared : {G H : Type 0} → SharedWriter G → SharedWriter H → Type 0
IsSameShared shared other = IsSameTurn shared.turn other.turn

-- the writer that was shared
abbrev pub first_of : {G : Type 0} → SharedWriter G → Written
first_of shared = opening shared.turn

-- the most changes that are accepted
abbrev pub most_of : {G : Type 0} → SharedWriter G → ℕ
most_of shared = limit_of shared.turn

-- a round has the points of the writer as of a time
pub record IsRound (w : Written) (time : ℕ) (r : rounds.Collected) : Type 0 where
  pub starts : r.start ≡ w.start
  pub taken_at : r.time ≡ time
  pub points : r.points ≡ points_of w.tally.plan.streams w.tally.series

-- A writer may refuse a recording with this: for the first cause that fits, or for want of memory where none fits that is looked for before memory is
-- wanted. Points that are there take no memory where no feed copies what it keeps.
pub record MayRefuse (w : Written) (r : Recording) (f : MeasureFault) : Type 0 where
  pub told : f ≢ no_memory → fault_now w r ≡ Some f
  pub short : f ≡ no_memory → early_fault w r ≡ None
  pub held : TakesNoMemory w.tally r → f ≢ no_memory

-- A writer may refuse to hold with this: for the first cause that fits, or for want of memory where none does.
pub record MayRefuseHold (w : Written) (i : ℕ) (f : MeasureFault) : Type 0 where
  pub told : f ≢ no_memory → hold_fault w i ≡ Some f
  pub short : f ≡ no_memory → hold_fault w i ≡ None

-- A writer may refuse a collection with this: for the first cause that fits, or for want of memory where none does.
pub record MayRefuseRound (w : Written) (time : ℕ) (f : CollectFault) : Type 0 where
  pub told : f ≢ collect.NoMemory → collect_fault w time ≡ Some f
  pub no_memory : f ≡ collect.NoMemory → collect_fault w time ≡ None

module _ {G : Type 0} {g : _} (shared : SharedWriter G) where
  -- the seat's change was accepted, with this reply
  abbrev pub Accepts : WriterChange → (Written → Type 0) → Seat Written WriterChange g → Seat Written WriterChange g → Type 0
  Accepts c replied s t = Enters (λ w. w) after_writer_change (first_of shared) (most_of shared) c replied s t

  -- so the history goes on with it, and what the writer was before it and is after it is what the history makes of the first one
  pub record Adds (c : WriterChange) (s t : Seat Written WriterChange g) : Type 0 where
    pub before : History
    pub ends : seen t ≡ before ++ (number s, c) ∷ []
    pub old : Written
    pub new : Written
    pub served : Serves (first_of shared) before old
    pub serves : Serves (first_of shared) (seen t) new

  -- The round is that of what the first writer stood for, followed by the recorded entries that are now seen.
  abbrev pub HasAllMeasured : ℕ → rounds.Collected → Seat Written WriterChange g → Type 0
  HasAllMeasured time r t = (es : List Entry) → StandsFor (first_of shared).tally es
      → r ≡ round_of (first_of shared).tally.plan (record { start = (first_of shared).start; time = time; entries = es ++ entries_of (first_of shared).tally (seen t) })

  -- The round is the newest of the collections of one writer's schedule: of a first writer that was just started the k-th collection of the history is the
  -- k-th of the schedule.
  abbrev pub IsNewest : rounds.Collected → Seat Written WriterChange g → Type 0
  IsNewest r t = (start : ℕ) (earlier : List (Act Entry)) → Follows start earlier (first_of shared)
      → (c : Collection Entry) × (before : List (Collection Entry)) × (collections start (acts_after (first_of shared).tally earlier (seen t)) ≡ c ∷ before) × (r ≡ round_of (first_of shared).tally.plan c)

  -- the number stands for the instrument and the set, by what the first writer held and what is now seen
  abbrev pub StandsForSet : ℕ → ℕ → AttrSet → Seat Written WriterChange g → Type 0
  StandsForSet n i a t = StandsIn (first_of shared) (seen t) n i a

  abbrev pub LooksAt : (Written → Type 0) → Seat Written WriterChange g → Seat Written WriterChange g → Type 0
  LooksAt answered s t = Looks (λ w. w) after_writer_change (first_of shared) answered s t

  -- the look was taken at what all that is now seen makes of the first writer
  pub record Sees (answered : Written → Type 0) (t : Seat Written WriterChange g) : Type 0 where
    pub found : Written
    pub serves : Serves (first_of shared) (seen t) found
    pub answer : answered found

  -- the history has as many changes as it may
  abbrev pub IsExhausted : Seat Written WriterChange g → Seat Written WriterChange g → Type 0
  IsExhausted s t = Exhausts (λ w. w) after_writer_change (first_of shared) (most_of shared) s t

  -- the writer refused, though the history had room
  abbrev pub IsRefused : (Written → Type 0) → Seat Written WriterChange g → Seat Written WriterChange g → Type 0
  IsRefused refused s t = Refuses (λ w. w) after_writer_change (first_of shared) (most_of shared) refused s t
