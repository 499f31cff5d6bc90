-- Writers that threads share: what each call says to the history that all of them make.
use Rattle.std.specs.Prelude.{◌≡◌, ◌^◌, ℕ, ℤ, pos, true, [], ◌∷◌, ◌++◌, length, Option, Some, None}
use Rattle.std.specs.Arc.{arc_value}
use Rattle.std.specs.Option.{unwrap_or}
use Rattle.attr_kit.specs.declared.attr_set.AttrSet.{AttrSet}
use Rattle.point_kit.specs.declared.export.Export.{Export}
use Rattle.recorder_kit.specs.Log.{Logged, Recording}
use Rattle.recorder_kit.specs.declared.taken.Taken.{Taken}
use Rattle.turn_kit.specs.Public.{IsFirst, IsFull, IsLeft, Splits}
use Rattle.writer_kit.specs.Shared.{Accepts, Adds, IsExhausted, IsRefused, MayRefuse, MayRefuseHold, MayRefuseRound, StandsForSet, first_of, most_of}
use Rattle.writer_kit.specs.Taking.{IsTaken, gone}
use Rattle.writer_kit.specs.Written.{Written}
use Rattle.writer_kit.specs.declared.fault.MeasureFault.TheVariants as measure
use Rattle.writer_kit.specs.declared.shared.change.WriterChange.{WriterChange}
use Rattle.writer_kit.specs.declared.shared.change.WriterChange.TheVariants.{Measured, MeasuredHeld, Held, Collected, TakenIn}
use Rattle.kit_c.specs.Codes.{code_of}
use Rattle.kit_c.specs.Pairs.{AreAll, number_in}
use Rattle.kit_c.specs.Places.{place_of}
use Rattle.kit_c.specs.Takings.{told_of}
use Rattle.kit_c.specs.Writers.{HasExport, by_set}
use Rattle.kit_c.specs.declared.desk.Desk.{Desk}
use Rattle.kit_c.specs.declared.fault.Fault.{Fault}
use Rattle.kit_c.specs.declared.fault.Fault.TheVariants as faults
use Rattle.kit_c.specs.declared.taken.KitTaken.{KitTaken}

-- a place at a writer is the first one, and knows the numbers of all that the writer held
pub record IsFirstPlace (w : Written) (d : Desk) : Type 0 where
  pub first : first_of (arc_value d.writer) ≡ w
  pub most : most_of (arc_value d.writer) ≡ 2 ^ 62
  pub seat : IsFirst d.seat
  pub known : AreAll w.tally.held d.numbers.entries

abbrev pub HasShared : Option Written → Option Desk → Type 0
HasShared (Some w) (Some d) = IsFirstPlace w d
HasShared m n = ⊥

-- a place is at the writer that it was at, and knows the numbers that it knew
abbrev pub Stays : Desk → Desk → Type 0
Stays d e = (e.writer ≡ d.writer) × (e.numbers.entries ≡ d.numbers.entries)

-- another place at the writer of the first, which is then the second
abbrev pub IsSplit : Desk → Desk → Desk → Type 0
IsSplit d e new =
    Stays d e × (arc_value new.writer ≡ arc_value d.writer) × (new.numbers.entries ≡ d.numbers.entries) × Splits d.seat e.seat new.seat

abbrev pub HasSplit : Option Desk → Option Desk → Option Desk → Type 0
HasSplit (Some d) (Some e) (Some new) = IsSplit d e new
HasSplit m n o = ⊥

-- a change was accepted at a place
abbrev pub IsEntered : WriterChange → Desk → Desk → Type 0
IsEntered c d e = Stays d e × Accepts (arc_value d.writer) c (λ w. Unit {0}) d.seat e.seat × Adds (arc_value d.writer) c d.seat e.seat

abbrev pub HasMeasured : ℕ → ℤ → Option Desk → Option AttrSet → Option Desk → Type 0
HasMeasured i x (Some d) (Some a) (Some e) = IsEntered (Measured i a x) d e
HasMeasured i x m other n = ⊥

-- the same at the pair of a number
abbrev pub HasMeasuredAt : ℕ → ℤ → Option Desk → Option Desk → Type 0
HasMeasuredAt n x (Some d) (Some e) = IsEntered (MeasuredHeld n x) d e
HasMeasuredAt n x m o = ⊥

-- why a recording is refused at a place: another call has the writer, so many changes were accepted, or what the writer says
abbrev pub WhyNot : Recording → Desk → Desk → Fault → Type 0
WhyNot r d e faults.Busy = IsLeft d.seat e.seat
WhyNot r d e faults.Exhausted = IsExhausted (arc_value d.writer) d.seat e.seat
WhyNot r d e (faults.Measure f) = IsRefused (arc_value d.writer) (λ w. MayRefuse w r f) d.seat e.seat
WhyNot r d e other = ⊥

abbrev pub RecordingRefused : Recording → Desk → Desk → Fault → Type 0
RecordingRefused r d e f = Stays d e × WhyNot r d e f

abbrev pub MeasureRefused : ℕ → ℤ → Desk → AttrSet → Desk → Fault → Type 0
MeasureRefused i x d a e f = RecordingRefused (by_set i x a) d e f

-- A pair is held at a place, under this number. One that the place knows has the number that is noted, and nothing changes; another is held anew, and its number
-- noted.
pub record IsHeldAnew (i n : ℕ) (a : AttrSet) (d e : Desk) : Type 0 where
  pub writer : e.writer ≡ d.writer
  pub accepted : Accepts (arc_value d.writer) (Held i a) (λ w. n ≡ length w.tally.held) d.seat e.seat
  pub added : Adds (arc_value d.writer) (Held i a) d.seat e.seat
  pub noted : e.numbers.entries ≡ d.numbers.entries ++ (record { instrument = i; attrs = a }, n) ∷ []

abbrev pub IsHeldBy : Option ℕ → ℕ → ℕ → AttrSet → Desk → Desk → Type 0
IsHeldBy (Some m) i n a d e = (n ≡ m) × (e ≡ d)
IsHeldBy None i n a d e = IsHeldAnew i n a d e

-- either way it stands for the pair there
abbrev pub HasHeld : ℕ → ℕ → Option Desk → Option AttrSet → Option Desk → Type 0
HasHeld i n (Some d) (Some a) (Some e) =
    StandsForSet (arc_value e.writer) n i a e.seat × IsHeldBy (number_in d.numbers.entries i a) i n a d e
HasHeld i n m other o = ⊥

-- why a pair is not held at a place: of one that it knows, never
abbrev pub WhyNotHeld : ℕ → Desk → Desk → Fault → Type 0
WhyNotHeld i d e faults.NoMemory = e.seat ≡ d.seat
WhyNotHeld i d e faults.Busy = IsLeft d.seat e.seat
WhyNotHeld i d e faults.Exhausted = IsExhausted (arc_value d.writer) d.seat e.seat
WhyNotHeld i d e (faults.Measure f) = IsRefused (arc_value d.writer) (λ w. MayRefuseHold w i f) d.seat e.seat
WhyNotHeld i d e other = ⊥

abbrev pub HoldRefused : ℕ → Desk → AttrSet → Desk → Fault → Type 0
HoldRefused i d a e f = Stays d e × (number_in d.numbers.entries i a ≡ None) × WhyNotHeld i d e f

-- at most so many recordings of a log were taken in at a place, by one change, which carries those that are gone from the log
abbrev pub IsTakenInAt : ℕ → Desk → Logged → Desk → Logged → Taken → Type 0
IsTakenInAt most d r e s k =
    Stays d e × Adds (arc_value d.writer) (TakenIn (gone r s)) d.seat e.seat
    × Accepts (arc_value d.writer) (TakenIn (gone r s)) (λ w. IsTaken w r s most k) d.seat e.seat

abbrev pub HasTakenInAt : ℕ → Option Desk → Option Logged → Option Desk → Option Logged → KitTaken → Type 0
HasTakenInAt most (Some d) (Some r) (Some e) (Some s) told = (k : Taken) × (told ≡ told_of k) × IsTakenInAt most d r e s k
HasTakenInAt most m n o p told = ⊥

-- why a log is not taken in at a place
abbrev pub WhyNotTaken : Desk → Desk → Fault → Type 0
WhyNotTaken d e faults.Busy = IsLeft d.seat e.seat
WhyNotTaken d e faults.Exhausted = IsExhausted (arc_value d.writer) d.seat e.seat
WhyNotTaken d e (faults.Measure f) = (f ≡ measure.Closed) × IsRefused (arc_value d.writer) (λ w. w.closed ≡ true) d.seat e.seat
WhyNotTaken d e other = ⊥

abbrev pub TakeInRefused : Desk → Logged → Desk → Fault → Type 0
TakeInRefused d r e f = Stays d e × WhyNotTaken d e f

-- why a place is refused at another: another call has the writer, so many places were made, or there is no memory
abbrev pub WhyNoSplit : Desk → Desk → Fault → Type 0
WhyNoSplit d e faults.Busy = IsLeft d.seat e.seat
WhyNoSplit d e faults.SeatsFull = IsFull d.seat e.seat
WhyNoSplit d e faults.NoMemory = e.seat ≡ d.seat
WhyNoSplit d e other = ⊥

abbrev pub SplitRefused : Desk → Desk → Fault → Type 0
SplitRefused d e f = Stays d e × WhyNoSplit d e f

-- a collection was accepted at a place, and a handle has its export
abbrev pub HasCollectedAt : ℕ → Option Desk → Option Desk → Option Export → Type 0
HasCollectedAt time (Some d) (Some e) made =
    Stays d e × Accepts (arc_value d.writer) (Collected time) (λ w. HasExport w time made) d.seat e.seat
HasCollectedAt time m n made = ⊥

-- why a collection is refused at a place
abbrev pub WhyNoExport : ℕ → Desk → Desk → Fault → Type 0
WhyNoExport time d e faults.Busy = IsLeft d.seat e.seat
WhyNoExport time d e faults.Exhausted = IsExhausted (arc_value d.writer) d.seat e.seat
WhyNoExport time d e (faults.Collect f) = IsRefused (arc_value d.writer) (λ w. MayRefuseRound w time f) d.seat e.seat
WhyNoExport time d e other = ⊥

abbrev pub CollectRefused : ℕ → Desk → Desk → Fault → Type 0
CollectRefused time d e f = Stays d e × WhyNoExport time d e f

-- how a call of one handle is refused: it had nothing, or it was refused for a cause whose code is answered and whose place is told
abbrev pub OneRefused : (Desk → Desk → Fault → Type 0) → Option Desk → Option Desk → ℕ → ℕ → ℤ → Type 0
OneRefused why None after before told code = (after ≡ None) × (told ≡ before) × (code ≡ pos 2)
OneRefused why (Some d) (Some e) before told code = (f : Fault) × (code ≡ code_of f) × (told ≡ unwrap_or (place_of f) before) × why d e f
OneRefused why (Some d) None before told code = ⊥

-- the same of a call that tells no place
abbrev pub PlainRefused : (Desk → Desk → Fault → Type 0) → Option Desk → Option Desk → ℤ → Type 0
PlainRefused why None after code = (after ≡ None) × (code ≡ pos 2)
PlainRefused why (Some d) (Some e) code = (f : Fault) × (code ≡ code_of f) × why d e f
PlainRefused why (Some d) None code = ⊥

-- the same of a call of two
abbrev pub TwoRefused : {X : Type 0} → (Desk → X → Desk → Fault → Type 0) → Option Desk → Option X → Option Desk → ℕ → ℕ → ℤ → Type 0
TwoRefused why (Some d) (Some x) (Some e) before told code =
    (f : Fault) × (code ≡ code_of f) × (told ≡ unwrap_or (place_of f) before) × why d x e f
TwoRefused why (Some d) (Some x) None before told code = ⊥
TwoRefused why m other after before told code = (after ≡ m) × (told ≡ before) × (code ≡ pos 2)

-- the same of a call of two that tells no place
abbrev pub PlainTwoRefused : {X : Type 0} → (Desk → X → Desk → Fault → Type 0) → Option Desk → Option X → Option Desk → ℤ → Type 0
PlainTwoRefused why (Some d) (Some x) (Some e) code = (f : Fault) × (code ≡ code_of f) × why d x e f
PlainTwoRefused why (Some d) (Some x) None code = ⊥
PlainTwoRefused why m other after code = (after ≡ m) × (code ≡ pos 2)
