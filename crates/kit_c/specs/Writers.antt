-- What calls make of writers, and why they are refused.
use Rattle.std.specs.Prelude.{◌≡◌, ◌≢◌, ◌+◌, ◌*◌, ◌^◌, ℕ, ℤ, List, [], ◌∷◌, Option, Some, None}
use Rattle.std.specs.Int.{to_be_bytes, w128}
use Rattle.std.specs.Option.{option_map}
use Rattle.agg_kit.specs.Entries.{entry_of}
use Rattle.attr_kit.specs.Refusing.{first}
use Rattle.attr_kit.specs.declared.attr_set.AttrSet.{AttrSet}
use Rattle.plan_kit.specs.Plans.{Planned}
use Rattle.point_kit.specs.declared.export.Export.{Export}
use Rattle.point_kit.specs.declared.writer_id.WriterId.{WriterId}
use Rattle.recorder_kit.specs.Log.{ByName, ByNumber, Recording, TakesNoMemory}
use Rattle.round_kit.specs.Rounds.{points_of}
use Rattle.writer_kit.specs.Following.{Follows}
use Rattle.writer_kit.specs.Refusals.{collect_fault, early_fault, fault_now, restart_fault}
use Rattle.writer_kit.specs.Written.{Written}
use Rattle.kit_c.specs.Calls.{full_fault, of_one}
use Rattle.kit_c.specs.Holding as holding
use Rattle.kit_c.specs.declared.fault.Fault.{Fault}
use Rattle.kit_c.specs.declared.fault.Fault.TheVariants as faults

-- an instance as the bytes of two numbers, the high one first
abbrev pub instance_of : ℕ → ℕ → List ℕ
instance_of high low = to_be_bytes w128 (high * 2 ^ 64 + low)

-- a writer of an identity counts from a start on under a plan, has recorded nothing and holds nothing
pub record Starts (id : WriterId) (start : ℕ) (p : Planned) (w : Written) : Type 0 where
  pub who : w.id ≡ id
  pub plan : w.tally.plan ≡ p
  pub held : w.tally.held ≡ []
  pub follows : Follows start [] w

abbrev pub HasStarted : WriterId → ℕ → Option Planned → Option Written → Type 0
HasStarted id start (Some p) (Some w) = Starts id start p w
HasStarted id start m n = ⊥

-- a recording, why it is refused, and what of that is looked for before memory is wanted
abbrev pub recording_fault : Recording → Written → Option Fault
recording_fault r w = option_map (λ f. faults.Measure f) (fault_now w r)

abbrev pub early_recording_fault : Recording → Written → Option Fault
early_recording_fault r w = option_map (λ f. faults.Measure f) (early_fault w r)

-- the recording of the value x, by the instrument i, at the attributes a
abbrev pub by_set : ℕ → ℤ → AttrSet → Recording
by_set i x a = ByName (entry_of i a x)

-- its points are there, so that it takes no memory
abbrev pub HasPoints : ℕ → ℤ → Option Written → Option AttrSet → Type 0
HasPoints i x (Some w) (Some a) = TakesNoMemory w.tally (by_set i x a)
HasPoints i x m n = ⊥

-- the same at the pair of a number
abbrev pub HasNumberedPoints : ℕ → ℤ → Option Written → Type 0
HasNumberedPoints n x (Some w) = TakesNoMemory w.tally (ByNumber n x)
HasNumberedPoints n x None = ⊥

-- why an instrument and a set are not held
abbrev pub holding_fault : ℕ → Written → AttrSet → Option Fault
holding_fault i w a = option_map (λ f. faults.Measure f) (holding.holding_fault w i a)

-- the pair is held already
abbrev pub IsPairHeld : ℕ → Option Written → Option AttrSet → Type 0
IsPairHeld i (Some w) (Some a) = holding.number_at w i a ≢ None
IsPairHeld i m n = ⊥

-- why a collection at a time is refused, into a handle that is to be filled
abbrev pub collecting_fault : ℕ → Option Written → Option Export → Option Fault
collecting_fault time writer export = first (full_fault export
    ∷ of_one writer (λ w. option_map (λ f. faults.Collect f) (collect_fault w time)) ∷ [])

-- an export is of a writer's points at a time
pub record Exports (w : Written) (time : ℕ) (e : Export) : Type 0 where
  pub same_writer : e.writer ≡ w.id
  pub starts : e.start ≡ w.start
  pub taken_at : e.time ≡ time
  pub points : e.points ≡ points_of w.tally.plan.streams w.tally.series

-- a handle has it
abbrev pub HasExport : Written → ℕ → Option Export → Type 0
HasExport w time (Some e) = Exports w time e
HasExport w time None = ⊥

abbrev pub HasCollected : ℕ → Option Written → Option Export → Type 0
HasCollected time (Some w) made = HasExport w time made
HasCollected time None made = ⊥

-- why a restart is refused
abbrev pub restarting_fault : ℕ → Written → Option Fault
restarting_fault start w = option_map (λ f. faults.Restart f) (restart_fault w start)
