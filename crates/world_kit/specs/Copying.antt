-- What a look at a writer's points comes to.
use Rattle.std.specs.Prelude.{◌≡◌, ℕ, None, Some, Result, Ok, Err}
use Rattle.point_kit.specs.declared.export.Export.{Export}
use Rattle.round_kit.specs.Rounds.{points_of}
use Rattle.world_kit.specs.declared.event.Refusal.{Refusal}
use Rattle.world_kit.specs.Told.{collect_refusal}
use Rattle.writer_kit.specs.declared.fault.CollectFault.{CollectFault}
use Rattle.writer_kit.specs.Refusals.{collect_fault}
use Rattle.writer_kit.specs.Written.{Written}

-- an export has what a writer holds at a time
pub record Copies (w : Written) (time : ℕ) (e : Export) : Type 0 where
  pub accepted : collect_fault w time ≡ None
  pub writer : e.writer ≡ w.id
  pub start : e.start ≡ w.start
  pub taken_at : e.time ≡ time
  pub points : e.points ≡ points_of w.tally.plan.streams w.tally.series

-- the writer refuses
pub record Refuses (w : Written) (time : ℕ) (r : Refusal) : Type 0 where
  pub fault : CollectFault
  pub refused : collect_fault w time ≡ Some fault
  pub told : collect_refusal fault ≡ Some r

-- an export of what a writer holds at a time, or its refusal
abbrev pub IsCopy : Written → ℕ → Result Export Refusal → Type 0
IsCopy w time (Ok e) = Copies w time e
IsCopy w time (Err r) = Refuses w time r
