-- What a push hands to the exporter, and when it does.
use Rattle.std.specs.Prelude.{ℕ, ◌≡◌, ◌≢◌, Result, IfOk, IfErr, OnOk}
use Rattle.point_kit.specs.declared.export.Export.{Export}
use Rattle.push_kit.specs.declared.fault.TickFault.{TickFault}
use Rattle.push_kit.specs.declared.fault.TickFault.TheVariants as faults
use Rattle.push_kit.specs.declared.periodic.Tick.{Tick}
use Rattle.push_kit.specs.declared.periodic.Tick.TheVariants as ticks
use Rattle.round_kit.specs.Rounds.{points_of}
use Rattle.writer_kit.specs.Written.{Written}

-- an export is the collection of a writer at a time: all that it recorded since its start
pub record IsCollection (w : Written) (time : ℕ) (e : Export) : Type 0 where
  pub writer : e.writer ≡ w.id
  pub start : e.start ≡ w.start
  pub taken_at : e.time ≡ time
  pub points : e.points ≡ points_of w.tally.plan.streams w.tally.series

-- the exporter was handed that collection, which went as this relation of an exporter says: it was taken, or refused
abbrev pub Hands : {X : Type 0} → (X → Export → X → Type 0) → Written → ℕ → X → X → Type 0
Hands went w time x y = (e : Export) × IsCollection w time e × went x e y

-- a tick called the exporter, which took the export or refused it
abbrev pub OnPush : Result Tick TickFault → Type 0 → Type 0
OnPush r P = IfOk r (λ t. t ≢ ticks.NotDue → P) × IfErr r (λ f. f ≡ faults.ExportRefused → P)

-- a flush called the exporter, which took the export or refused it
abbrev pub OnFlush : Result ℕ TickFault → Type 0 → Type 0
OnFlush r P = OnOk r P × IfErr r (λ f. f ≡ faults.ExportRefused → P)

-- a tick called no exporter: nothing was due, or it was refused before
abbrev pub OnRest : Result Tick TickFault → Type 0 → Type 0
OnRest r P = IfOk r (λ t. t ≡ ticks.NotDue → P) × IfErr r (λ f. f ≢ faults.ExportRefused → P)

-- the exporter refused
abbrev pub OnRefused : {A : Type 0} → Result A TickFault → Type 0 → Type 0
OnRefused r P = IfErr r (λ f. f ≡ faults.ExportRefused → P)
