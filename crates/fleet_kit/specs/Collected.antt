-- The export of a fleet's writer.
use Rattle.std.specs.Prelude.{◌≡◌, ℕ, List}
use Rattle.agg_kit.specs.Entries.{Entry}
use Rattle.agg_kit.specs.Rounds.{round}
use Rattle.point_kit.specs.declared.export.Export.{Export}
use Rattle.round_kit.specs.Rounds.{points_of}
use Rattle.writer_kit.specs.Written.{Written}
use Rattle.schedule_kit.specs.Mixed.{AreMixed}

-- an export has a writer's points as of a time
pub record IsCopyOf (w : Written) (time : ℕ) (e : Export) : Type 0 where
  pub writer : e.writer ≡ w.id
  pub start : e.start ≡ w.start
  pub taken_at : e.time ≡ time
  pub points : e.points ≡ points_of w.tally.plan.streams w.tally.series

-- it has the round of these entries, of a writer that began as `first`
pub record IsRoundOf (first : Written) (time : ℕ) (es : List Entry) (e : Export) : Type 0 where
  pub writer : e.writer ≡ first.id
  pub start : e.start ≡ first.start
  pub taken_at : e.time ≡ time
  pub points : e.points ≡ points_of first.tally.plan.streams (round first.tally.plan es)

-- it has the round of these entries in some order
abbrev pub IsRoundOfMixed : Written → ℕ → List Entry → Export → Type 0
IsRoundOfMixed first time es e = (history : List Entry) × AreMixed history es × IsRoundOf first time history e
