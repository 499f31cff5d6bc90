-- What a writer's export covers, and the table that it gives.
use Rattle.std.specs.Prelude.{◌≡◌, ℕ, pos, List, [], ◌∷◌}
use Rattle.agg_kit.specs.Entries.{Entry, entry_of}
use Rattle.agg_kit.specs.Rounds.{round}
use Rattle.attr_kit.specs.declared.attr_set.AttrSet.{AttrSet}
use Rattle.plan_kit.specs.Plans.{Planned}
use Rattle.point_kit.specs.Exports.{state}
use Rattle.point_kit.specs.declared.export.Export.{Export}
use Rattle.point_kit.specs.declared.writer_id.WriterId.{WriterId}
use Rattle.rollup_kit.specs.Rollups.{rollup_rows}
use Rattle.rollup_kit.specs.TableText.{table_text}
use Rattle.rollup_kit.specs.declared.ask.Ask.{Ask}
use Rattle.round_kit.specs.Rounds.{points_of}

-- two recordings of the first instrument: the values 3 and 4 under a set
abbrev pub three_and_four : AttrSet → List Entry
three_and_four attrs = entry_of 0 attrs (pos 3) ∷ entry_of 0 attrs (pos 4) ∷ []

-- an export of a writer covers these recordings, made after the start and up to the time
pub record Covers (writer : WriterId) (plan : Planned) (start time : ℕ) (recordings : List Entry) (e : Export) : Type 0 where
  pub same_writer : e.writer ≡ writer
  pub starts : e.start ≡ start
  pub taken_at : e.time ≡ time
  pub points : e.points ≡ points_of plan.streams (round plan recordings)

-- a text is the table that answers an ask of a gateway which took one export, that covers these recordings, and nothing else
pub record IsTableOf (ask : Ask) (writer : WriterId) (plan : Planned) (start time : ℕ) (recordings : List Entry) (text : List ℕ) : Type 0 where
  pub export : Export
  pub covers : Covers writer plan start time recordings export
  pub told : text ≡ table_text (rollup_rows ask (state (export ∷ [])))
