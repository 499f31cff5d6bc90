-- Writers whose jobs were recorded in whatever order, and gateways that took one collection of each.
use Rattle.std.specs.Prelude.{◌≡◌, ◌⊎◌, ◌<◌, ◌+◌, ◌==◌, ℕ, List, [], ◌∷◌, map, cond, length, slice_get, slice_index, Some, None}
use Rattle.std.specs.List.{flat_map}
use Rattle.std.specs.FinMap.{FinMap, get}
use Rattle.agg_kit.specs.Entries.{Entry}
use Rattle.agg_kit.specs.Rounds.{round}
use Rattle.point_kit.specs.Exports as points
use Rattle.point_kit.specs.Orders.{key_cmp}
use Rattle.point_kit.specs.declared.cell.Cell.{Cell}
use Rattle.point_kit.specs.declared.export.Export.{Export}
use Rattle.point_kit.specs.declared.export_point.ExportPoint.{ExportPoint}
use Rattle.point_kit.specs.declared.key.Key.{Key}
use Rattle.point_kit.specs.declared.payload.Payload.{Payload}
use Rattle.round_kit.specs.Rounds.{points_of}
use Rattle.schedule_kit.specs.Deeds.{Made}
use Rattle.schedule_kit.specs.Members.{In}
use Rattle.schedule_kit.specs.Mixed.{AreMixed}
use Rattle.schedule_kit.specs.Rounds.{state}
use Rattle.rollup_kit.specs.Naming.{Name, key_at}
use Rattle.rollup_kit.specs.Rollups.{AddsUp, rollup_rows}
use Rattle.rollup_kit.specs.Writers.{Writers, rounding, rows_of, ArePlans, AreTold, AllWithin, IsRegrouped}
use Rattle.rollup_kit.specs.declared.ask.Ask.{Ask}

-- the points of a collection: the round of the entries that it covers
abbrev pub collected_points : Writers → Made Entry → List ExportPoint
collected_points s m = let plan = s.plan m.writer in points_of plan.streams (round plan m.entries)

-- an export is that of a collection: its writer, its start, its time, and the round of its entries
pub record IsExportOf (s : Writers) (m : Made Entry) (e : Export) : Type 0 where
  pub writer : e.writer ≡ s.who m.writer
  pub start : e.start ≡ m.start
  pub time : e.time ≡ m.time
  pub points : e.points ≡ collected_points s m

-- the points of a collection's export, each under its key
abbrev pub made_points : Writers → Made Entry → List (Key × (ℕ × Payload))
made_points s m = map (λ p. (record { writer = s.who m.writer; start = m.start; stream = p.stream; attrs = p.attrs }, (m.time, p.payload))) (collected_points s m)

-- a job: its writer's place and its entries
pub record Task : Type 0 where
  pub writer : ℕ
  pub entries : List Entry

-- the entries of all jobs of a writer, in job order
abbrev pub entries_of : List Task → ℕ → List Entry
entries_of jobs w = flat_map (λ j. cond (j.writer == w) j.entries []) jobs

-- the one collection of a writer whose history measured these entries
abbrev pub collection_of : Writers → ℕ → (ℕ → List Entry) → ℕ → Made Entry
collection_of s end history w = record { number = w + 1; writer = w; start = slice_index s.starts w; time = end; before = 0; entries = history w }

-- the export at each place is that of the writer there, of its jobs' entries in some order
abbrev pub AreJobs : Writers → ℕ → List Task → List Export → Type 0
AreJobs s end jobs exports = (w : ℕ) (e : Export) → slice_get exports w ≡ Some e → (h : List Entry) × AreMixed h (entries_of jobs w) × IsExportOf s (collection_of s end (λ _. h) w) e

-- the exports at these places
abbrev pub AreAt : List Export → List ℕ → List Export → Type 0
AreAt exports [] [] = Unit {0}
AreAt exports [] (e ∷ es) = ⊥
AreAt exports (w ∷ ws) [] = ⊥
AreAt exports (w ∷ ws) (e ∷ es) = (slice_get exports w ≡ Some e) × AreAt exports ws es

-- each export stands at a place that was taken, or has no points
abbrev pub AreCovered : List Export → List ℕ → Type 0
AreCovered exports took = (w : ℕ) (e : Export) → slice_get exports w ≡ Some e → In w took ⊎ (e.points ≡ [])

-- Where the writers' identities differ, a gateway that took the exports of all, but for such as have no points, answers each ask of a sum or histogram stream with
-- the rows of what the jobs recorded, in job order: where no stream of them is past the limit, and else the asks that leave out all attributes.
abbrev pub FleetRows : Type 0
FleetRows = (s : Writers) → ArePlans s → AreTold s → (end : ℕ) (jobs : List Task) (exports : List Export) → length exports ≡ length s.starts → AreJobs s end jobs exports
    → (took : List ℕ) (taken : List Export) → AreAt exports took taken → AreCovered exports took
    → (ask : Ask) → AddsUp ask.stream.shape → AllWithin s (entries_of jobs) ⊎ IsRegrouped ask → rollup_rows ask (points.state taken) ≡ rows_of s (entries_of jobs) ask

-- what a gateway holds that took the collections of these writers, in any order and with repeats
abbrev pub held_of : (s : Writers) → ℕ → (ℕ → List Entry) → List ℕ → FinMap key_cmp (Cell Payload)
held_of s end history took = state (rounding s) (map (collection_of s end history) took)

-- the gateway took the collections of writers, and of each whose history feeds a point
pub record Took (s : Writers) (history : ℕ → List Entry) (took : List ℕ) : Type 0 where
  pub writers : (w : ℕ) → In w took → w < length s.starts
  pub missing : (w : ℕ) → w < length s.starts → In w took ⊎ ((rounding s).names w (history w) ≡ [])

-- the exports are those of the collections of these writers
abbrev pub AreExports : Writers → ℕ → (ℕ → List Entry) → List ℕ → List Export → Type 0
AreExports s end history [] [] = Unit {0}
AreExports s end history [] (e ∷ es) = ⊥
AreExports s end history (w ∷ ws) [] = ⊥
AreExports s end history (w ∷ ws) (e ∷ es) = IsExportOf s (collection_of s end history w) e × AreExports s end history ws es

-- Where identities differ, a gateway has no point of a writer whose collection it did not take.
abbrev pub NotTakenIsMissing : Type 0
NotTakenIsMissing = (s : Writers) → ArePlans s → AreTold s → (end : ℕ) (history : ℕ → List Entry) (took : List ℕ) → ((w : ℕ) → In w took → w < length s.starts)
    → (w : ℕ) → w < length s.starts → (In w took → ⊥) → (x : Name) → get (held_of s end history took) (key_at (s.who w) (slice_index s.starts w) x) ≡ None
