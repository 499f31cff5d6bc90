-- The points of a round.
use Rattle.std.specs.Prelude.{◌≡◌, ℕ, List, [], ◌∷◌, ◌++◌, Some, map, slice_get}
use Rattle.agg_kit.specs.Tallies.{Points, Tallied}
use Rattle.point_kit.specs.declared.export_point.ExportPoint.{ExportPoint}
use Rattle.point_kit.specs.declared.stream.Stream.{Stream}
use Rattle.round_kit.specs.Placed.{stream_of, payload_of}
use Rattle.round_kit.specs.declared.round.RoundPoint.{RoundPoint}

-- a collection: its points cover what was recorded from the start, which is excluded, to the time
pub record Collected : Type 0 where
  pub start : ℕ
  pub time : ℕ
  pub points : List ExportPoint

-- a point in an arena, as the point of an export that it stands for
abbrev pub point_of : RoundPoint → ExportPoint
point_of p = record { stream = stream_of p.stream.now; attrs = p.attrs; payload = payload_of p.payload }

-- the points of one stream, in the order of its series
abbrev pub points_at : Stream → Points → List ExportPoint
points_at stream es = map (λ e. record { stream = stream; attrs = e.0; payload = e.1 }) es

-- the points of the stream of a number come behind those that were there
abbrev pub Appends : Tallied → ℕ → List RoundPoint → List RoundPoint → Type 0
Appends t number olds news =
    (s : Stream) (es : Points) → slice_get t.plan.streams number ≡ Some s → slice_get t.series number ≡ Some es
    → map point_of news ≡ map point_of olds ++ points_at s es

-- the points of all streams, by their numbers
abbrev pub points_of : List Stream → List Points → List ExportPoint
points_of [] ess = []
points_of (s ∷ ss) [] = []
points_of (s ∷ ss) (es ∷ ess) = points_at s es ++ points_of ss ess
