use Rattle.std.proofs.Common.{◌≡◌, ◌++◌, Some, map, slice_get, take}
use Rattle.std.specs.Prelude.{IsTrue}
use Rattle.std.specs.Map.{keys_of}
use Rattle.agg_kit.specs.Feeds.{series_at}
use Rattle.attr_kit.specs.declared.attr_set.AttrSet.{AttrSet}
use Rattle.point_kit.specs.declared.payload.Payload.{Payload}
use Rattle.round_kit.specs.Placed.{stream_of}
use Rattle.round_kit.specs.Rounds.{point_of, points_at}
use Rattle.round_kit.proofs.round.place_series.Given as goal

abbrev pub invariant-loop-k : goal.invariant-loop-k
invariant-loop-k l = record {
  placed : map point_of l.points.items ≡ map point_of l.fn.points.items ++ points_at (stream_of l.placed) (take l.k (series_at l.tally.series l.number));
  keys : IsTrue l.shared → (first : AttrSet × Payload) → slice_get (series_at l.tally.series l.number) 0 ≡ Some first → map (λ key. key.now) l.keys ≡ keys_of first.0;
}
