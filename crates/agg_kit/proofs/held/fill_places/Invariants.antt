use Rattle.std.proofs.Common.{◌≡◌, ◌≤◌, length, take}
use Rattle.std.specs.Prelude.{vec_len, vec_capacity}
use Rattle.agg_kit.specs.Held.{StandAt}
use Rattle.agg_kit.proofs.held.fill_places.Given as goal

abbrev pub invariant-loop-feed : goal.invariant-loop-feed
invariant-loop-feed l = record {
  at : StandAt l.plan (take l.feed-index l.feeds) l.each.items l.attrs l.series.items;
  len : vec_len l.each ≡ l.feed-index;
  room : length l.feeds ≤ vec_capacity l.each;
  kept : vec_capacity l.initial.each ≤ vec_capacity l.each;
}
