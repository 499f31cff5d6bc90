use Rattle.std.proofs.Common.{◌≡◌, ◌+◌, ◌≤◌, true, length, map, vec_len, vec_capacity}
use Rattle.std.specs.FinMap.Entries.{is_sorted}
use Rattle.gateway_kit.specs.Weave.{MovedBefore, by_key}
use Rattle.gateway_kit.proofs.weave.weave_one.Given as goal

-- what was moved goes before the value
abbrev pub invariant-last : goal.invariant-last
invariant-last g l = record {
  before : MovedBefore (by_key g.T.Keyed.compare g.T.Keyed.entry) l.value l.fn.room.items l.fn.mine.items l.room.items l.mine.items;
  sorted : is_sorted g.T.Keyed.compare (map g.T.Keyed.entry l.mine.items) ≡ true;
  len : vec_len l.room + length l.mine.items ≡ vec_len l.fn.room + length l.fn.mine.items;
  capacity : vec_capacity l.fn.room ≤ vec_capacity l.room;
}

abbrev pub decreases-last : goal.decreases-last
decreases-last g l = length l.mine.items
