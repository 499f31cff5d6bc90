use Rattle.std.proofs.Common.{◌≡◌, ◌+◌, ◌≤◌, ◌++◌, true, List, length, map, vec_len, vec_capacity}
use Rattle.std.specs.FinMap.Entries.{is_sorted}
use Rattle.gateway_kit.specs.Weave.{by_key, weave}
use Rattle.gateway_kit.proofs.weave.weave.Given as goal

-- what is in the room, and what is left woven with anything, are the first list woven with what was put in and that
abbrev pub invariant-loop-value : goal.invariant-loop-value
invariant-loop-value g l = record {
  woven : (rest : List g.row.T.Denot) → l.room.items ++ weave (by_key g.T.Keyed.compare g.T.Keyed.entry) l.mine.items rest ≡ weave (by_key g.T.Keyed.compare g.T.Keyed.entry) l.fn.mine.items (l.yielded ++ rest);
  sorted : is_sorted g.T.Keyed.compare (map g.T.Keyed.entry l.mine.items) ≡ true;
  len : vec_len l.room + length l.mine.items ≤ vec_len l.fn.mine + length l.yielded;
  capacity : vec_capacity l.fn.room ≤ vec_capacity l.room;
}
