use Rattle.std.proofs.Common.{◌≡◌, ◌+◌, ◌≤◌, ◌++◌, drop, take, vec_len, vec_capacity}
use Rattle.gateway_kit.proofs.weave.move_front.Given as goal

-- so many values were moved
abbrev pub invariant-loop : goal.invariant-loop
invariant-loop g l = record {
  left : l.mine.items ≡ drop l.counter l.fn.mine.items;
  moved : l.room.items ≡ l.fn.room.items ++ take l.counter l.fn.mine.items;
  len : vec_len l.room ≡ vec_len l.fn.room + l.counter;
  capacity : vec_capacity l.fn.room ≤ vec_capacity l.room;
}
