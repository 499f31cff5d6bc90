use Rattle.std.proofs.Common.{◌≡◌, ◌≤◌, length, map, take}
use Rattle.std.specs.Prelude.{vec_len, vec_capacity}
use Rattle.std.specs.Map.{values_of}
use Rattle.round_kit.specs.Placed.{value_of}
use Rattle.round_kit.proofs.set.place_values.Given as goal

abbrev pub invariant-loop-value : goal.invariant-loop-value
invariant-loop-value l = record {
  placed : map value_of l.values.items ≡ values_of (take l.value-index l.pairs);
  len : vec_len l.values ≡ l.value-index;
  room : length l.pairs ≤ vec_capacity l.values;
}
