use Rattle.std.proofs.Common.{◌≡◌}
use Rattle.gateway_kit.proofs.merging.reserve_incarnations.Given as goal

abbrev pub invariant-loop-place : goal.invariant-loop-place
invariant-loop-place l = record {
  items : l.incarnations.items ≡ l.fn.incarnations.items;
  bounds : l.incarnations.bounds ≡ l.fn.incarnations.bounds;
}
