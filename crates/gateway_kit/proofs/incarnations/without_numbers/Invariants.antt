use Rattle.std.proofs.Common.{◌≡◌, map, length}
use Rattle.gateway_kit.specs.Incarnations.{keyed_cells}
use Rattle.gateway_kit.specs.Numbers.{AllBefore, IsNumbered}
use Rattle.gateway_kit.proofs.incarnations.without_numbers.Given as goal

-- the incarnations before the place have no numbers
abbrev pub invariant-loop-place : goal.invariant-loop-place
invariant-loop-place l = record {
  same : map keyed_cells l.incarnations.items ≡ map keyed_cells l.fn.incarnations.items;
  len : length l.incarnations.items ≡ length l.fn.incarnations.items;
  numbers : AllBefore (IsNumbered 0) l.place l.incarnations.items;
}
