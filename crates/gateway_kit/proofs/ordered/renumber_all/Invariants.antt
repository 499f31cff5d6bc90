use Rattle.std.proofs.Common.{◌≡◌, map, vec_len}
use Rattle.gateway_kit.specs.Numbers.{AllBefore}
use Rattle.gateway_kit.proofs.ordered.renumber_all.Given as goal

-- the values before the place have the number
abbrev pub invariant-loop-place : goal.invariant-loop-place
invariant-loop-place g l = record {
  same : map g.T.Keyed.entry l.values.items ≡ map g.T.Keyed.entry l.fn.values.items;
  len : vec_len l.values ≡ vec_len l.fn.values;
  numbers : AllBefore (g.T.Keyed.IsNumbered l.number) l.place l.values.items;
}
