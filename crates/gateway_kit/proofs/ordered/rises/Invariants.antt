use Rattle.std.proofs.Common.{◌≡◌, ℕ, ◌+◌, ◌<◌, get_or}
use Rattle.std.specs.declared.cmp.Ordering.TheVariants.{Less}
use Rattle.gateway_kit.specs.Weave.{by_key}
use Rattle.gateway_kit.proofs.ordered.rises.Given as goal

-- each value before the place is below the next
abbrev pub invariant-loop-place : goal.invariant-loop-place
invariant-loop-place g l = (k : ℕ) (d : _) → k + 1 < l.place → (by_key g.T.Keyed.compare g.T.Keyed.entry) (get_or l.values k d) (get_or l.values (k + 1) d) ≡ Less
