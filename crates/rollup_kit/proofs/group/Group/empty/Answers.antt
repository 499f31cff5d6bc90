use Rattle.std.proofs.Common.{pos, ℕ, List, sym, subst}
use Rattle.rollup_kit.specs.Groups.{IsBounded}
use Rattle.rollup_kit.proofs.Bounds.{none_bounded}
use Rattle.rollup_kit.proofs.group.Group.empty.Goals as goal

pub invariant_of-result : goal.invariant_of-result
invariant_of-result c = subst (λ (b : List ℕ). IsBounded (pos 0) 0 b 0) (sym c.in_ok-empty.ensures) (none_bounded c.args.buckets)
