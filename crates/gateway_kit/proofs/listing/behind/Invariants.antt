use Rattle.std.proofs.Common.{◌≡◌, nat_eq, map, length}
use Rattle.std.specs.Cmp.Lexicographic.{pointwise}
use Rattle.std.specs.List.{dedup_from}
use Rattle.shelf_kit.specs.Walks.{walk_left}
use Rattle.gateway_kit.proofs.listing.behind.Given as goal

-- those that were passed over are of the service
abbrev pub invariant-loop-incarnation : goal.invariant-loop-incarnation
invariant-loop-incarnation l = record {
  passed : dedup_from (pointwise nat_eq) l.service (map (λ p. p.writer.service) (walk_left l.fn.incarnations)) ≡ dedup_from (pointwise nat_eq) l.service (map (λ p. p.writer.service) (walk_left l.left));
  same : walk_left l.ahead ≡ walk_left l.left;
}

abbrev pub decreases-loop-incarnation : goal.decreases-loop-incarnation
decreases-loop-incarnation l = length (walk_left l.ahead)
