use Rattle.std.proofs.Common.{◌≡◌, ◌++◌, ℕ, List, length}
use Rattle.std.specs.Vec.Iter.{into_iter_items, into_iter_len}
use Rattle.page_kit.specs.Families.{IsClaimed}
use Rattle.page_kit.proofs.claims.claim.Given as goal

abbrev pub invariant-loop-claim : goal.invariant-loop-claim
invariant-loop-claim l = record {
  all : l.fn.claims.items ≡ l.yielded ++ into_iter_items l.claim-iterator;
  len : into_iter_len l.claim-iterator ≡ length (into_iter_items l.claim-iterator);
  claimed : (names : List (List ℕ)) → IsClaimed names l.fn.claimed.keys → IsClaimed (l.yielded ++ names) l.claimed.keys;
}
