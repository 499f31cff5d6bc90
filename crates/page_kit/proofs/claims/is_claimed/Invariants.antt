use Rattle.std.proofs.Common.{◌≡◌, ℕ, List, drop}
use Rattle.page_kit.specs.Families.{are_claimed, IsClaimed}
use Rattle.page_kit.proofs.claims.is_claimed.Given as goal

abbrev pub invariant-loop-claim : goal.invariant-loop-claim
invariant-loop-claim l = (names : List (List ℕ)) → IsClaimed names l.claimed.keys → are_claimed names (drop l.claim-index l.claims) ≡ are_claimed names l.claims
