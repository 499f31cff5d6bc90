use Rattle.std.proofs.Common.{◌≡◌, ℕ, [], take, vec_len, slice_index_or}
use Rattle.plan_kit.specs.Feeds.{feeds_from}
use Rattle.plan_kit.proofs.finish.lists_of.Given as goal

abbrev pub invariant-loop-number : goal.invariant-loop-number
invariant-loop-number l = record {
  len : vec_len l.lists ≡ l.count;
  feeds : (o : ℕ) → slice_index_or l.lists.items o [] ≡ feeds_from o 0 (take l.number l.wanted);
}
