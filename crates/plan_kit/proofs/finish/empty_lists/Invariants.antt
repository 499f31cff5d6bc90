use Rattle.std.proofs.Common.{◌≡◌, ℕ, [], vec_len, slice_index_or}
use Rattle.plan_kit.proofs.finish.empty_lists.Given as goal

abbrev pub invariant-loop-place : goal.invariant-loop-place
invariant-loop-place l = record {
  len : vec_len l.lists ≡ l._place;
  empty : (o : ℕ) → slice_index_or l.lists.items o [] ≡ [];
}
