use Rattle.std.proofs.Common.{◌≡◌, ℕ, [], fold}
use Rattle.std.specs.BTreeMap as tree
use Rattle.std.specs.Ordering.{nat_cmp, ordering_then}
use Rattle.otlp_kit.specs.Reading.{add_member}
use Rattle.otlp_kit.proofs.Grouping.{place_of}
use Rattle.otlp_kit.proofs.group.groups_of.Given as goal

abbrev pub invariant-loop-next : goal.invariant-loop-next
invariant-loop-next l = record {
  so : l.groups.items ≡ fold add_member [] l.yielded;
  places : (w : ℕ × ℕ) → tree.get (λ a b. ordering_then (nat_cmp a.0 b.0) (nat_cmp a.1 b.1)) l.places w ≡ place_of w l.groups.items;
}
