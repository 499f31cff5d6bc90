use Rattle.std.proofs.Common.{◌≡◌, ◌&&◌, take, drop, List, ℕ, Bor}
use Rattle.std.specs.BTreeSet as tree
use Rattle.std.specs.List.{list_any}
use Rattle.std.specs.Ordering.{nat_cmp, ordering_then}
use Rattle.std.specs.declared.cmp.Ordering.{Ordering}
use Rattle.attr_kit.specs.declared.attr_value.AttrValue.{AttrValue}
use Rattle.attr_kit.specs.Orders.{set_cmp}
use Rattle.attr_kit.specs.Refusing.{repeat, repeat_from}
use Rattle.attr_kit.specs.contracts.attr_set.AttrSetPartialEq.TheImpl as sets
use Rattle.point_kit.specs.declared.stream.Stream.{Stream}
use Rattle.point_kit.specs.ExportFaults.{same_key}
use Rattle.point_kit.specs.Hashes.{content_hash}
use Rattle.point_kit.specs.contracts.stream.StreamOrd.TheImpl as orders
use Rattle.point_kit.specs.contracts.stream.StreamPartialEq.TheImpl as streams
use Rattle.point_kit.proofs.export.first_twice.Given as goal

-- the set and the stream of a point, lent
abbrev pub Lent : Type 0
Lent = Bor (List (List ℕ × AttrValue)) × Bor Stream

-- by hash, then by set, then by stream
abbrev pub order : ℕ × Lent → ℕ × Lent → Ordering
order j k = ordering_then (nat_cmp j.0 k.0) (ordering_then (set_cmp j.1.0.now k.1.0.now) ((orders.ghosts).cmp j.1.1.now k.1.1.now))

abbrev pub hashed : Lent → ℕ × Lent
hashed q = (content_hash q.1.now q.0.now, q)

abbrev pub invariant-loop-place : goal.invariant-loop-place
invariant-loop-place l = record {
  so : repeat same_key l.points ≡ repeat_from same_key (take l.place l.points) l.place (drop l.place l.points);
  seen : (q : Lent) → tree.contains order l.seen (hashed q) ≡ list_any (λ p. (streams.ghosts).eq q.1.now p.stream && (sets.ghosts).eq q.0.now p.attrs) (take l.place l.points);
}
