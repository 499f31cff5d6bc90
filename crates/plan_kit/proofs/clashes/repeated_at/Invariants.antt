use Rattle.std.proofs.Common.{◌≡◌, take, drop, Bor}
use Rattle.std.specs.List.{list_any}
use Rattle.attr_kit.specs.Refusing.{repeat, repeat_from}
use Rattle.point_kit.specs.declared.stream.Stream.{Stream}
use Rattle.plan_kit.specs.SameStream.{same}
use Rattle.point_kit.specs.contracts.stream.StreamPartialEq.TheImpl as streams
use Rattle.plan_kit.proofs.clashes.repeated_at.Given as goal

abbrev pub invariant-loop-place : goal.invariant-loop-place
invariant-loop-place l = record {
  so : repeat same l.wanted ≡ repeat_from same (take l.place l.wanted) l.place (drop l.place l.wanted);
  seen : (q : Bor Stream) → list_any (λ k. (streams.ghosts).eq q.now k.now) l.seen.keys ≡ list_any (λ p. (streams.ghosts).eq q.now p.stream) (take l.place l.wanted);
}
