use Rattle.std.proofs.Common.{◌≡◌, map, take}
use Rattle.plan_kit.proofs.finish.streams_of.Given as goal

abbrev pub invariant-loop-feed : goal.invariant-loop-feed
invariant-loop-feed l = l.streams.items ≡ map (λ w. w.stream) (take l.feed-index l.wanted)
