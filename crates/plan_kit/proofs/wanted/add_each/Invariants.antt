use Rattle.std.proofs.Common.{◌≡◌, ◌++◌, drop, slice_get}
use Rattle.std.specs.List.{filter_map}
use Rattle.std.specs.Option.{option_and_then}
use Rattle.plan_kit.specs.Feeds.{feed_by}
use Rattle.plan_kit.proofs.wanted.add_each.Given as goal

abbrev pub invariant-loop-place : goal.invariant-loop-place
invariant-loop-place l =
    l.wanted.items ++ filter_map (λ n. option_and_then (feed_by l.owner l.instrument) (slice_get l.views n)) (drop l.place-index l.places)
    ≡ l.initial.wanted.items ++ filter_map (λ n. option_and_then (feed_by l.owner l.instrument) (slice_get l.views n)) l.places
