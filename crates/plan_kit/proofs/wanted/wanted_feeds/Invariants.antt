use Rattle.std.proofs.Common.{◌≡◌, ◌++◌}
use Rattle.std.specs.List.{flat_map, enumerate_from}
use Rattle.plan_kit.specs.Feeds.{own_feeds}
use Rattle.plan_kit.proofs.Feeding.{feeds_from}
use Rattle.plan_kit.proofs.wanted.wanted_feeds.Given as goal

abbrev pub invariant-loop-place : goal.invariant-loop-place
invariant-loop-place l = l.wanted.items ++ feeds_from l.views l.instruments l.place ≡ flat_map (own_feeds l.views l.instruments) (enumerate_from 0 l.instruments)
