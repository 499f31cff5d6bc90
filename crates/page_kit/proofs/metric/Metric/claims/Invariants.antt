use Rattle.std.proofs.Common.{◌≡◌, ◌++◌, map, take}
use Rattle.page_kit.specs.Metrics.{family}
use Rattle.page_kit.proofs.metric.Metric.claims.Given as goal

abbrev pub invariant-loop-ending : goal.invariant-loop-ending
invariant-loop-ending l = l.claims.items ≡ map (λ ending. family l.self ++ ending.now) (take l.ending-index l.ending-items)
