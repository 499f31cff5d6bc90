use Rattle.std.proofs.Common.{◌≡◌, drop}
use Rattle.otlp_kit.specs.Walks.{walk, walk_from}
use Rattle.otlp_kit.specs.Reading.{add_metric}
use Rattle.otlp_kit.proofs.reading.Reading.add_metrics.Given as goal

abbrev pub invariant-loop-metric : goal.invariant-loop-metric
invariant-loop-metric l = walk_from (add_metric l.scope) l.metric-index l.self (drop l.metric-index l.metrics) ≡ walk (add_metric l.scope) l.fn.self l.metrics
