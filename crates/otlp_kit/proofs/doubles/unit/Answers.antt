use Rattle.std.proofs.Common.{arith}
use Rattle.otlp_kit.proofs.Doubled.{unit_bound}
use Rattle.otlp_kit.proofs.doubles.unit.Goals as goal

pub returns-clause-bound : goal.returns-clause-bound
returns-clause-bound c = unit_bound c.saturating_sub.result (omega arith)
