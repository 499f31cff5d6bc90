use Rattle.std.proofs.Common.{arith}
use Rattle.otlp_kit.proofs.Doubled.{rounds_up, rounds_down, some_kept}
use Rattle.otlp_kit.proofs.doubles.rounded_size.Goals as goal

pub returns-then-goes_up-clause-value : goal.returns-then-goes_up-clause-value
returns-then-goes_up-clause-value c = rounds_up c.args.m c.unit-unit.result c.unit-unit.ensures.value c.if-goes_up.ensures

pub returns-clause-value : goal.returns-clause-value
returns-clause-value c = rounds_down c.args.m c.unit-unit.result c.unit-unit.ensures.value c.if-goes_up.ensures

pub returns-clause-some : goal.returns-clause-some
returns-clause-some c = some_kept c.args.m c.unit-unit.result c.unit-unit.ensures.value c.unit-unit.ensures.some (omega arith)
