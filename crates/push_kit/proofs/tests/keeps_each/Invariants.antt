use Rattle.std.proofs.Common.{◌≡◌}
use Rattle.push_kit.proofs.tests.keeps_each.Given as goal

-- it has not failed
abbrev pub invariant-loop : goal.invariant-loop
invariant-loop l = l.exporter.failures ≡ 0
