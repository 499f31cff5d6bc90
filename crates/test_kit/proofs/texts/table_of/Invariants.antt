use Rattle.std.proofs.Common.{◌≡◌, take}
use Rattle.point_kit.specs.Exports.{state}
use Rattle.test_kit.proofs.texts.table_of.Given as goal

-- the gateway holds what the exports before came to
abbrev pub invariant-loop-export : goal.invariant-loop-export
invariant-loop-export l = l.gateway.points ≡ state (take l.export-index l.exports)
