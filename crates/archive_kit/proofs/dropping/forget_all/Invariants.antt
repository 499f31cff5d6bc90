use Rattle.std.proofs.Common.{take}
use Rattle.archive_kit.specs.Stepping.{Drops, is_gone}
use Rattle.archive_kit.proofs.dropping.forget_all.Given as goal

-- what of those before is no tombstone is dropped
abbrev pub invariant-loop-incarnation : goal.invariant-loop-incarnation
invariant-loop-incarnation l = Drops (is_gone (take l.incarnation-index l.gone)) l.initial.node l.node
