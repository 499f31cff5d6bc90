use Rattle.std.proofs.Common.{◌≡◌, ◌++◌, drop, take}
use Rattle.archive_kit.proofs.archive.Archive.collect.Given as goal

abbrev pub invariant-loop-tombstone : goal.invariant-loop-tombstone
invariant-loop-tombstone l = l.points.items ≡ l.self.totals ++ take l.tombstone-index (drop l.self.sealed l.self.tombstones)
