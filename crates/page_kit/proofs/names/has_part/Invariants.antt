use Rattle.std.proofs.Common.{◌≡◌, drop}
use Rattle.page_kit.specs.Names.{has_part}
use Rattle.page_kit.proofs.names.has_part.Given as goal

abbrev pub invariant-loop-place : goal.invariant-loop-place
invariant-loop-place l = has_part l.part (drop l.place l.bytes) ≡ has_part l.part l.bytes
