use Rattle.std.proofs.Common.{◌≡◌, ◌++◌, false, drop, string_bytes}
use Rattle.page_kit.specs.Names.{line_from}
use Rattle.page_kit.proofs.names.line.Given as goal

abbrev pub invariant-loop-byte : goal.invariant-loop-byte
invariant-loop-byte l = string_bytes l.text ++ line_from l.in_run (drop l.byte-index l.bytes) ≡ line_from false l.bytes
