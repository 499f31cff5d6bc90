use Rattle.std.proofs.Common.{◌≡◌, ◌+◌, ◌%◌, ◌<◌, ◌≤◌, ◌^◌, fold, take}
use Rattle.bytes_kit.specs.Checksum.{add_byte}
use Rattle.bytes_kit.proofs.checksum.checksum.Given as goal

abbrev pub invariant-loop-byte : goal.invariant-loop-byte
invariant-loop-byte l = record {
  low : l.low ≤ l.high + 65521;
  high : l.high < 2 ^ 62;
  low_is : l.low % 65521 ≡ (fold add_byte (1, 0) (take l.byte-index l.bytes)).0;
  high_is : l.high % 65521 ≡ (fold add_byte (1, 0) (take l.byte-index l.bytes)).1;
}
