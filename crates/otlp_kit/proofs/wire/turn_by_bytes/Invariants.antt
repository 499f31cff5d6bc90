use Rattle.std.proofs.Common.{◌≡◌, ◌-◌, ◌++◌, length, take, drop}
use Rattle.otlp_kit.proofs.wire.turn_by_bytes.Given as goal

abbrev pub invariant-loop : goal.invariant-loop
invariant-loop l = record {
  turned : l.part ≡ drop (length l.fn.part - l.counter) l.fn.part ++ take (length l.fn.part - l.counter) l.fn.part;
  long : length l.part ≡ length l.fn.part;
}
