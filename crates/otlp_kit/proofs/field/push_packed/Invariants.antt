use Rattle.std.proofs.Common.{◌≡◌, ◌++◌, ◌/◌, ◌-◌, ◌*◌, ◌≤◌, length}
use Rattle.otlp_kit.specs.Contents.{eights}
use Rattle.otlp_kit.proofs.field.push_packed.Given as goal

abbrev pub invariant-loop : goal.invariant-loop
invariant-loop l = record {
  room : 8 * (l.end - l.counter) ≤ length l.list.bytes;
  so : l.numbers.items ++ eights (l.end - l.counter) l.list.bytes ≡ l.fn.numbers.items ++ eights (length l.fn.list.bytes / 8) l.fn.list.bytes;
}
