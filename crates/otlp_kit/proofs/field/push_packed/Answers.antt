use Rattle.std.proofs.Common.{◌≡◌, ◌+◌, ◌-◌, ◌/◌, length, drop, length-drop, ap, arith}
use Rattle.otlp_kit.specs.Spans.{Span}
use Rattle.otlp_kit.proofs.Packed.{packed_on}
use Rattle.otlp_kit.proofs.field.push_packed.Goals as goal

pub loop-preserved : goal.loop-preserved
loop-preserved c =
    let gone : c.eight.new.self.bytes ≡ drop 8 c.loop.list.bytes = ap (λ (s : Span). s.bytes) c.in-Some.ensures.behind in
    record {
      room = omega (arith, c.loop.invariant.room, ap length gone, length-drop 8 c.loop.list.bytes, c.loop-test.true);
      so = packed_on _ c.loop.numbers.items c.push.new.self.items c.loop.list.bytes c.eight.new.self.bytes (c.len-end.result / 8 - c.loop.counter) (c.len-end.result / 8 - (c.loop.counter + 1)) c.in-Some.number (omega (arith, c.loop-test.true)) c.loop.invariant.so c.in-Some.ensures.value gone c.in_ok-push.ensures.items;
    }
