use Rattle.std.proofs.Common.{◌≤◌, ◌+◌, arith, length, rules}
use Rattle.std.proofs.lemmas.Grind.{common_steps}
use Rattle.script_kit.proofs.BytesLemmas.{taken_more}
use Rattle.script_kit.proofs.input.unkept.Goals as goal

pub returns-then-read-gt-MAX_BYTES-clause-few : goal.returns-then-read-gt-MAX_BYTES-clause-few
returns-then-read-gt-MAX_BYTES-clause-few g c =
    let fits : c.in-Ok.count ≤ length c.read.new.buf = search rules in
    let room : c.loop-turn.read + c.in-Ok.count ≤ 1048577 = grind (arith, common_steps) in
    let t = c.loop-turn.invariant.taken in
    let more = taken_more _ _ _ c.read.new.buf c.args.before c.loop-turn.read c.in-Ok.count t.0 t.1 t.2 c.in-Ok.ensures.bytes.0 fits in
    (more.0, more.1, omega (arith, more.2, room))

pub loop-turn-preserved : goal.loop-turn-preserved
loop-turn-preserved g c =
    let fits : c.in-Ok.count ≤ length c.read.new.buf = search rules in
    let t = c.loop-turn.invariant.taken in
    record {
      some = grind (arith, common_steps);
      few = c.if-read-gt-MAX_BYTES.false;
      taken = taken_more _ _ _ c.read.new.buf c.args.before c.loop-turn.read c.in-Ok.count t.0 t.1 t.2 c.in-Ok.ensures.bytes.0 fits;
    }
