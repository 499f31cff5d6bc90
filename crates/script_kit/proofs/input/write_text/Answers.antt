use Rattle.std.proofs.Common.{arith}
use Rattle.std.proofs.lemmas.Result.{err_from_is_err_and}
use Rattle.script_kit.proofs.BytesLemmas.{front_more, leaves_more}
use Rattle.script_kit.proofs.input.write_text.Goals as goal

pub returns-in_err-rest-clause-front : goal.returns-in_err-rest-clause-front
returns-in_err-rest-clause-front g c =
    let p = err_from_is_err_and c.from_residual.result c.from_residual.ensures.1 in
    rw p.1 (front_more _ _ _ _ _ c.loop-turn.invariant.written c.in_err-rest.ensures.front)

pub loop-turn-preserved : goal.loop-turn-preserved
loop-turn-preserved g c = record {
  least = omega (arith, c.in_ok-rest.ensures.less);
  written = leaves_more _ _ _ _ _ _ c.loop-turn.invariant.written c.in_ok-rest.ensures.ok;
}
