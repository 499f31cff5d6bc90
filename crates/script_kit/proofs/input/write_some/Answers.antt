use Rattle.std.proofs.Common.{refl, []}
use Rattle.script_kit.proofs.BytesLemmas.{front_kept}
use Rattle.script_kit.proofs.input.write_some.Goals as goal

pub returns-in-Err-clause-front : goal.returns-in-Err-clause-front
returns-in-Err-clause-front g c = front_kept _ _ _ c.in-Err.ensures.bytes

pub returns-then-count-eq0-clause-front : goal.returns-then-count-eq0-clause-front
returns-then-count-eq0-clause-front g c = (c.args.text.now, ([], refl, rw c.if-count-eq0.true at c.in-Ok.ensures.bytes))
