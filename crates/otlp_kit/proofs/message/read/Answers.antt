use Rattle.std.proofs.Common.{◌≡◌, ◌+◌, ◌-◌, suc, Some, Ok, arith, rules}
use Rattle.std.proofs.lemmas.Result.{err_from_is_err_and}
use Rattle.otlp_kit.specs.Fields.{next_field}
use Rattle.otlp_kit.proofs.Onward.{field_on, field_refused}
use Rattle.otlp_kit.proofs.message.read.Goals as goal

pub returns-in_err-take-clause-err : goal.returns-in_err-take-clause-err
returns-in_err-take-clause-err g c =
    let p = err_from_is_err_and c.from_residual-in_err-take.result c.from_residual-in_err-take.ensures.1 in
    let next : next_field c.loop.rest ≡ Ok (Some c.in-Some.field, c.next.new.span) = search rules in
    let left : c.len-end.result - c.loop.counter ≡ suc (c.len-end.result - (c.loop.counter + 1)) = omega (arith, c.loop-test.true) in
    rw (p.1, p.2) (λ ne. field_refused g.M.Message.step _ _ _ c.loop.said _ c.loop.rest c.next.new.span c.in-Some.field left c.loop.invariant next (c.in_err-take.ensures.err ne))

pub loop-preserved : goal.loop-preserved
loop-preserved g c =
    let next : next_field c.loop.rest ≡ Ok (Some c.in-Some.field, c.next.new.span) = search rules in
    let left : c.len-end.result - c.loop.counter ≡ suc (c.len-end.result - (c.loop.counter + 1)) = omega (arith, c.loop-test.true) in
    field_on g.M.Message.step _ _ _ c.loop.said c.take.new.self c.loop.rest c.next.new.span c.in-Some.field left c.loop.invariant next c.in_ok-take.ensures.ok
