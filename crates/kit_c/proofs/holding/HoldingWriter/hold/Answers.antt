use Rattle.std.proofs.Common.{◌∙◌, ap, arith, refl, sym}
use Rattle.kit_c.proofs.Held.{absent, anew, held_more, known}
use Rattle.kit_c.proofs.Numbers.{inserted, none_of}
use Rattle.kit_c.specs.Pairs.{pair_eq}
use Rattle.std.specs.Map.{lookup}
use Rattle.kit_c.specs.Codes.{recording_code}
use Rattle.kit_c.proofs.holding.HoldingWriter.hold.Goals as goal

pub returns-in-Some-clause-ok : goal.returns-in-Some-clause-ok
returns-in-Some-clause-ok c =
    (known c.self.inside.writer c.args.self.now c.self.inside.numbers.entries c.args.pair.now c.self.invariant c.self.view_is c.in-Some.number c.in-Some.ensures.index).0

pub returns-in-Some-clause-number : goal.returns-in-Some-clause-number
returns-in-Some-clause-number c =
    (known c.self.inside.writer c.args.self.now c.self.inside.numbers.entries c.args.pair.now c.self.invariant c.self.view_is c.in-Some.number c.in-Some.ensures.index).1

pub returns-in-Some-clause-value : goal.returns-in-Some-clause-value
returns-in-Some-clause-value c =
    (known c.self.inside.writer c.args.self.now c.self.inside.numbers.entries c.args.pair.now c.self.invariant c.self.view_is c.in-Some.number c.in-Some.ensures.index).2

pub returns-in_err-copy-clause-held : goal.returns-in_err-copy-clause-held
returns-in_err-copy-clause-held c =
    λ is. absurd (is (absent c.self.inside.writer c.args.self.now c.self.inside.numbers.entries c.args.pair.now c.self.invariant c.self.view_is c.in_default.ensures.index))

pub returns-in_err-reserve-clause-held : goal.returns-in_err-reserve-clause-held
returns-in_err-reserve-clause-held c =
    λ is. absurd (is (absent c.self.inside.writer c.args.self.now c.self.inside.numbers.entries c.args.pair.now c.self.invariant c.self.view_is c.in_default.ensures.index))

pub returns-in-Ok-clause-number : goal.returns-in-Ok-clause-number
returns-in-Ok-clause-number c =
    c.in-Ok.ensures.number ∙ (anew c.self.inside.writer c.args.self.now c.self.inside.numbers.entries c.args.pair.now c.self.invariant c.self.view_is c.in_default.ensures.index).1

pub returns-in-Ok-clause-value : goal.returns-in-Ok-clause-value
returns-in-Ok-clause-value c =
    c.in-Ok.ensures.value ∙ (anew c.self.inside.writer c.args.self.now c.self.inside.numbers.entries c.args.pair.now c.self.invariant c.self.view_is c.in_default.ensures.index).2

pub returns-in-Err-clause-err : goal.returns-in-Err-clause-err
returns-in-Err-clause-err c =
    λ other.
    let told = c.in-Err.ensures.err (λ same. other (ap recording_code same)) in
    (c.in-Err.fault, refl, sym (anew c.self.inside.writer c.args.self.now c.self.inside.numbers.entries c.args.pair.now c.self.invariant c.self.view_is c.in_default.ensures.index).0 ∙ told)

pub returns-in-Err-clause-held : goal.returns-in-Err-clause-held
returns-in-Err-clause-held c =
    λ is. absurd (is (absent c.self.inside.writer c.args.self.now c.self.inside.numbers.entries c.args.pair.now c.self.invariant c.self.view_is c.in_default.ensures.index))

pub invariant_of-self-in-Ok : goal.invariant_of-self-in-Ok
invariant_of-self-in-Ok c =
    let es = c.self.inside.numbers.entries in
    let fs = c.insert.new.self.entries in
    let p = c.args.pair.now in
    let is = inserted es c.reserve.new.self.entries fs p c.in_ok-copy.copy c.in-Ok.number c.insert.result c.in_ok-reserve.ensures.entries c.in_ok-copy.ensures
    (c.insert.ensures.succeeds (omega (arith, c.in_ok-reserve.ensures.ok))) c.insert.ensures.entries in
    held_more es fs c.self.inside.writer c.hold.new.self p c.in-Ok.number c.self.invariant (none_of (lookup (pair_eq p) es) c.in_default.ensures.found) is
    c.in-Ok.ensures.number c.in-Ok.ensures.value
