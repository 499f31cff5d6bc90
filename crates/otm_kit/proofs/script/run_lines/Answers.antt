use Rattle.std.proofs.Common.{◌≡◌, ◌∙◌, ap, sym, arith, rules, ℕ, Some, true, false, [], append-nil}
use Rattle.std.specs.Option.{option_map}
use Rattle.std.proofs.lemmas.Result.{err_from_is_err_and}
use Rattle.script_kit.specs.Words.{is_filled}
use Rattle.script_kit.specs.declared.fault.ScriptFault.TheVariants as faults
use Rattle.otm_kit.specs.Says.{Wrong, says, lines_of}
use Rattle.otm_kit.proofs.Telling.{ends_bad, told_none, told_more, told_front, told_end, told_cut, tells_of}
use Rattle.otm_kit.proofs.script.run_lines.Goals as goal

pub loop-text-init : goal.loop-text-init
loop-text-init g c = record { few = omega arith; told = told_none c.args.script.now _ c.new-desk.result c.new-desk.ensures }

pub returns-in_err-do_line-clause-bad : goal.returns-in_err-do_line-clause-bad
returns-in_err-do_line-clause-bad g c =
    let p = err_from_is_err_and c.from_residual.result c.from_residual.ensures.1 in
    let its = c.in_err-do_line.ensures in
    let told : c.in_err-do_line.field-0.0 ≡ p.0 = cc in
    rw p.1 (λ n is. (ends_bad _ _ _ _ _ _ _ c.in-Some.text.now c.in-Some.after.now _ _ n c.loop-text.invariant.told c.in-Some.ensures.some told its.number its.bad is).wrote)

pub returns-in_err-do_line-clause-bad_line : goal.returns-in_err-do_line-clause-bad_line
returns-in_err-do_line-clause-bad_line g c =
    let p = err_from_is_err_and c.from_residual.result c.from_residual.ensures.1 in
    let its = c.in_err-do_line.ensures in
    let told : c.in_err-do_line.field-0.0 ≡ p.0 = cc in
    rw p.1 (λ n is. (ends_bad _ _ _ _ _ _ _ c.in-Some.text.now c.in-Some.after.now _ _ n c.loop-text.invariant.told c.in-Some.ensures.some told its.number its.bad is).at)

pub returns-in_err-do_line-clause-tells : goal.returns-in_err-do_line-clause-tells
returns-in_err-do_line-clause-tells g c =
    let p = err_from_is_err_and c.from_residual.result c.from_residual.ensures.1 in
    let its = c.in_err-do_line.ensures in
    let told : c.in_err-do_line.field-0.0 ≡ p.0 = cc in
    rw p.1 (λ n is. (ends_bad _ _ _ _ _ _ _ c.in-Some.text.now c.in-Some.after.now _ _ n c.loop-text.invariant.told c.in-Some.ensures.some told its.number its.bad is).tells)

pub returns-in_err-do_line-clause-front : goal.returns-in_err-do_line-clause-front
returns-in_err-do_line-clause-front g c =
    let p = err_from_is_err_and c.from_residual.result c.from_residual.ensures.1 in
    let t = c.loop-text.invariant.told in
    rw p.1 (told_front _ _ _ _ _ _ _ c.in-Some.text.now c.in-Some.after.now t c.in-Some.ensures.some (c.in_err-do_line.ensures.front (lines_of t.before) t.stands))

pub loop-text-preserved : goal.loop-text-preserved
loop-text-preserved g c =
    let t = c.loop-text.invariant.told in
    record {
      few = omega (arith, c.in-Some.ensures.less);
      told = told_more _ _ _ _ _ _ _ _ c.in-Some.text.now c.in-Some.after.now t c.in-Some.ensures.some (c.in_ok-do_line.ensures.ok (lines_of t.before) t.stands);
    }

pub returns-then-is_empty-clause-ok : goal.returns-then-is_empty-clause-ok
returns-then-is_empty-clause-ok g c =
    let empty : is_filled c.loop-text.rest.now ≡ false = search rules in
    (told_end _ _ _ _ _ _ c.loop-text.invariant.told c.in_default.ensures.none empty).0

pub returns-then-is_empty-clause-whole : goal.returns-then-is_empty-clause-whole
returns-then-is_empty-clause-whole g c =
    let empty : is_filled c.loop-text.rest.now ≡ false = search rules in
    ap (option_map (λ (w : Wrong). w.number)) (told_end _ _ _ _ _ _ c.loop-text.invariant.told c.in_default.ensures.none empty).1

pub returns-clause-bad : goal.returns-clause-bad
returns-clause-bad g c = λ n is.
    let filled : is_filled c.loop-text.rest.now ≡ true = search rules in
    (told_cut _ _ _ _ _ _ c.loop-text.invariant.told c.in_default.ensures.none filled).0

pub returns-clause-bad_line : goal.returns-clause-bad_line
returns-clause-bad_line g c = λ n is.
    let filled : is_filled c.loop-text.rest.now ≡ true = search rules in
    let both : faults.BadLine c.loop-text.number ≡ faults.BadLine n = sym c.bad_line.ensures.fault ∙ is in
    let same : c.loop-text.number ≡ n = cc in
    ap (option_map (λ (w : Wrong). w.number)) (told_cut _ _ _ _ _ _ c.loop-text.invariant.told c.in_default.ensures.none filled).1 ∙ ap (λ (k : ℕ). Some k) same

pub returns-clause-tells : goal.returns-clause-tells
returns-clause-tells g c = λ n is.
    let filled : is_filled c.loop-text.rest.now ≡ true = search rules in
    tells_of c.args.script.now c.bad_line.result _ (told_cut _ _ _ _ _ _ c.loop-text.invariant.told c.in_default.ensures.none filled).1 c.bad_line.ensures.tells

pub returns-clause-front : goal.returns-clause-front
returns-clause-front g c =
    let filled : is_filled c.loop-text.rest.now ≡ true = search rules in
    let all = told_cut _ _ _ _ _ _ c.loop-text.invariant.told c.in_default.ensures.none filled in
    ([], (says c.args.script.now, sym (append-nil _), all.0))
