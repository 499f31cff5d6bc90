use Rattle.std.proofs.Common.{◌≡◌, get_or, Err, sym, ap, ◌∙◌, rules}
use Rattle.std.proofs.lemmas.Result.{err_from_is_err_and}
use Rattle.otlp_kit.specs.declared.request_fault.RequestFault.{RequestFault}
use Rattle.otlp_kit.proofs.Twice.{scope_refused, metrics_refused, scope_on, one_scope_more}
use Rattle.otlp_kit.proofs.reading.Reading.add_scopes.Goals as goal

pub returns-then-differs-clause-err : goal.returns-then-differs-clause-err
returns-then-differs-clause-err c = λ ne.
    let first : c.index.result.now ≡ get_or c.in_ok-firsts.firsts.items c.loop-place.place c.index.result.now = search rules in
    scope_refused c.args.scopes.now c.in_ok-names.names.items c.as_slice.result.now c.in_ok-firsts.firsts.items c.in_ok-names.ensures c.as_slice.ensures.value c.in_ok-firsts.ensures
    _ c.loop-place.place c.index.result.now c.index-scopes-place.result c.loop-place.self c.differs.result c.loop-place-test.true first c.index-scopes-place.is c.loop-place.invariant c.differs.ensures c.if-differs.true
    ∙ ap (λ (f : RequestFault). Err f) (sym c.at.ensures)

pub returns-in_err-add_metrics-clause-err : goal.returns-in_err-add_metrics-clause-err
returns-in_err-add_metrics-clause-err c =
    let p = err_from_is_err_and c.from_residual-in_err-add_metrics.result c.from_residual-in_err-add_metrics.ensures.1 in
    let first : c.index.result.now ≡ get_or c.in_ok-firsts.firsts.items c.loop-place.place c.index.result.now = search rules in
    rw (p.1, p.2) (λ ne.
    metrics_refused c.args.scopes.now c.in_ok-names.names.items c.as_slice.result.now c.in_ok-firsts.firsts.items c.in_ok-names.ensures c.as_slice.ensures.value c.in_ok-firsts.ensures
    _ c.loop-place.place c.index.result.now c.index-scopes-place.result c.loop-place.self c.differs.result c.scope_name.result.now c.as_slice-in-loop-place.result.now _ c.loop-place-test.true first c.index-scopes-place.is c.loop-place.invariant c.differs.ensures c.if-differs.false
    c.scope_name.ensures c.as_slice-in-loop-place.ensures (c.in_err-add_metrics.ensures.err ne))

pub loop-place-preserved : goal.loop-place-preserved
loop-place-preserved c =
    let first : c.index.result.now ≡ get_or c.in_ok-firsts.firsts.items c.loop-place.place c.index.result.now = search rules in
    let t = c.add_metrics.new.self in
    scope_on c.args.scopes.now c.in_ok-names.names.items c.as_slice.result.now c.in_ok-firsts.firsts.items c.in_ok-names.ensures c.as_slice.ensures.value c.in_ok-firsts.ensures
    _ c.loop-place.place c.index.result.now c.index-scopes-place.result c.loop-place.self _ c.differs.result c.scope_name.result.now c.as_slice-in-loop-place.result.now t c.loop-place-test.true first c.index-scopes-place.is c.loop-place.invariant c.differs.ensures c.if-differs.false
    c.scope_name.ensures c.as_slice-in-loop-place.ensures c.in_ok-add_metrics.ensures.ok (one_scope_more t c.in_ok-self.field-0 c.in_ok-self.ensures)
