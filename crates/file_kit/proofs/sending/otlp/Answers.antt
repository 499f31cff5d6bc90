use Rattle.std.proofs.Common.{◌≡◌, ◌∙◌, ◌++◌, ◌+◌, ℕ, List, Vec, Global, ap, get_or, map, subst, sym, take}
use Rattle.std.proofs.lemmas.Result.{err_from_is_err_and}
use Rattle.file_kit.specs.Sending.{AreRequests, IsRequest, IsUnsentAt}
use Rattle.file_kit.proofs.Requests.{requests_more, unsent_at}
use Rattle.file_kit.proofs.sending.otlp.Goals as goal

pub returns-in_err-request-clause-err : goal.returns-in_err-request-clause-err
returns-in_err-request-clause-err c =
    let items : Vec ℕ Global → List ℕ = λ f. f.items in
    let same : c.as_slice.result.now ≡ items (get_or c.args.files.now c.loop-place.place c.index-files-place.result) = c.as_slice.ensures.value ∙ ap items c.index-files-place.is in
    let p = err_from_is_err_and c.from_residual.result c.from_residual.ensures.1 in
    rw (p.1, p.2) (unsent_at items c.args.files.now c.loop-place.place c.index-files-place.result c.loop-place.bytes.items _ c.loop-place-test.true c.loop-place.invariant
    (subst (λ (b : List ℕ). IsUnsentAt c.loop-place.place b c.in_err-request.field-0.0) same c.in_err-request.ensures.err))

pub loop-place-preserved : goal.loop-place-preserved
loop-place-preserved c =
    let items : Vec ℕ Global → List ℕ = λ f. f.items in
    let same : c.as_slice.result.now ≡ items (get_or c.args.files.now c.loop-place.place c.index-files-place.result) = c.as_slice.ensures.value ∙ ap items c.index-files-place.is in
    let more : c.extend_from_slice.new.self.items ≡ c.loop-place.bytes.items ++ c.in_ok-request.request.items =
    c.in_ok-extend_from_slice.ensures.items ∙ ap (λ (l : List ℕ). c.loop-place.bytes.items ++ l) c.as_slice-in-loop-place.ensures.value in
    subst (λ (b : List ℕ). AreRequests (map items (take (c.loop-place.place + 1) c.args.files.now)) b) (sym more)
    (requests_more items c.args.files.now c.loop-place.place c.index-files-place.result c.loop-place.bytes.items c.in_ok-request.request.items c.loop-place-test.true c.loop-place.invariant
    (subst (λ (b : List ℕ). IsRequest b c.in_ok-request.request.items) same c.in_ok-request.ensures.ok))
