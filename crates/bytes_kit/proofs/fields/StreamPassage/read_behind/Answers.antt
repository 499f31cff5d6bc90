use Rattle.std.proofs.lemmas.Result.{err_from_is_err_and}
use Rattle.bytes_kit.proofs.fields.StreamPassage.read_behind.Goals as goal

pub returns-in_err-scope-clause-found : goal.returns-in_err-scope-clause-found
returns-in_err-scope-clause-found c =
    let p = err_from_is_err_and c.from_residual.result c.from_residual.ensures.1 in
    rw (p.1, p.2) (λ ne s. c.in_err-scope.ensures.found ne (s.scope, (s.name, (s.unit, s.shape))))
