use Rattle.std.proofs.lemmas.Result.{err_from_is_err_and}
use Rattle.bytes_kit.proofs.fields.WriterIdPassage.read_behind.Goals as goal

pub returns-in_err-service-clause-found : goal.returns-in_err-service-clause-found
returns-in_err-service-clause-found c =
    let p = err_from_is_err_and c.from_residual.result c.from_residual.ensures.1 in
    rw (p.1, p.2) (λ ne w. c.in_err-service.ensures.found ne (w.service, w.instance))
