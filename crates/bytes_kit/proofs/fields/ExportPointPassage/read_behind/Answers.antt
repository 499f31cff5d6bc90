use Rattle.std.proofs.lemmas.Result.{err_from_is_err_and}
use Rattle.bytes_kit.proofs.fields.ExportPointPassage.read_behind.Goals as goal

pub returns-in_err-stream-clause-found : goal.returns-in_err-stream-clause-found
returns-in_err-stream-clause-found c =
    let p = err_from_is_err_and c.from_residual.result c.from_residual.ensures.1 in
    rw (p.1, p.2) (λ ne x. c.in_err-stream.ensures.found ne (x.stream, (x.attrs, x.payload)))
