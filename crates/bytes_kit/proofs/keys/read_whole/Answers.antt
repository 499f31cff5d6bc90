use Rattle.std.proofs.lemmas.Result.{err_from_is_err_and}
use Rattle.bytes_kit.proofs.keys.read_whole.Goals as goal

pub returns-in_err-writer-clause-found : goal.returns-in_err-writer-clause-found
returns-in_err-writer-clause-found c =
    let p = err_from_is_err_and c.from_residual.result c.from_residual.ensures.1 in
    rw (p.1, p.2) (λ ne k. c.in_err-writer.ensures.found ne (k.writer, (k.start, (k.stream, k.attrs))))
