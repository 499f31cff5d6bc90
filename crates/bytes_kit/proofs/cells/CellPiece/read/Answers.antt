use Rattle.std.proofs.lemmas.Result.{err_from_is_err_and}
use Rattle.bytes_kit.proofs.cells.CellPiece.read.Goals as goal

pub returns-in_err-time-clause-found : goal.returns-in_err-time-clause-found
returns-in_err-time-clause-found c =
    let p = err_from_is_err_and c.from_residual.result c.from_residual.ensures.1 in
    rw (p.1, p.2) (λ ne x. c.in_err-time.ensures.found ne (x.time, x.held))
