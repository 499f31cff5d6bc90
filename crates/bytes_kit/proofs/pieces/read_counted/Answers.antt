use Rattle.std.proofs.lemmas.Result.{err_from_is_err_and}
use Rattle.bytes_kit.proofs.Refusing.{none_counted}
use Rattle.bytes_kit.proofs.pieces.read_counted.Goals as goal

pub returns-in_err-len-2-clause-err : goal.returns-in_err-len-2-clause-err
returns-in_err-len-2-clause-err c =
    let p = err_from_is_err_and c.from_residual-in_err-len-2.result c.from_residual-in_err-len-2.ensures.1 in
    rw (p.1, p.2) (λ _. none_counted c.in_ok-len.len c.args.reader.now.rest c.read.new.reader.rest c.in_ok-len.ensures.found c.in_err-len-2.ensures.err)
