use Rattle.std.proofs.lemmas.Result.{err_from_is_err_and}
use Rattle.bytes_kit.proofs.Carrying.{no_receiver, no_body}
use Rattle.bytes_kit.proofs.messages.read_fields.Goals as goal

pub returns-in_err-to-clause-found : goal.returns-in_err-to-clause-found
returns-in_err-to-clause-found c =
    let p = err_from_is_err_and c.from_residual-in_err-to.result c.from_residual-in_err-to.ensures.1 in
    rw (p.1, p.2) (λ ne. no_receiver c.args.reader.now.rest c.read.new.reader.rest c.in_ok-from.from c.in_ok-from.ensures.found (c.in_err-to.ensures.found ne))

pub returns-in_err-carried-clause-found : goal.returns-in_err-carried-clause-found
returns-in_err-carried-clause-found c =
    let p = err_from_is_err_and c.from_residual-in_err-carried.result c.from_residual-in_err-carried.ensures.1 in
    rw (p.1, p.2) (λ ne. no_body c.args.reader.now.rest c.read.new.reader.rest c.read-2.new.reader.rest c.in_ok-from.from c.in_ok-to.to c.in_ok-from.ensures.found c.in_ok-to.ensures.found (c.in_err-carried.ensures.found ne))
