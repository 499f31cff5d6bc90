use Rattle.std.proofs.Common.{arith}
use Rattle.std.proofs.lemmas.Result.{err_from_is_err_and}
use Rattle.bytes_kit.proofs.PastRefusing.{no_number, no_place, reads_new}
use Rattle.bytes_kit.proofs.passages.TxtPassage.read_behind.Goals as goal

pub returns-in_err-number-clause-found : goal.returns-in_err-number-clause-found
returns-in_err-number-clause-found c =
    let p = err_from_is_err_and c.from_residual.result c.from_residual.ensures.1 in
    rw (p.1, p.2) (λ ne. no_number c.args.history.now c.args.reader.now.rest (omega arith) (c.in_err-number.ensures.found ne))

pub returns-then-number-eq0-clause-found : goal.returns-then-number-eq0-clause-found
returns-then-number-eq0-clause-found c =
    reads_new c.args.history.now c.args.reader.now.rest c.read.new.reader.rest c.read_new.new.reader.rest c.in_ok-number.number c.read_new.result c.in_ok-number.ensures.found (omega arith) c.read_new.ensures.ok c.read_new.ensures.new c.read_new.ensures.err

pub returns-in-None-clause-found : goal.returns-in-None-clause-found
returns-in-None-clause-found c =
    λ _. no_place c.args.history.now c.args.reader.now.rest c.read.new.reader.rest c.in_ok-number.number c.in_ok-number.ensures.found (λ e. absurd (omega (arith, e))) c.in-None.ensures.none
