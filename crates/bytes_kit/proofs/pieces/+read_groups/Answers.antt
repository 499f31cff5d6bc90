use Rattle.std.proofs.Common.{arith}
use Rattle.std.proofs.lemmas.Result.{err_from_is_err_and}
use Rattle.bytes_kit.specs.Fits.{IsNumber}
use Rattle.bytes_kit.specs.Format.{groups}
use Rattle.bytes_kit.specs.Laws.{groups_bytes}
use Rattle.bytes_kit.proofs.Refusing.{none_of_nothing, none_at_high, none_above}
use Rattle.bytes_kit.proofs.pieces.+read_groups.Goals as goal

pub returns-in_err-byte-clause-found : goal.returns-in_err-byte-clause-found
returns-in_err-byte-clause-found t c =
    let p = err_from_is_err_and c.from_residual.result c.from_residual.ensures.1 in
    rw (p.1, p.2) (λ _. none_of_nothing (groups c.args.more) IsNumber (groups_bytes c.args.more) c.args.reader.now.rest c.in_err-byte.ensures.err)

pub returns-in_err-high-clause-found : goal.returns-in_err-high-clause-found
returns-in_err-high-clause-found t c =
    let p = err_from_is_err_and c.from_residual-in_err-high.result c.from_residual-in_err-high.ensures.1 in
    rw (p.1, p.2) (λ ne. none_at_high c.args.more c.in_ok-byte.field-0 c.args.reader.now.rest c.byte.new.self.rest c.in_ok-byte.ensures.ok (omega arith) (omega arith) (c.in_err-high.ensures.found ne))

pub returns-in-None-clause-found : goal.returns-in-None-clause-found
returns-in-None-clause-found t c = λ _. none_above c.args.more c.in_ok-byte.field-0 c.in_ok-high.high c.args.reader.now.rest c.byte.new.self.rest c.read_groups.new.reader.rest c.in_ok-byte.ensures.ok (omega arith) (omega arith) c.in_ok-high.ensures.found (omega arith)
