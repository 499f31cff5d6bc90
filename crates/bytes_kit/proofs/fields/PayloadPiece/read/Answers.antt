use Rattle.std.proofs.Common.{◌≡◌, ◌∷◌}
use Rattle.std.proofs.lemmas.Result.{err_from_is_err_and}
use Rattle.bytes_kit.proofs.Tags.{no_counts, no_ranged}
use Rattle.bytes_kit.proofs.fields.PayloadPiece.read.Goals as goal

pub returns-in_err-count-in-2-clause-found : goal.returns-in_err-count-in-2-clause-found
returns-in_err-count-in-2-clause-found c =
    let p = err_from_is_err_and c.from_residual-in_err-count-in-2.result c.from_residual-in_err-count-in-2.ensures.1 in
    let at : c.args.reader.now.rest ≡ 2 ∷ c.byte.new.self.rest = cc (c.in_ok-byte.ensures.ok, c.in-2.is) in
    rw (p.1, p.2, at) (λ ne. no_counts c.byte.new.self.rest (c.in_err-count-in-2.ensures.found ne))

pub returns-in_err-count-in-3-clause-found : goal.returns-in_err-count-in-3-clause-found
returns-in_err-count-in-3-clause-found c =
    let p = err_from_is_err_and c.from_residual-in_err-count-in-3.result c.from_residual-in_err-count-in-3.ensures.1 in
    let at : c.args.reader.now.rest ≡ 3 ∷ c.byte.new.self.rest = cc (c.in_ok-byte.ensures.ok, c.in-3.is) in
    rw (p.1, p.2, at) (λ ne. no_ranged c.byte.new.self.rest (c.in_err-count-in-3.ensures.found ne))
