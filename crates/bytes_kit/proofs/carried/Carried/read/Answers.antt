use Rattle.std.proofs.Common.{◌≡◌, ◌∷◌}
use Rattle.std.proofs.lemmas.Result.{err_from_is_err_and}
use Rattle.bytes_kit.proofs.Carrying.{no_delta}
use Rattle.bytes_kit.proofs.carried.Carried.read.Goals as goal

pub returns-in_err-cells-in-1-clause-found : goal.returns-in_err-cells-in-1-clause-found
returns-in_err-cells-in-1-clause-found c =
    let p = err_from_is_err_and c.from_residual-in_err-cells-in-1.result c.from_residual-in_err-cells-in-1.ensures.1 in
    let at : c.args.reader.now.rest ≡ 1 ∷ c.byte.new.self.rest = cc (c.in_ok-byte.ensures.ok, c.in-1.is) in
    rw (p.1, p.2, at) (λ ne. no_delta c.byte.new.self.rest c.read.new.reader.rest c.in_ok-number-in-1.number c.in_ok-number-in-1.ensures.found (c.in_err-cells-in-1.ensures.found ne))
