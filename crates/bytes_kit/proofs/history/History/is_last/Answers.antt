use Rattle.std.proofs.Common.{sym, ◌∙◌, subst}
use Rattle.point_kit.specs.Exact.{exact_streams}
use Rattle.bytes_kit.specs.Fits.{IsStream}
use Rattle.bytes_kit.proofs.history.History.is_last.Goals as goal

pub returns-in-Some-clause-fits : goal.returns-in-Some-clause-fits
returns-in-Some-clause-fits c =
    λ same. subst IsStream (exact_streams c.get.result.now c.args.stream.now (sym c.eq.ensures ∙ same)) (subst IsStream (sym c.get.ensures.value) (c.self.invariant c.in-Some.last c.in-Some.is))
