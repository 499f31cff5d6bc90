use Rattle.std.proofs.lemmas.Result.{err_from_is_err_and}
use Rattle.gateway_kit.specs.Listing.{held_of_ref, incarnations_left}
use Rattle.file_kit.proofs.Adopting.{ends_here}
use Rattle.file_kit.proofs.archive.adopt_all.Goals as goal

pub returns-in_err-adopt-clause-err : goal.returns-in_err-adopt-clause-err
returns-in_err-adopt-clause-err c =
    let p = err_from_is_err_and c.from_residual.result c.from_residual.ensures.1 in
    rw (p.1, p.2) (λ other.
    ends_here c.args.keeper.now.gateway.points c.loop-held.archive (held_of_ref c.in-Some.held) (incarnations_left c.next.new.self) _ _ _
    c.in-Some.ensures.steps c.loop-held.invariant.2 (c.in_err-adopt.ensures.err other))
