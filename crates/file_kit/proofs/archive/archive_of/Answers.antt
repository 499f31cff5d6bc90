use Rattle.std.proofs.lemmas.Result.{err_from_is_err_and}
use Rattle.std.proofs.Common.{◌<◌, refl, rules, subst, sym}
use Rattle.archive_kit.specs.Archive.{ArchiveState}
use Rattle.file_kit.proofs.Adopting.{is_later}
use Rattle.file_kit.proofs.archive.archive_of.Goals as goal

pub exported-requires : goal.exported-requires
exported-requires c =
    is_later c.args.keeper.now.gateway.points c.in_ok-archive.archive c.adopt_all.new.archive c.args.ask.now.time
    (subst (λ (a : ArchiveState). a.exported < c.args.ask.now.time) (sym c.in_ok-archive.ensures) c.requires) c.in_ok-adopt_all.ensures.ok

pub returns-in_err-adopt_all-clause-err : goal.returns-in_err-adopt_all-clause-err
returns-in_err-adopt_all-clause-err c =
    let p = err_from_is_err_and c.from_residual-in_err-adopt_all.result c.from_residual-in_err-adopt_all.ensures.1 in
    rw (p.1, p.2) (λ other. search (rules, c.is_new.ensures, c.if-not-is_new.ensures, c.in_ok-archive.ensures, c.in_err-adopt_all.ensures.err other))

pub returns-in_err-exported-clause-err : goal.returns-in_err-exported-clause-err
returns-in_err-exported-clause-err c =
    let p = err_from_is_err_and c.from_residual-in_err-exported.result c.from_residual-in_err-exported.ensures.1 in
    rw (p.1, p.2) (λ other. absurd (other refl))
