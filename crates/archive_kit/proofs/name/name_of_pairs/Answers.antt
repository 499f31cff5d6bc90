use Rattle.std.proofs.Common.{◌≡◌, ℕ, [], ◌∷◌}
use Rattle.point_kit.specs.declared.writer_id.WriterId.{WriterId}
use Rattle.uuid.specs.Text.{hyphenated_text, lower}
use Rattle.archive_kit.specs.Tombstones.{incarnation_attrs}
use Rattle.archive_kit.proofs.Naming.{None3, first_is, second_is, third_is, if_none}
use Rattle.archive_kit.proofs.name.name_of_pairs.Goals as goal

pub returns-in_err-instance-clause-none : goal.returns-in_err-instance-clause-none
returns-in_err-instance-clause-none c =
    let none : None3 c.args.first.now c.args.second.now c.args.third.now =
    λ w s e. c.in_err-instance.ensures.none (hyphenated_text lower w.instance) (first_is c.args.first.now c.args.second.now c.args.third.now w s e) in
    if_none c.from_residual.result none

pub returns-in_err-service-clause-none : goal.returns-in_err-service-clause-none
returns-in_err-service-clause-none c =
    let none : None3 c.args.first.now c.args.second.now c.args.third.now =
    λ w s e. c.in_err-service.ensures.none w.service (second_is c.args.first.now c.args.second.now c.args.third.now w s e) in
    if_none c.from_residual-in_err-service.result none

pub returns-in_err-start-clause-none : goal.returns-in_err-start-clause-none
returns-in_err-start-clause-none c =
    let none : None3 c.args.first.now c.args.second.now c.args.third.now =
    λ w s e. c.in_err-start.ensures.none s (third_is c.args.first.now c.args.second.now c.args.third.now w s e) in
    if_none c.from_residual-in_err-start.result none
