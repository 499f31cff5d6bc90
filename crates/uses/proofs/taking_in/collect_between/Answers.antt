use Rattle.std.proofs.Common.{◌∙◌, ◌-◌, length, ap}
use Rattle.writer_kit.specs.Recording.{round_now}
use Rattle.writer_kit.specs.Written.{Written}
use Rattle.uses.proofs.Logs.{few, two_pieces}
use Rattle.uses.proofs.taking_in.collect_between.Goals as goal

pub returns-clause-round : goal.returns-clause-round
returns-clause-round c =
    let its = c.in_ok-take_in.ensures in (
      length c.args.recorder.now.log - length c.take_in.new.recorder.log,
      few c.args.recorder.now c.take_in.new.recorder _ c.args.most its.taken.within its.taken.rest its.taken.at_most,
      c.in_ok-round.ensures.round ∙ ap (λ (w : Written). round_now w c.args.time) its.value,
    )

pub returns-clause-all : goal.returns-clause-all
returns-clause-all c =
    let first = c.in_ok-take_in.ensures in
    let second = c.in_ok-take_in-2.ensures in
    two_pieces _ _ _ _ _ _ _ _ first.taken.within first.taken.rest second.taken.within second.taken.rest
    (ap (λ (w : Written). w.tally) c.in_ok-round.ensures.value ∙ ap (λ (w : Written). w.tally) first.value) (ap (λ (w : Written). w.tally) second.value)
