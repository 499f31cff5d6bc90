use Rattle.uses.proofs.Logs.{three_noted, three_taken}
use Rattle.uses.proofs.taking_in.record_but_one.Goals as goal

pub returns-clause-told : goal.returns-clause-told
returns-clause-told c =
    let attrs = c.args.attrs.now in
    let noted = three_noted attrs _ _ _ _ c.in_ok-recorder.ensures c.in_ok-measure.ensures.value c.in_ok-measure-2.ensures.value c.in_ok-measure-3.ensures.value in
    let its = c.in_ok-take_in.ensures in
    λ two. (three_taken attrs _ _ _ _ _ _ c.requires noted its.taken its.value two).0

pub returns-clause-value : goal.returns-clause-value
returns-clause-value c =
    let attrs = c.args.attrs.now in
    let noted = three_noted attrs _ _ _ _ c.in_ok-recorder.ensures c.in_ok-measure.ensures.value c.in_ok-measure-2.ensures.value c.in_ok-measure-3.ensures.value in
    let its = c.in_ok-take_in.ensures in
    λ two. (three_taken attrs _ _ _ _ _ _ c.requires noted its.taken its.value two).1
