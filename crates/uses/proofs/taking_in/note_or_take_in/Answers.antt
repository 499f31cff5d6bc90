use Rattle.std.proofs.Common.{FitsSigned, w64, ◌∙◌, ◌++◌, ◌∷◌, [], ap}
use Rattle.std.proofs.lemmas.Int.{to_z-of_z}
use Rattle.recorder_kit.specs.Log.{ByNumber, Logged}
use Rattle.writer_kit.specs.Written.{Written}
use Rattle.uses.proofs.Logs.{noted_then}
use Rattle.uses.specs.Logs.{comes_to}
use Rattle.uses.proofs.taking_in.note_or_take_in.Goals as goal

pub returns-in_ok-measure_held-in-Err-Full : goal.returns-in_ok-measure_held-in-Err-Full
returns-in_ok-measure_held-in-Err-Full c =
    let fits : FitsSigned w64 c.args.value = c.ranges.value in
    let its = c.in_ok-take_in-in-Err-Full.ensures in
    let noted = simp to_z-of_z at c.in_ok-measure_held-in-Err-Full.ensures.value in
    noted_then _ _ _ _ _ (ByNumber c.args.number c.args.value) _ its.taken.within its.taken.rest (ap (λ (w : Written). w.tally) its.value) noted
    ∙ ap (λ (r : Logged). comes_to c.args.writer.now.tally (r.log ++ ByNumber c.args.number c.args.value ∷ [])) c.in-Err-Full.ensures.unchanged
