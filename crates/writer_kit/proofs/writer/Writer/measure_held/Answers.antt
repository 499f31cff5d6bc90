use Rattle.std.proofs.Common.{FitsSigned, w64}
use Rattle.std.proofs.lemmas.Int.{to_z-of_z}
use Rattle.recorder_kit.specs.Log.{ByNumber}
use Rattle.writer_kit.proofs.Refusals.{told_as, short_as, none_told}
use Rattle.writer_kit.proofs.writer.Writer.measure_held.Goals as goal
use Rattle.writer_kit.proofs.writer.Writer.measure_held.Goals.{in-Ok, in-Err}

pub returns-clause-err : goal.returns-clause-err
returns-clause-err c =
    elim c.match-measure_held.branch [
      | in-Ok w ↦ none_told _ _ _ w.result-is
      | in-Err w ↦
          let small : FitsSigned w64 c.args.value = c.ranges.value in
          told_as _ _ (ByNumber c.args.number c.args.value) _ w.in-Err.fault c.self.view_is w.result-is c.if-self.false (simp to_z-of_z at w.in-Err.ensures.err)
    ]

pub returns-clause-no_memory : goal.returns-clause-no_memory
returns-clause-no_memory c =
    elim c.match-measure_held.branch [
      | in-Ok w ↦ none_told _ _ _ w.result-is
      | in-Err w ↦
          let small : FitsSigned w64 c.args.value = c.ranges.value in
          short_as _ _ (ByNumber c.args.number c.args.value) _ w.in-Err.fault c.self.view_is w.result-is c.if-self.false (simp to_z-of_z at w.in-Err.ensures.no_memory)
    ]
