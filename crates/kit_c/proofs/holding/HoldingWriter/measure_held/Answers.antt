use Rattle.std.proofs.Common.{FitsSigned, w64}
use Rattle.std.proofs.lemmas.Int.{to_z-of_z}
use Rattle.kit_c.proofs.Held.{recorded}
use Rattle.recorder_kit.specs.Log.{ByNumber}
use Rattle.kit_c.proofs.holding.HoldingWriter.measure_held.Goals as goal

pub invariant_of-self : goal.invariant_of-self
invariant_of-self c =
    let small : FitsSigned w64 c.args.value = c.ranges.value in
    recorded c.self.inside.numbers.entries c.self.inside.writer c.measure_held.new.self c.measure_held.result (ByNumber c.args.number c.args.value)
    (simp to_z-of_z at c.measure_held.ensures.value) c.measure_held.ensures.unchanged c.self.invariant
