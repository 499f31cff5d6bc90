use Rattle.std.proofs.Common.{FitsSigned, w64}
use Rattle.std.proofs.lemmas.Int.{to_z-of_z}
use Rattle.agg_kit.specs.Entries.{entry_of}
use Rattle.kit_c.proofs.Held.{recorded}
use Rattle.recorder_kit.specs.Log.{ByName}
use Rattle.kit_c.proofs.holding.HoldingWriter.measure.Goals as goal

pub invariant_of-self : goal.invariant_of-self
invariant_of-self c =
    let small : FitsSigned w64 c.args.value = c.ranges.value in
    recorded c.self.inside.numbers.entries c.self.inside.writer c.measure.new.self c.measure.result (ByName (entry_of c.args.instrument c.args.attrs.now c.args.value))
    (simp to_z-of_z at c.measure.ensures.value) c.measure.ensures.unchanged c.self.invariant
