use Rattle.std.proofs.Common.{FitsSigned, w64}
use Rattle.std.proofs.lemmas.Int.{to_z-of_z}
use Rattle.agg_kit.specs.Entries.{Entry, entry_of}
use Rattle.agg_kit.specs.Held.{held_of}
use Rattle.agg_kit.proofs.HeldPoints.{kept-measured}
use Rattle.agg_kit.proofs.Measured.{seen-with}
use Rattle.agg_kit.proofs.tally.Tally.measure.Goals as goal

pub invariant_of-self : goal.invariant_of-self
invariant_of-self c =
    let fit : FitsSigned w64 c.args.value = c.ranges.value in
    let e : Entry = entry_of c.args.instrument c.args.attrs.now c.args.value in
    kept-measured c.self.inside.streams c.measure_by.new.self e c.measure_by.result c.self.inside.held.items (simp to_z-of_z at c.measure_by.ensures.measured) c.self.invariant

pub returns : goal.returns
returns c =
    let fit : FitsSigned w64 c.args.value = c.ranges.value in
    let e : Entry = entry_of c.args.instrument c.args.attrs.now c.args.value in
    let m = seen-with c.self.inside.streams c.measure_by.new.self c.args.self.now e c.measure_by.result (held_of c.self.inside.held.items) c.self.view_is (simp to_z-of_z at c.measure_by.ensures.measured) in
    record { ok = m.ok; value = m.value; err = m.err; no_memory = m.no_memory; held = m.held; unchanged = m.unchanged }
