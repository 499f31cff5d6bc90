use Rattle.std.proofs.Common.{sym, subst, FitsSigned, w64}
use Rattle.std.proofs.lemmas.Int.{to_z-of_z}
use Rattle.agg_kit.specs.Entries.{Entry, entry_of}
use Rattle.agg_kit.specs.Held.{held_of, AreOf}
use Rattle.agg_kit.specs.Tallies.{Tallied}
use Rattle.agg_kit.proofs.HeldPoints.{kept-measured}
use Rattle.agg_kit.proofs.Measured.{seen-with}
use Rattle.agg_kit.proofs.tally.Tally.measure_at.Goals as goal

pub measure_at-requires : goal.measure_at-requires
measure_at-requires c = subst (λ (t : Tallied). AreOf t c.args.instrument c.args.attrs.now c.args.places.now) (sym c.self.view_is) c.requires

pub invariant_of-self : goal.invariant_of-self
invariant_of-self c =
    let fit : FitsSigned w64 c.args.value = c.ranges.value in
    let e : Entry = entry_of c.args.instrument c.args.attrs.now c.args.value in
    kept-measured c.self.inside.streams c.measure_at.new.self e c.measure_at.result c.self.inside.held.items (simp to_z-of_z at c.measure_at.ensures.measured) c.self.invariant

pub returns-clause-measured : goal.returns-clause-measured
returns-clause-measured c =
    let fit : FitsSigned w64 c.args.value = c.ranges.value in
    let e : Entry = entry_of c.args.instrument c.args.attrs.now c.args.value in
    seen-with c.self.inside.streams c.measure_at.new.self c.args.self.now e c.measure_at.result (held_of c.self.inside.held.items) c.self.view_is (simp to_z-of_z at c.measure_at.ensures.measured)
