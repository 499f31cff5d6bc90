use Rattle.std.proofs.Common.{FitsSigned, w64}
use Rattle.std.proofs.lemmas.Int.{to_z-of_z}
use Rattle.agg_kit.specs.Entries.{Entry, entry_of}
use Rattle.agg_kit.proofs.HeldPoints.{of-measured, own-known}
use Rattle.agg_kit.proofs.streams.Streams.measure_at.Goals as goal

pub measure_own-requires-clause-fed : goal.measure_own-requires-clause-fed
measure_own-requires-clause-fed c = (own-known c.args.self.now c.args.instrument c.args.attrs.now c.args.places.now c.in-Some.own c.in-Some.is c.requires).0

pub measure_own-requires-clause-own : goal.measure_own-requires-clause-own
measure_own-requires-clause-own c = (own-known c.args.self.now c.args.instrument c.args.attrs.now c.args.places.now c.in-Some.own c.in-Some.is c.requires).1

pub returns-in-Some-clause-places : goal.returns-in-Some-clause-places
returns-in-Some-clause-places c =
    let fit : FitsSigned w64 c.args.value = c.ranges.value in
    let e : Entry = entry_of c.args.instrument c.args.attrs.now c.args.value in
    of-measured c.args.self.now c.measure_own.new.self e c.measure_own.result (simp to_z-of_z at c.measure_own.ensures.measured) c.args.instrument c.args.attrs.now c.args.places.now c.requires
