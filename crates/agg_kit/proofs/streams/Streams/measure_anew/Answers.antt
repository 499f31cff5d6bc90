use Rattle.std.proofs.Common.{ℕ, List, sym, subst, FitsSigned, w64}
use Rattle.std.proofs.lemmas.Int.{to_z-of_z}
use Rattle.agg_kit.specs.Entries.{Entry, entry_of}
use Rattle.plan_kit.specs.Plans.{feeds_of}
use Rattle.agg_kit.specs.Held.{AreKnown}
use Rattle.agg_kit.proofs.HeldPoints.{each-known, of-measured, own-known}
use Rattle.agg_kit.proofs.streams.Streams.measure_anew.Goals as goal

pub measure_own-requires-clause-fed : goal.measure_own-requires-clause-fed
measure_own-requires-clause-fed c = (own-known c.args.self.now c.args.instrument c.args.attrs.now c.find_places.new.places c.in-Some.own c.in-Some.is c.find_places.ensures.known).0

pub measure_own-requires-clause-own : goal.measure_own-requires-clause-own
measure_own-requires-clause-own c = (own-known c.args.self.now c.args.instrument c.args.attrs.now c.find_places.new.places c.in-Some.own c.in-Some.is c.find_places.ensures.known).1

pub returns-in-Some-clause-places : goal.returns-in-Some-clause-places
returns-in-Some-clause-places c =
    let fit : FitsSigned w64 c.args.value = c.ranges.value in
    let e : Entry = entry_of c.args.instrument c.args.attrs.now c.args.value in
    of-measured c.args.self.now c.measure_own.new.self e c.measure_own.result (simp to_z-of_z at c.measure_own.ensures.measured) c.args.instrument c.args.attrs.now c.find_places.new.places c.find_places.ensures.known

pub measure_by-told-requires : goal.measure_by-told-requires
measure_by-told-requires c =
    let t = c.args.self.now in
    subst (λ (is : List ℕ). AreKnown t.plan (feeds_of t.plan c.args.instrument) is c.args.attrs.now t.series) (sym c.as_slice.ensures.value)
    (each-known t c.args.instrument c.args.attrs.now c.find_places.new.places c.find_places.ensures.known)

pub find_places-requires-2 : goal.find_places-requires-2
find_places-requires-2 c =
    let fit : FitsSigned w64 c.args.value = c.ranges.value in
    let e : Entry = entry_of c.args.instrument c.args.attrs.now c.args.value in
    of-measured c.args.self.now c.measure_by-told.new.self e c.measure_by-told.result (simp to_z-of_z at c.measure_by-told.ensures.measured) c.args.instrument c.args.attrs.now c.find_places.new.places c.find_places.ensures.known
