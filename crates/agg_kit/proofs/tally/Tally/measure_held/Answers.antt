use Rattle.std.proofs.Common.{◌∙◌, ◌<◌, ℕ, arith, length, refl, sym, FitsSigned, w64}
use Rattle.std.proofs.lemmas.Int.{to_z-of_z}
use Rattle.attr_kit.specs.declared.attr_set.AttrSet.{AttrSet}
use Rattle.plan_kit.specs.Plans.{feeds_of}
use Rattle.agg_kit.specs.Entries.{Entry, entry_of}
use Rattle.agg_kit.specs.Held.{held_of}
use Rattle.agg_kit.specs.Tallies.{Tallied}
use Rattle.agg_kit.specs.declared.held.HeldPoint.{HeldPoint}
use Rattle.agg_kit.proofs.HeldPoints.{held-after, held-early, held-fault, held-here, held-set, kept-measured, placed-set, room-kept, room-set, shown-at}
use Rattle.agg_kit.proofs.Measured.{seen-with}
use Rattle.agg_kit.proofs.Records.{if_err, on_err_map, on_ok, read-there}
use Rattle.agg_kit.proofs.tally.Tally.measure_held.Goals as goal

pub measure_at-requires : goal.measure_at-requires
measure_at-requires c =
    let hs = c.self.inside.held.items in
    let h : HeldPoint = c.in-Some.point.now in
    let l : c.args.n < length hs = omega (arith, c.in-Some.ensures.variant.0 refl, c.self.inside.held.ok) in
    c.self.invariant.0 c.args.n h (read-there hs c.args.n h l c.in-Some.ensures.value)

pub invariant_of-self-2 : goal.invariant_of-self-2
invariant_of-self-2 c =
    let fit : FitsSigned w64 c.args.value = c.ranges.value in
    let hs = c.self.inside.held.items in
    let h : HeldPoint = c.in-Some.point.now in
    let l : c.args.n < length hs = omega (arith, c.in-Some.ensures.variant.0 refl, c.self.inside.held.ok) in
    let e : Entry = entry_of h.instrument h.attrs c.args.value in
    let k : HeldPoint = record { instrument = h.instrument; attrs = h.attrs; places = c.measure_at.new.places } in
    let m = simp to_z-of_z at c.measure_at.ensures.measured in
    let all = kept-measured c.self.inside.streams c.measure_at.new.self e c.measure_at.result hs m c.self.invariant in
    let fs = feeds_of c.measure_at.new.self.plan h.instrument in
    let had = all.1 c.args.n h (read-there hs c.args.n h l c.in-Some.ensures.value) in (
      placed-set c.measure_at.new.self hs c.args.n k l all.0 c.measure_at.ensures.places,
      room-set c.measure_at.new.self.plan hs c.args.n k l all.1 (room-kept fs h.places c.measure_at.new.places c.measure_at.ensures.room had),
    )

pub returns : goal.returns
returns c =
    let fit : FitsSigned w64 c.args.value = c.ranges.value in
    let n = c.args.n in
    let v = c.args.value in
    let hs = c.self.inside.held.items in
    let h : HeldPoint = c.in-Some.point.now in
    let l : n < length hs = omega (arith, c.in-Some.ensures.variant.0 refl, c.self.inside.held.ok) in
    let at = read-there hs n h l c.in-Some.ensures.value in
    let shown = shown-at hs n h at in
    let k : ℕ × AttrSet = (h.instrument, h.attrs) in
    let t : Tallied = record c.self.inside.streams { held = held_of hs } in
    let x = c.args.self.now in
    let is = c.self.view_is in
    let new : HeldPoint = record { instrument = h.instrument; attrs = h.attrs; places = c.measure_at.new.places } in
    let same = held-set hs n new h at refl refl in
    let told = c.measure_at.result in
    let m = seen-with c.self.inside.streams c.measure_at.new.self t (entry_of h.instrument h.attrs v) told (held_of hs) refl (simp to_z-of_z at c.measure_at.ensures.measured) in
    let fault = held-fault t x is n v k shown in
    let early = held-early t x is n v k shown in
    let after = held-after t x is n v k shown in
    record {
      ok = on_ok _ _ told (λ none. fault ∙ none) m.ok;
      value = on_ok _ _ told (λ so. (λ i. record c.measure_at.new.self { held = same i }) ∙ so ∙ sym after) m.value;
      err = if_err _ _ told (λ f some not. fault ∙ some not) m.err;
      no_memory = if_err _ _ told (λ f none is. early ∙ none is) m.no_memory;
      held = λ all. m.held (held-here t x is n v k shown all);
      unchanged = on_err_map _ _ told (λ so. (λ i. record c.measure_at.new.self { held = same i }) ∙ so ∙ is) m.unchanged;
    }
