use Rattle.std.proofs.Common.{◌∙◌, ◌<◌, arith, length, refl, sym, ap, subst, FitsSigned, w64}
use Rattle.std.proofs.lemmas.Int.{to_z-of_z}
use Rattle.std.specs.Option.{option_copied}
use Rattle.agg_kit.specs.Entries.{entry_of}
use Rattle.recorder_kit.specs.declared.line.Spot.TheVariants.{Name}
use Rattle.recorder_kit.specs.Lines.{IsAnswered}
use Rattle.recorder_kit.specs.Log.{Recording, ByName}
use Rattle.recorder_kit.proofs.Known.{known-after, known-here, known-set}
use Rattle.recorder_kit.proofs.Logs.{named-is}
use Rattle.recorder_kit.proofs.line.record_named.Goals as goal

pub measure_at-requires : goal.measure_at-requires
measure_at-requires c =
    let name = sym c.get_index.ensures.key ∙ ap option_copied c.unwrap-pair.ensures in
    let set = sym c.get_index-2.ensures.key ∙ ap option_copied c.unwrap-set.ensures in
    let l : c.args.name < length c.args.places.now.items = omega (arith, c.in-Some.ensures.variant.0 refl, c.args.places.now.ok) in
    known-here c.args.tally.now c.args.names.now.named.keys c.args.names.now.sets.keys c.args.places.now.items c.args.name c.in-Some.at.now c.unwrap-pair.result.now c.unwrap-set.result.now name set
    l c.in-Some.ensures.value c.requires.known

pub returns-in-Some-clause-answered : goal.returns-in-Some-clause-answered
returns-in-Some-clause-answered c =
    let fit : FitsSigned w64 c.args.value = c.ranges.value in
    let name = sym c.get_index.ensures.key ∙ ap option_copied c.unwrap-pair.ensures in
    let set = sym c.get_index-2.ensures.key ∙ ap option_copied c.unwrap-set.ensures in
    let is = named-is c.args.names.now.named.keys c.args.names.now.sets.keys (record { at = Name c.args.name; value = c.args.value }) c.args.name c.unwrap-pair.result.now c.unwrap-set.result.now refl name set in
    let m = simp to_z-of_z at c.measure_at.ensures.measured in
    subst (λ (x : Recording). IsAnswered c.args.tally.now c.measure_at.new.self x c.measure_at.result) (sym is)
    (record { ok = m.ok; value = m.value; err = m.err; no_memory = m.no_memory; held = m.held; unchanged = m.unchanged })

pub returns-in-Some-clause-known : goal.returns-in-Some-clause-known
returns-in-Some-clause-known c =
    let fit : FitsSigned w64 c.args.value = c.ranges.value in
    let m = simp to_z-of_z at c.measure_at.ensures.measured in
    let name = sym c.get_index.ensures.key ∙ ap option_copied c.unwrap-pair.ensures in
    let set = sym c.get_index-2.ensures.key ∙ ap option_copied c.unwrap-set.ensures in
    let r : Recording = ByName (entry_of c.unwrap-pair.result.now.instrument c.unwrap-set.result.now c.args.value) in
    let ns = c.args.names.now.named.keys in
    let ks = c.args.names.now.sets.keys in
    let stay = known-after c.measure_at.result c.args.tally.now c.measure_at.new.self r ns ks c.args.places.now.items m.value m.unchanged c.requires.known in
    known-set c.measure_at.new.self ns ks c.args.places.now.items c.args.name c.measure_at.new.places c.unwrap-pair.result.now c.unwrap-set.result.now name set c.measure_at.ensures.places stay

pub returns-in-None-clause-answered : goal.returns-in-None-clause-answered
returns-in-None-clause-answered c =
    let fit : FitsSigned w64 c.args.value = c.ranges.value in
    let name = sym c.get_index.ensures.key ∙ ap option_copied c.unwrap-pair.ensures in
    let set = sym c.get_index-2.ensures.key ∙ ap option_copied c.unwrap-set.ensures in
    let is = named-is c.args.names.now.named.keys c.args.names.now.sets.keys (record { at = Name c.args.name; value = c.args.value }) c.args.name c.unwrap-pair.result.now c.unwrap-set.result.now refl name set in
    subst (λ (x : Recording). IsAnswered c.args.tally.now c.measure.new.self x c.measure.result) (sym is) (record {
      ok = simp to_z-of_z at c.measure.ensures.ok;
      value = simp to_z-of_z at c.measure.ensures.value;
      err = simp to_z-of_z at c.measure.ensures.err;
      no_memory = simp to_z-of_z at c.measure.ensures.no_memory;
      held = c.measure.ensures.held;
      unchanged = c.measure.ensures.unchanged;
    })

pub returns-in-None-clause-known : goal.returns-in-None-clause-known
returns-in-None-clause-known c =
    let fit : FitsSigned w64 c.args.value = c.ranges.value in
    let r : Recording = ByName (entry_of c.unwrap-pair.result.now.instrument c.unwrap-set.result.now c.args.value) in
    known-after c.measure.result c.args.tally.now c.measure.new.self r c.args.names.now.named.keys c.args.names.now.sets.keys c.args.places.now.items
    (simp to_z-of_z at c.measure.ensures.value) c.measure.ensures.unchanged c.requires.known
