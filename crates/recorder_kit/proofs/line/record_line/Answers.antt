use Rattle.std.proofs.Common.{rules, sym, ap, subst, FitsSigned, w64}
use Rattle.std.proofs.lemmas.Int.{to_z-of_z}
use Rattle.recorder_kit.specs.Lines.{recording_at, IsAnswered}
use Rattle.recorder_kit.specs.Log.{Recording, ByNumber}
use Rattle.recorder_kit.specs.declared.line.Spot.{Spot}
use Rattle.recorder_kit.proofs.Known.{known-after}
use Rattle.recorder_kit.proofs.line.record_line.Goals as goal

pub returns-in-Number-clause-known : goal.returns-in-Number-clause-known
returns-in-Number-clause-known c =
    let fit : FitsSigned w64 c.args.line.now.value = search rules in
    known-after c.measure_held.result c.args.tally.now c.measure_held.new.self (ByNumber c.in-Number.number c.args.line.now.value) c.args.names.now.named.keys c.args.names.now.sets.keys c.args.places.now.items
    (simp to_z-of_z at c.measure_held.ensures.value) c.measure_held.ensures.unchanged c.requires.known

pub returns-in-Number-clause-answered : goal.returns-in-Number-clause-answered
returns-in-Number-clause-answered c =
    let fit : FitsSigned w64 c.args.line.now.value = search rules in
    let is = ap (λ (s : Spot). recording_at c.args.names.now.named.keys c.args.names.now.sets.keys s c.args.line.now.value) c.in-Number.is in
    subst (λ (x : Recording). IsAnswered c.args.tally.now c.measure_held.new.self x c.measure_held.result) (sym is) (record {
      ok = simp to_z-of_z at c.measure_held.ensures.ok;
      value = simp to_z-of_z at c.measure_held.ensures.value;
      err = simp to_z-of_z at c.measure_held.ensures.err;
      no_memory = simp to_z-of_z at c.measure_held.ensures.no_memory;
      held = c.measure_held.ensures.held;
      unchanged = c.measure_held.ensures.unchanged;
    })
