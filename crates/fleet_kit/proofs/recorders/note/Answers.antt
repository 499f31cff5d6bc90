use Rattle.std.proofs.Common.{rules, arith, of_z, to_z, w64, ◌≡◌, ◌∙◌, ◌+◌, ◌<◌, ◌++◌, ◌∷◌, [], length, length-append, ap, subst, sym}
use Rattle.agg_kit.specs.Entries.{entry_of}
use Rattle.recorder_kit.specs.Log.{ByName}
use Rattle.fleet_kit.proofs.Runs.{noted_more, on_ok}
use Rattle.fleet_kit.specs.Jobs.{as_entry}
use Rattle.fleet_kit.proofs.recorders.note.Goals as goal

pub loop-place-preserved : goal.loop-place-preserved
loop-place-preserved g c =
    let kept = c.loop-place.invariant in
    let rs = c.loop-place.log.log in
    let e = c.index-entry.result.now in
    let value : to_z w64 (of_z w64 c.index-entry.result.now.2) ≡ c.index-entry.result.now.2 = search rules in
    let after = on_ok c.measure.result _ (sym c.is_err.ensures.value ∙ c.if-is_err.false) c.measure.ensures.value in
    let new : c.measure.new.self.log ≡ c.loop-place.log.log ++ ByName (as_entry c.index-entry.result.now) ∷ [] =
    ap (λ r. r.log) after
    ∙ ap (λ v. c.loop-place.log.log ++ ByName (entry_of c.index-entry.result.now.0 c.index-entry.result.now.1 v) ∷ []) value in
    let long : length (c.loop-place.log.log ++ ByName (as_entry c.index-entry.result.now) ∷ []) ≡ length c.loop-place.log.log + 1 = length-append rs (ByName (as_entry e) ∷ []) in
    let whole = ap length new in
    let place = kept.1 in
    let less : c.loop-place.place < length c.args.job.now.entries.items = search (rules, arith) in
    let passed = subst (λ b. g.G.Gate.passes c.args.gate.now c.args.number c.loop-place.place b) c.if-not-pass.false c.pass.ensures in (
      noted_more (g.G.Gate.passes c.args.gate.now) c.args.number c.args.job.now c.args.from rs c.measure.new.self.log c.loop-place.place e kept.0 kept.1 less c.index-entry.ensures passed new,
      omega (arith, long, whole, place),
      ap (λ r. r.capacity) after ∙ kept.2,
    )
