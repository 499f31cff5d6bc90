use Rattle.std.proofs.Common.{sym, ◌∙◌, Bor}
use Rattle.plan_kit.specs.declared.instrument.Instrument.{Instrument}
use Rattle.plan_kit.proofs.Owning.{owners_found, owners_new, firsts_found, firsts_new}
use Rattle.plan_kit.proofs.owners.owners.Goals as goal
use Rattle.plan_kit.proofs.owners.owners.Goals.{in-Some+in_ok-push-in-Some, in-None+in_ok-insert-in-None+in_ok-push-in-None}

pub loop-place-preserved : goal.loop-place-preserved
loop-place-preserved c =
    let instruments = c.args.instruments.now in
    let place = c.loop-place.place in
    let instrument : Instrument = c.index-instruments-place.result in
    let key : Bor Instrument = record { ref_ptr = c.args.instruments.ref_ptr; now = instrument } in
    let inside = c.loop-place-test.true in
    let at = c.index-instruments-place.is in
    elim c.match-get.branch [
      | in-Some+in_ok-push-in-Some w ↦
          let found = sym (c.loop-place.invariant.firsts key) ∙ sym w.in-Some.ensures.value in
          rw (w.firsts-is, w.owners-is) record {
            owners = owners_found instruments place instrument c.loop-place.owners.items w.push.new.self.items w.in-Some.first.now inside at c.loop-place.invariant.owners w.in_ok-push-in-Some.ensures.items found;
            firsts = λ q. c.loop-place.invariant.firsts q ∙ firsts_found q.now instruments place instrument w.in-Some.first.now inside at found;
          }
      | in-None+in_ok-insert-in-None+in_ok-push-in-None w ↦
          let none = sym (c.loop-place.invariant.firsts key) ∙ sym w.in-None.ensures.value in
          rw (w.firsts-is, w.owners-is) record {
            owners = owners_new instruments place instrument c.loop-place.owners.items w.push-in-None.new.self.items inside at c.loop-place.invariant.owners w.in_ok-push-in-None.ensures.items none;
            firsts = λ q. firsts_new q.now instruments place instrument _ _ inside at none (c.loop-place.invariant.firsts q) (w.in_ok-insert-in-None.ensures.updates.0 q);
          }
    ]
