-- What a collection after two recordings covers.
use Rattle.std.proofs.Common.{◌≡◌, ◌∙◌, pos, List, [], ◌∷◌, None, ap, subst, sym}
use Rattle.agg_kit.specs.Entries.{Entry, entry_of}
use Rattle.agg_kit.specs.Rounds.{round}
use Rattle.attr_kit.specs.declared.attr_set.AttrSet.{AttrSet}
use Rattle.plan_kit.specs.Plans.{Planned}
use Rattle.point_kit.specs.declared.export.Export.{Export}
use Rattle.point_kit.specs.declared.writer_id.WriterId.{WriterId}
use Rattle.round_kit.specs.Rounds.{points_of}
use Rattle.round_kit.specs.Rounds as rounds
use Rattle.recorder_kit.specs.Log.{ByName}
use Rattle.schedule_kit.specs.Schedule.{Act}
use Rattle.schedule_kit.specs.Schedule.Act.{Measured}
use Rattle.writer_kit.specs.Following.{Follows, round_of}
use Rattle.writer_kit.proofs.Following.{measures, rounds_of}
use Rattle.writer_kit.specs.Recording.{after_record, round_now}
use Rattle.writer_kit.specs.Refusals.{fault_now}
use Rattle.writer_kit.specs.Written.{Written}
use Rattle.uses.specs.Exporting.{Covers, three_and_four}

-- the events of two recordings, the newest first
abbrev pub both_measured : AttrSet → List (Act Entry)
both_measured attrs = Measured (entry_of 0 attrs (pos 4)) ∷ Measured (entry_of 0 attrs (pos 3)) ∷ []

-- a recording leaves the plan
recorded_plan : (w v : Written) (e : Entry) → v ≡ after_record w (ByName e) → v.tally.plan ≡ w.tally.plan
recorded_plan w v e is = ap (λ (x : Written). x.tally.plan) is

-- a writer that follows events follows after an accepted recording these and one more
also_follows : (acts : List (Act Entry)) (w v : Written) (e : Entry) → Follows 100 acts w → fault_now w (ByName e) ≡ None → v ≡ after_record w (ByName e) → Follows 100 (Measured e ∷ acts) v
also_follows acts w v e follows fits is = subst (Follows 100 (Measured e ∷ acts)) (sym is) (measures 100 acts w e follows fits)

pub covered : (id : WriterId) (plan : Planned) (attrs : AttrSet) (w one both : Written) (r : rounds.Collected) (e : Export)
    → attrs ≡ [] → w.tally.plan ≡ plan → Follows 100 [] w
    → fault_now w (ByName (entry_of 0 attrs (pos 3))) ≡ None → one ≡ after_record w (ByName (entry_of 0 attrs (pos 3)))
    → fault_now one (ByName (entry_of 0 attrs (pos 4))) ≡ None → both ≡ after_record one (ByName (entry_of 0 attrs (pos 4)))
    → r ≡ round_now both 200 → e.writer ≡ id → e.start ≡ r.start → e.time ≡ r.time → e.points ≡ r.points → Covers id plan 100 200 (three_and_four []) e
covered id plan attrs w one both r e none planned follows three first four second collects writer start time points =
    let once = also_follows [] w one (entry_of 0 attrs (pos 3)) follows three first in
    let twice = also_follows (Measured (entry_of 0 attrs (pos 3)) ∷ []) one both (entry_of 0 attrs (pos 4)) once four second in
    let same : both.tally.plan ≡ plan = recorded_plan one both (entry_of 0 attrs (pos 4)) second ∙ recorded_plan w one (entry_of 0 attrs (pos 3)) first ∙ planned in
    let is : r ≡ round_of both.tally.plan (record { start = 100; time = 200; entries = three_and_four attrs }) = collects ∙ rounds_of 100 (both_measured attrs) both 200 twice in
    record {
      same_writer = writer;
      starts = start ∙ ap (λ (c : rounds.Collected). c.start) is;
      taken_at = time ∙ ap (λ (c : rounds.Collected). c.time) is;
      points =
          points ∙ ap (λ (c : rounds.Collected). c.points) is ∙ ap (λ (p : Planned). points_of p.streams (round p (three_and_four attrs))) same
          ∙ ap (λ s. points_of plan.streams (round plan (three_and_four s))) none;
    }
