-- The export of a closed writer has the round of its jobs' entries in some order.
use Rattle.std.proofs.Common.{◌≡◌, ℕ, ◌+◌, List, [], ap, ◌∙◌}
use Rattle.std.specs.Prelude.{Result, Ok, Err, IfOk}
use Rattle.agg_kit.specs.Entries.{Entry}
use Rattle.agg_kit.specs.Rounds.{round}
use Rattle.plan_kit.specs.Plans.{Planned}
use Rattle.point_kit.specs.declared.export.Export.{Export}
use Rattle.round_kit.specs.Rounds.{points_of}
use Rattle.round_kit.specs.Rounds as rounds
use Rattle.schedule_kit.specs.Totals.{total}
use Rattle.turn_kit.specs.declared.seat.Seat.{Seat}
use Rattle.turn_kit.specs.Public.{joined, made, mine, number, seen, Closes}
use Rattle.writer_kit.specs.Following.{Follows}
use Rattle.writer_kit.specs.Recording.{round_now}
use Rattle.writer_kit.specs.Shared.{History, Serves, after_writer_change, entries_of}
use Rattle.writer_kit.specs.Written.{Written}
use Rattle.writer_kit.specs.declared.shared.change.WriterChange.{WriterChange}
use Rattle.fleet_kit.specs.Collected.{IsCopyOf, IsRoundOfMixed}
use Rattle.fleet_kit.specs.Recorded.{Brings}
use Rattle.fleet_kit.proofs.Recorded.{closed_mixed}

-- an export that a writer's round was copied to
pub copies : (w : Written) (time : ℕ) (r : rounds.Collected) (e : Export) → r ≡ round_now w time → e.writer ≡ w.id → e.start ≡ r.start → e.time ≡ r.time → e.points ≡ r.points → IsCopyOf w time e
copies w time r e is writer start taken_at points = record {
  writer = writer;
  start = start ∙ ap (λ (x : rounds.Collected). x.start) is;
  taken_at = taken_at ∙ ap (λ (x : rounds.Collected). x.time) is;
  points = points ∙ ap (λ (x : rounds.Collected). x.points) is;
}

-- of a shared writer that was closed by a seat which made no change, and which was joined by seats that recorded these entries
pub exports_mixed : {g : _} (first : Written) (s : Seat Written WriterChange g) (w : Written) → (c : Closes (λ w. w) after_writer_change first s w) → Serves first c.history w → Follows first.start [] first
    → (time : ℕ) (e : Export) → IsCopyOf w time e → (es : List Entry) → Brings first.tally s es → IsRoundOfMixed first time es e
exports_mixed first s w c served new time e copy es brings =
    let h : History = c.history in (
      entries_of first.tally h,
      (λ f. closed_mixed first (seen s) (number s) (made s) (mine s) (joined s) w c brings.idle brings.each brings.brought f ∙ ap (total 0 ◌+◌ f) brings.all),
      record {
        writer = copy.writer ∙ served.same_id;
        start = copy.start ∙ served.same_start;
        taken_at = copy.taken_at;
        points = copy.points ∙ ap (points_of w.tally.plan.streams) (served.stands [] new.points) ∙ ap (λ (p : Planned). points_of p.streams (round p (entries_of first.tally h))) served.same_plan;
      },
    )

-- what follows from what an answer has
pub ok_then : {A E : Type 0} (r : Result A E) (P Q : A → Type 0) → ((a : A) → P a → Q a) → IfOk r P → IfOk r Q
ok_then (Ok a) P Q h p = h a p
ok_then (Err e) P Q h p = tt
