-- An export that a writer's round was copied to.
use Rattle.std.proofs.Common.{◌≡◌, ◌∙◌, ℕ, None, ap}
use Rattle.point_kit.specs.declared.export.Export.{Export}
use Rattle.round_kit.specs.Rounds as rounds
use Rattle.world_kit.specs.Copying.{Copies}
use Rattle.writer_kit.specs.Recording.{round_now}
use Rattle.writer_kit.specs.Refusals.{collect_fault}
use Rattle.writer_kit.specs.Written.{Written}

pub copies : (w : Written) (time : ℕ) (r : rounds.Collected) (e : Export) → collect_fault w time ≡ None → r ≡ round_now w time → e.writer ≡ w.id → e.start ≡ r.start → e.time ≡ r.time → e.points ≡ r.points → Copies w time e
copies w time r e accepted is writer start taken_at points = record {
  accepted = accepted;
  writer = writer;
  start = start ∙ ap (λ (x : rounds.Collected). x.start) is;
  taken_at = taken_at ∙ ap (λ (x : rounds.Collected). x.time) is;
  points = points ∙ ap (λ (x : rounds.Collected). x.points) is;
}
