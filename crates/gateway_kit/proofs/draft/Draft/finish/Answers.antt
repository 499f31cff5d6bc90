use Rattle.std.proofs.Common.{◌≡◌, ◌+◌, ◌≤◌, ◌⊎◌, inl, inr, map, length, vec_capacity, ap, arith}
use lib.ListN.{length-map}
use Rattle.std.proofs.lemmas.Grind.{common_steps}
use Rattle.std.proofs.lemmas.List.Sorted.{length_permutation}
use Rattle.gateway_kit.specs.Keys.{keyed_cell_of}
use Rattle.gateway_kit.proofs.Finishing.{prepared}
use Rattle.gateway_kit.proofs.draft.Draft.finish.Goals as goal
use Rattle.gateway_kit.proofs.draft.Draft.finish.Goals.{then-is_empty, else-is_empty+in_ok-room}

pub returns : goal.returns
returns c =
    let room : (length (map keyed_cell_of c.args.items.now) + length c.in_ok-fresh.fresh.items ≤ vec_capacity c.if-is_empty.room) ⊎ (length c.in_ok-fresh.fresh.items ≡ 0) = elim c.if-is_empty.branch [
      | then-is_empty w ↦ inr (grind (arith, common_steps))
      | else-is_empty+in_ok-room w ↦ (let roomy : vec_capacity c.if-is_empty.room ≡ vec_capacity w.in_ok-room.room = ap vec_capacity w.room-is in let n : length (map keyed_cell_of c.args.items.now) ≡ length c.args.items.now = length-map c.args.items.now keyed_cell_of in inl (grind (arith, common_steps)))
    ] in
    λ came sorted drafts. prepared (map keyed_cell_of c.args.items.now) came _ c.args.self.fresh.items sorted c.in_ok-fresh.ensures.same (length_permutation _ _ c.in_ok-fresh.ensures.moved) room drafts
