use Rattle.std.proofs.Common.{rules, ◌≡◌, pos, to_z, of_z, w64}
use Rattle.archive_world_kit.proofs.witness.counted_point.Goals as goal
use Rattle.point_kit.specs.declared.payload.Payload.TheVariants as payloads

pub returns : goal.returns
returns c =
    let read : to_z w64 (of_z w64 c.from.result) ≡ pos c.args.total = search rules in
    λ n. record { stream = c.in_ok-stream.ensures n; attrs = c.empty.ensures n; payload = payloads.Sum (read n) }
