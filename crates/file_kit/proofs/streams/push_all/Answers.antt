use Rattle.std.proofs.Common.{◌≡◌, ◌∙◌, ◌++◌, ℕ, List, Some, ap, sym, slice_get, string_bytes, arith}
use Rattle.point_kit.specs.declared.stream.Stream.{Stream}
use Rattle.file_kit.specs.Shown.{stream_text}
use Rattle.rollup_kit.proofs.Joined.{past_end}
use Rattle.file_kit.proofs.Pieces.{mapped_step}
use Rattle.file_kit.proofs.streams.push_all.Goals as goal
use Rattle.file_kit.proofs.streams.push_all.Goals.{in-Some+in_ok-push_table, in_default}

pub loop-place-preserved : goal.loop-place-preserved
loop-place-preserved c =
    let ss : List Stream = c.args.seen.now.keys in
    let i = c.loop-place.place in
    elim c.match-get_index.branch [
      | in-Some+in_ok-push_table w ↦
          let here : slice_get ss i ≡ Some w.in-Some.stream.now = sym w.in-Some.ensures.key in
          rw w.text-is (
          w.in_ok-push_table.ensures
          ∙ ap (λ (l : List ℕ). l ++ stream_text c.args.gateway.now.points w.in-Some.stream.now) c.loop-place.invariant
          ∙ mapped_step (stream_text c.args.gateway.now.points) (string_bytes c.args.text.now) ss i w.in-Some.stream.now here
          )
      | in_default w ↦ absurd (past_end ss i (omega (arith, c.loop-place-test.true, c.len-place-end.ensures.len)) (sym w.in_default.ensures.key))
    ]
