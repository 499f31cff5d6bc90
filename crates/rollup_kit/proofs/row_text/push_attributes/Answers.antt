use Rattle.std.proofs.Common.{◌≡◌, sym, rules, append_assoc, arith, Some}
use Rattle.std.specs.List.{slice_get}
use Rattle.rollup_kit.specs.RowText.{pair_text}
use Rattle.rollup_kit.proofs.Joined.{join_step, past_end}
use Rattle.rollup_kit.proofs.row_text.push_attributes.Goals as goal
use Rattle.rollup_kit.proofs.row_text.push_attributes.Goals.{in-Some+in_ok-push_str+in_ok-push_key+in_ok-push-2+in_ok-push_value, in_default}

pub loop-place-preserved : goal.loop-place-preserved
loop-place-preserved c =
    elim c.match-pair.branch [
      | in-Some+in_ok-push_str+in_ok-push_key+in_ok-push-2+in_ok-push_value w ↦
          let here : slice_get c.args.attrs.now c.loop-place.place ≡ Some w.in-Some.field-0.now = sym w.in-Some.ensures in
          rw (join_step pair_text c.args.attrs.now c.loop-place.place w.in-Some.field-0.now here) (search (rules, append_assoc))
      | in_default w ↦ absurd (past_end c.args.attrs.now c.loop-place.place (omega arith) (sym w.in_default.ensures))
    ]
