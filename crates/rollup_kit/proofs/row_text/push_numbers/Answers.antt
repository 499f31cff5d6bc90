use Rattle.std.proofs.Common.{rules, append_assoc}
use Rattle.std.specs.Fmt.{decimal}
use Rattle.std.proofs.lemmas.Option.{slice_get-get_or}
use Rattle.rollup_kit.proofs.Joined.{join_step}
use Rattle.rollup_kit.proofs.row_text.push_numbers.Goals as goal

pub loop-place-preserved : goal.loop-place-preserved
loop-place-preserved c =
    rw (join_step decimal c.args.numbers.now c.loop-place.place _ (slice_get-get_or c.args.numbers.now c.loop-place.place 0 c.loop-place-test.true))
    (search (rules, append_assoc))
