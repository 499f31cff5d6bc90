use Rattle.std.proofs.Common.{rules, append_assoc, pos}
use Rattle.std.specs.Fmt.{signed_decimal}
use Rattle.std.proofs.lemmas.Option.{slice_get-get_or}
use Rattle.rollup_kit.proofs.Joined.{join_step}
use Rattle.file_kit.proofs.streams.push_bounds.Goals as goal

pub loop-place-preserved : goal.loop-place-preserved
loop-place-preserved c =
    rw (join_step signed_decimal c.args.bounds.now c.loop-place.place _ (slice_get-get_or c.args.bounds.now c.loop-place.place (pos 0) c.loop-place-test.true))
    (search (rules, append_assoc))
