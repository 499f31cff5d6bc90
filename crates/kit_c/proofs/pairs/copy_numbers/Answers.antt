use Rattle.std.proofs.Common.{sym, arith}
use Rattle.kit_c.proofs.Numbers.{copied_more, none_there}
use Rattle.kit_c.proofs.pairs.copy_numbers.Goals as goal
use Rattle.kit_c.proofs.pairs.copy_numbers.Goals.{in-Some+in_ok-note_copy, in_default}

pub loop-place-preserved : goal.loop-place-preserved
loop-place-preserved c =
    let es = c.args.numbers.now.entries in
    elim c.match-get_index.branch [
      | in-Some+in_ok-note_copy w ↦ rw w.copy-is (copied_more es c.loop-place.copy.entries w.note_copy.new.numbers.entries c.loop-place.place w.in-Some.pair.now w.in-Some.number.now c.len.ensures.unique (sym w.in-Some.ensures.entry) c.loop-place.invariant w.in_ok-note_copy.ensures)
      | in_default w ↦ absurd (none_there es c.loop-place.place (omega (arith, c.loop-place-test.true, c.len.ensures.len)) (sym w.in_default.ensures.entry))
    ]
