use Rattle.std.proofs.Common.{arith, ◌≡◌, ◌∙◌, ◌+◌, length, take, sym, ap, subst}
use Rattle.writer_kit.specs.Shared.{first_of}
use Rattle.fleet_kit.proofs.Runs.{all_of, if_none_of, new_recorded, noting_ended, noting_tells, part_passed, part_recorded, part_there, taking_ended}
use Rattle.fleet_kit.specs.Ends.{HasRecorded, LetPass}
use Rattle.fleet_kit.specs.Jobs.{entries}
use Rattle.fleet_kit.specs.Noting.{recorded_by_seat}
use Rattle.fleet_kit.proofs.recorders.record_all.Goals as goal

pub loop-done-init : goal.loop-done-init
loop-done-init g c =
    let first = first_of c.args.shared.now in
    (c.requires.at, ap (λ r. r.log) c.in-Ok.ensures, c.requires.fresh, new_recorded first.tally.plan first.start, (λ entry less. absurd (omega (arith, less))), omega arith, (let small = ap (λ r. r.capacity) c.in-Ok.ensures in omega (arith, small, c.min.ensures)))

pub returns-then-is_some-clause-ends : goal.returns-then-is_some-clause-ends
returns-then-is_some-clause-ends g c =
    let kept = c.loop-done.invariant in
    taking_ended (g.G.Gate.passes c.args.gate.now) c.args.number c.args.job.now c.loop-done.done c.note-stopped.new.log.log c.note-stopped.ensures.noted c.args.shared.now c.loop-done.seat kept.5 kept.2 kept.4 c.take_in-refused.result
    (sym c.is_some.ensures ∙ c.if-is_some.true) c.take_in-refused.ensures.stops

pub returns-then-is_some-2-clause-ends : goal.returns-then-is_some-2-clause-ends
returns-then-is_some-2-clause-ends g c =
    let kept = c.loop-done.invariant in
    let passes = g.G.Gate.passes c.args.gate.now in
    let first = first_of c.args.shared.now in
    let none = sym c.is_some.ensures ∙ c.if-is_some.false in
    let rs = c.note-stopped.new.log.log in
    let x = c.note-stopped.ensures.noted in
    let now = part_recorded passes c.args.number c.args.job.now c.loop-done.done rs x (recorded_by_seat c.args.shared.now c.loop-done.seat) (recorded_by_seat c.args.shared.now c.take_in-refused.new.seat) kept.2
    (if_none_of c.take_in-refused.result _ none c.take_in-refused.ensures.all) in
    let recorded = subst (HasRecorded (first_of c.args.shared.now).tally.plan (first_of c.args.shared.now).start) now (if_none_of c.take_in-refused.result _ none c.take_in-refused.ensures.recorded) in
    noting_ended passes c.args.number c.args.job.now c.loop-done.done rs x first.tally.plan first.start kept.4 recorded c.note-stopped.result (sym c.is_some-in-loop-done.ensures ∙ c.if-is_some-2.true) c.note-stopped.ensures.stops

pub loop-done-preserved : goal.loop-done-preserved
loop-done-preserved g c =
    let kept = c.loop-done.invariant in
    let passes = g.G.Gate.passes c.args.gate.now in
    let none = sym c.is_some.ensures ∙ c.if-is_some.false in
    let rs = c.note-stopped.new.log.log in
    let x = c.note-stopped.ensures.noted in
    let many : length c.note-stopped.new.log.log ≡ c.len-noted.result = sym c.len-noted.ensures in
    let next : c.loop-done.done + length c.note-stopped.new.log.log ≡ c.loop-done.done + c.len-noted.result = ap (λ m. c.loop-done.done + m) many in
    let now = part_recorded passes c.args.number c.args.job.now c.loop-done.done rs x (recorded_by_seat c.args.shared.now c.loop-done.seat) (recorded_by_seat c.args.shared.now c.take_in-refused.new.seat) kept.2
    (if_none_of c.take_in-refused.result _ none c.take_in-refused.ensures.all) ∙ ap (λ m. take m (entries c.args.job.now)) next in (
      c.take_in-refused.ensures.at,
      if_none_of c.take_in-refused.result _ none c.take_in-refused.ensures.empty,
      now,
      subst (HasRecorded (first_of c.args.shared.now).tally.plan (first_of c.args.shared.now).start) now (if_none_of c.take_in-refused.result _ none c.take_in-refused.ensures.recorded),
      subst (LetPass (g.G.Gate.passes c.args.gate.now) c.args.number) next (part_passed passes c.args.number c.args.job.now c.loop-done.done rs x kept.4),
      (let there = part_there passes c.args.number c.args.job.now c.loop-done.done rs x in omega (arith, there, many)),
      (let same = if_none_of c.take_in-refused.result _ none c.take_in-refused.ensures.capacity in omega (arith, same, c.note-stopped.ensures.capacity, kept.6)),
    )

pub returns-clause-ends : goal.returns-clause-ends
returns-clause-ends g c =
    let kept = c.loop-done.invariant in
    let most = kept.5 in
    let least = c.loop-done-test.false in (
      (λ entry less. kept.4 entry (omega (arith, less, least, most))),
      subst (HasRecorded (first_of c.args.shared.now).tally.plan (first_of c.args.shared.now).start) (all_of c.args.job.now c.loop-done.done kept.5 (omega (arith, least))) kept.3,
    )

pub returns-then-is_some-2-clause-full : goal.returns-then-is_some-2-clause-full
returns-then-is_some-2-clause-full g c =
    noting_tells (g.G.Gate.passes c.args.gate.now) c.args.number c.args.job.now (c.loop-done.done + length c.note-stopped.new.log.log) c.args.shared.now c.take_in-refused.new.seat c.note-stopped.result c.note-stopped.ensures.stops
