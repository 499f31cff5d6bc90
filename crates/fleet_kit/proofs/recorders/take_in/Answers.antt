use Rattle.std.proofs.Common.{rules, arith, ◌≡◌, [], ap, refl}
use Rattle.recorder_kit.specs.Log.{Logged}
use Rattle.fleet_kit.proofs.Noting.{full_history, now_has_recorded, takes_all, takes_not, takes_part}
use Rattle.fleet_kit.proofs.Runs.{within}
use Rattle.fleet_kit.proofs.recorders.take_in.Goals as goal

pub overflow_add-result : goal.overflow_add-result
overflow_add-result g c =
    let own = c.requires.at.1 in
    let some = c.requires.noted in
    let r = takes_not c.args.shared.now c.args.seat.now c.take_in.new.seat c.args.log.now c.take_in.new.recorder 18446744073709551615 c.in-Ok.taken own c.in-Ok.ensures.ok c.requires.new c.in-Some.first.0 c.in-Some.first.1 c.in-Some.is some.0 some.1 in
    let less = within some.0 c.in-Some.first.0 r.0 r.1 in
    let room = some.2 in
    omega (arith, less, room)

pub returns-in-Some-clause-stops : goal.returns-in-Some-clause-stops
returns-in-Some-clause-stops g c es is =
    let own = c.requires.at.1 in
    let r = takes_not c.args.shared.now c.args.seat.now c.take_in.new.seat c.args.log.now c.take_in.new.recorder 18446744073709551615 c.in-Ok.taken own c.in-Ok.ensures.ok c.requires.new c.in-Some.first.0 c.in-Some.first.1 c.in-Some.is es is in
    (refl, c.in-Some.first.0, refl, r.0, r.1, r.2)

pub returns-then-is_empty-clause-all : goal.returns-then-is_empty-clause-all
returns-then-is_empty-clause-all g c es is =
    let own = c.requires.at.1 in
    let empty : c.take_in.new.recorder.log ≡ [] = search rules in
    takes_all c.args.shared.now c.args.seat.now c.take_in.new.seat c.args.log.now c.take_in.new.recorder 18446744073709551615 c.in-Ok.taken own c.in-Ok.ensures.ok c.in_default-first.is empty es is

pub returns-then-is_empty-clause-recorded : goal.returns-then-is_empty-clause-recorded
returns-then-is_empty-clause-recorded g c =
    let own = c.requires.at.1 in
    now_has_recorded c.args.shared.now c.args.seat.now c.take_in.new.seat c.args.log.now c.take_in.new.recorder 18446744073709551615 c.in-Ok.taken own c.in-Ok.ensures.ok c.requires.new

pub returns-in_default-clause-full : goal.returns-in_default-clause-full
returns-in_default-clause-full g c none =
    full_history c.args.shared.now c.args.seat.now c.take_in.new.seat c.take_in.result c.requires.new c.in_default.not-Ok c.take_in.ensures.busy c.take_in.ensures.exhausted c.take_in.ensures.refused

pub returns-then-is_empty-clause-capacity : goal.returns-then-is_empty-clause-capacity
returns-then-is_empty-clause-capacity g c = ap (λ (l : Logged). l.capacity) c.in-Ok.ensures.ok.reply.rest

pub returns-else-is_empty-clause-memory : goal.returns-else-is_empty-clause-memory
returns-else-is_empty-clause-memory g c = λ told es is.
    let own = c.requires.at.1 in
    let left : c.take_in.new.recorder.log ≡ [] → ⊥ = search rules in
    takes_part c.args.shared.now c.args.seat.now c.take_in.new.seat c.args.log.now c.take_in.new.recorder 18446744073709551615 c.in-Ok.taken own c.in-Ok.ensures.ok c.in_default-first.is left es is
