use Rattle.std.proofs.Common.{rules, ◌≡◌, refl, ap, subst, Some}
use Rattle.turn_kit.specs.TableSeats.{Grows}
use Rattle.turn_kit.proofs.Changes.{taken, hand1, whole4, who4, changed, idle4, idle1, owns4}
use Rattle.turn_kit.proofs.step_mut.change_held_mut.Goals as goal

pub returns-then-count-limit-clause-table_seat : goal.returns-then-count-limit-clause-table_seat
returns-then-count-limit-clause-table_seat g c = (search rules, idle1 g.M.Machine.state g.M.Machine.after _ _ _ c.count.ensures.told c.count.new.table_seat.me (λ i. c.count.new.table_seat.me.0) _ c.give.ensures.told)

pub step_in_place_mut-requires-clause-hand : goal.step_in_place_mut-requires-clause-hand
step_in_place_mut-requires-clause-hand g c = let f = c.count.ensures.told in (f.x, hand1 g.M.Machine.state g.M.Machine.after _ _ _ f)

pub give-requires-in-Ok : goal.give-requires-in-Ok
give-requires-in-Ok g c = let s = g.M.Machine.state in let n = g.M.Machine.after in let f = c.count.ensures.told in let d = c.in-Ok.ensures.did in
    let did = subst (λ z. n (s z) (g.T.StepMut.entry c.args.step.now c.step_in_place_mut.new.step) ≡ Some (s d.y)) (taken s n _ _ _ f _ d.found) d.answer.0 in let same : c.of-before.result.value ≡ c.args.step.now = c.of-before.ensures in
    let left : c.of.result.value ≡ c.step_in_place_mut.new.step = c.of.ensures in
    let told = subst (λ st. Grows (g.T.StepMut.entry st c.step_in_place_mut.new.step) c.step_in_place_mut.new.table_seat.me c.commit.new.table_seat.me) same
    (subst (λ st. Grows (g.T.StepMut.entry c.of-before.result.value st) c.step_in_place_mut.new.table_seat.me c.commit.new.table_seat.me) left (c.commit.ensures.told _ refl)) in
    record { table_seat = search rules; seated = who4 s n _ _ _ f _ _ d.left _ did _ told; whole = whole4 s n _ _ _ f _ _ d.left _ did _ told }

pub returns-in-Ok-clause-table_seat : goal.returns-in-Ok-clause-table_seat
returns-in-Ok-clause-table_seat g c = let s = g.M.Machine.state in let n = g.M.Machine.after in let f = c.count.ensures.told in let d = c.in-Ok.ensures.did in
    let did = subst (λ z. n (s z) (g.T.StepMut.entry c.args.step.now c.step_in_place_mut.new.step) ≡ Some (s d.y)) (taken s n _ _ _ f _ d.found) d.answer.0 in let same : c.of-before.result.value ≡ c.args.step.now = c.of-before.ensures in
    let left : c.of.result.value ≡ c.step_in_place_mut.new.step = c.of.ensures in
    let told = subst (λ st. Grows (g.T.StepMut.entry st c.step_in_place_mut.new.step) c.step_in_place_mut.new.table_seat.me c.commit.new.table_seat.me) same
    (subst (λ st. Grows (g.T.StepMut.entry c.of-before.result.value st) c.step_in_place_mut.new.table_seat.me c.commit.new.table_seat.me) left (c.commit.ensures.told _ refl)) in
    (search rules, idle4 s n _ _ _ f _ _ d.left _ did _ told _ c.give-in-Ok.ensures.told)

pub returns-in-Ok-clause-answer : goal.returns-in-Ok-clause-answer
returns-in-Ok-clause-answer g c = let s = g.M.Machine.state in let n = g.M.Machine.after in let f = c.count.ensures.told in let d = c.in-Ok.ensures.did in
    let was = taken s n _ _ _ f _ d.found in let did = subst (λ z. n (s z) (g.T.StepMut.entry c.args.step.now c.step_in_place_mut.new.step) ≡ Some (s d.y)) was d.answer.0 in let same : c.of-before.result.value ≡ c.args.step.now = c.of-before.ensures in
    let left : c.of.result.value ≡ c.step_in_place_mut.new.step = c.of.ensures in
    let told = subst (λ st. Grows (g.T.StepMut.entry st c.step_in_place_mut.new.step) c.step_in_place_mut.new.table_seat.me c.commit.new.table_seat.me) same
    (subst (λ st. Grows (g.T.StepMut.entry c.of-before.result.value st) c.step_in_place_mut.new.table_seat.me c.commit.new.table_seat.me) left (c.commit.ensures.told _ refl)) in
    (f.x, changed s n _ _ _ f _ _ d.left _ did _ told _ c.give-in-Ok.ensures.told (search rules), subst (λ z. g.T.StepMut.replies c.args.step.now z c.in-Ok.reply c.step_in_place_mut.new.step) was d.answer.1)

pub returns-in-Ok-clause-own : goal.returns-in-Ok-clause-own
returns-in-Ok-clause-own g c = let s = g.M.Machine.state in let n = g.M.Machine.after in let f = c.count.ensures.told in let d = c.in-Ok.ensures.did in
    let did = subst (λ z. n (s z) (g.T.StepMut.entry c.args.step.now c.step_in_place_mut.new.step) ≡ Some (s d.y)) (taken s n _ _ _ f _ d.found) d.answer.0 in let same : c.of-before.result.value ≡ c.args.step.now = c.of-before.ensures in
    let left : c.of.result.value ≡ c.step_in_place_mut.new.step = c.of.ensures in
    let told = subst (λ st. Grows (g.T.StepMut.entry st c.step_in_place_mut.new.step) c.step_in_place_mut.new.table_seat.me c.commit.new.table_seat.me) same
    (subst (λ st. Grows (g.T.StepMut.entry c.of-before.result.value st) c.step_in_place_mut.new.table_seat.me c.commit.new.table_seat.me) left (c.commit.ensures.told _ refl)) in
    owns4 s n _ _ _ f _ _ d.left _ did _ told _ c.give-in-Ok.ensures.told

pub returns-in-Err-clause-table_seat : goal.returns-in-Err-clause-table_seat
returns-in-Err-clause-table_seat g c = let f = c.count.ensures.told in (search rules, idle1 g.M.Machine.state g.M.Machine.after _ _ _ f c.step_in_place_mut.new.table_seat.me (ap (λ m. m.0) c.in-Err.ensures.did.left) _ c.give-in-Err.ensures.told)
