use Rattle.turn_kit.proofs.Changes.{answered_before}
use Rattle.turn_kit.proofs.Publicly.{at_ok, at_exhausted, at_refused}
use Rattle.turn_kit.proofs.step_mut.Turn+M.change_mut.Goals as goal

pub returns-clause-ok : goal.returns-clause-ok
returns-clause-ok g c = let e = g.T.StepMut.entry c.args.step.now c.change_held_mut.new.step in let yes : g.row.M.Denot → g.row.T-Reply.Denot → Type 0 = λ m r. g.T.StepMut.replies c.args.step.now m r c.change_held_mut.new.step in let no_ = g.T.StepMut.refuses c.args.step.now in let r = c.change_held_mut.result in
    let told = answered_before g.M.Machine.state g.M.Machine.after c.args.seat.now.table_seat.me c.ask_until.new.table_seat.me c.ask_until.ensures.turn ⊥ ⊥ c.change_held_mut.new.table_seat.me.0 e yes no_ r (λ none. none) c.change_held_mut.ensures.answer in
    at_ok g.M.Machine.state g.M.Machine.after _ _ c.args.seat.now _ c.requires.1 c.requires.2 ⊥ e yes no_ r told

pub returns-clause-exhausted : goal.returns-clause-exhausted
returns-clause-exhausted g c = let e = g.T.StepMut.entry c.args.step.now c.change_held_mut.new.step in let yes : g.row.M.Denot → g.row.T-Reply.Denot → Type 0 = λ m r. g.T.StepMut.replies c.args.step.now m r c.change_held_mut.new.step in let no_ = g.T.StepMut.refuses c.args.step.now in let r = c.change_held_mut.result in
    let told = answered_before g.M.Machine.state g.M.Machine.after c.args.seat.now.table_seat.me c.ask_until.new.table_seat.me c.ask_until.ensures.turn ⊥ ⊥ c.change_held_mut.new.table_seat.me.0 e yes no_ r (λ none. none) c.change_held_mut.ensures.answer in
    at_exhausted g.M.Machine.state g.M.Machine.after _ _ c.args.seat.now _ c.requires.1 c.requires.2 ⊥ e yes no_ r told

pub returns-clause-refused : goal.returns-clause-refused
returns-clause-refused g c = let e = g.T.StepMut.entry c.args.step.now c.change_held_mut.new.step in let yes : g.row.M.Denot → g.row.T-Reply.Denot → Type 0 = λ m r. g.T.StepMut.replies c.args.step.now m r c.change_held_mut.new.step in let no_ = g.T.StepMut.refuses c.args.step.now in let r = c.change_held_mut.result in
    let told = answered_before g.M.Machine.state g.M.Machine.after c.args.seat.now.table_seat.me c.ask_until.new.table_seat.me c.ask_until.ensures.turn ⊥ ⊥ c.change_held_mut.new.table_seat.me.0 e yes no_ r (λ none. none) c.change_held_mut.ensures.answer in
    at_refused g.M.Machine.state g.M.Machine.after _ _ c.args.seat.now _ c.requires.1 c.requires.2 ⊥ e yes no_ r told
