use Rattle.std.specs.Prelude.{Some}
use Rattle.turn_kit.proofs.step_mut.change_held_mut.Given as goal

abbrev pub ghosts-commit : goal.ghosts-commit
ghosts-commit g a = record { entry = Some (g.T.StepMut.entry a.by.now.0.value a.by.now.1.value) }
