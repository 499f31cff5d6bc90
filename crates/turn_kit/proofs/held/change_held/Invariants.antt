use Rattle.std.specs.Prelude.{Some}
use Rattle.turn_kit.proofs.held.change_held.Given as goal

abbrev pub ghosts-commit : goal.ghosts-commit
ghosts-commit g a = record { entry = Some (g.T.Step.entry a.by.now.value) }
