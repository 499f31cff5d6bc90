use Rattle.archive_kit.proofs.Stories.{held_shows, same_shown}
use Rattle.archive_kit.proofs.laws.same_exports_show_the_same.Goals as goal

pub returns : goal.returns
returns g c = record {
  held = λ R o anti eq laws exact names none points s h. held_shows o anti eq laws exact names none points s h;
  same = λ R o anti eq laws exact names none points s t h k same. same_shown o anti eq laws exact names none points s t h k same;
}
