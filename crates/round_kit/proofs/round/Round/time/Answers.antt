use Rattle.std.proofs.Common.{◌≡◌, ◌<◌, ℕ, ap, subst, map}
use Rattle.point_kit.proofs.Sound.{sound_time}
use Rattle.round_kit.specs.Rounds.{Collected, point_of}
use Rattle.round_kit.proofs.round.Round.time.Goals as goal

pub returns-clause-after_start : goal.returns-clause-after_start
returns-clause-after_start c =
    let points = map point_of c.self.inside.points.now in
    let later : c.self.inside.start < c.self.inside.time = sound_time c.self.inside.start c.self.inside.time points c.self.invariant in
    let view : record { start = c.self.inside.start; time = c.self.inside.time; points = points } ≡ c.args.self.now = cc in
    subst (λ (start : ℕ). start < c.self.inside.time) (ap (λ (r : Collected). r.start) view) later
