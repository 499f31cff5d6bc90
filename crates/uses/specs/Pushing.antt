-- How large a collection is, and how it is kept.
use Rattle.std.specs.Prelude.{◌≡◌, ℕ, List, [], ◌∷◌, ◌++◌, length}
use Rattle.point_kit.specs.declared.export.Export.{Export}
use Rattle.push_kit.specs.Pushing.{IsCollection}
use Rattle.round_kit.specs.Rounds.{points_of}
use Rattle.writer_kit.specs.Written.{Written}

-- how many points a writer has recorded since its start
abbrev pub size_of : Written → ℕ
size_of w = length (points_of w.tally.plan.streams w.tally.series)

-- behind the old copies comes the collection of a writer at a time
abbrev pub Keeps : Written → ℕ → List Export → List Export → Type 0
Keeps w time old new = (e : Export) × IsCollection w time e × (new ≡ old ++ e ∷ [])
