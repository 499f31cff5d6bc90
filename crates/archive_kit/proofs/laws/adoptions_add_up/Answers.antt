use Rattle.archive_kit.specs.Archive.{points_held}
use Rattle.archive_kit.proofs.Telling.{buckets_told}
use Rattle.archive_kit.proofs.laws.adoptions_add_up.Goals as goal

pub returns-clause-buckets : goal.returns-clause-buckets
returns-clause-buckets c = λ place asks a _ _ cells. buckets_told place asks a.totals (points_held cells)
