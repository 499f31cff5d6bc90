use Rattle.std.proofs.Common.{pos, ◌+◌, ◌+ℤ◌, refl, arith}
use Rattle.archive_kit.specs.Archive.{fresh}
use Rattle.archive_kit.specs.Telling.{bucket_told, count_told, sum_told}
use Rattle.schedule_kit.proofs.Totals.{count_sum}
use Rattle.archive_kit.proofs.Driving.{driven_asked, driven_told, points_left}
use Rattle.archive_kit.proofs.Telling.{buckets_add, counts_add, sums_add, whole_sum}
use Rattle.archive_kit.proofs.laws.exports_tell_what_was_adopted.Goals as goal

pub returns : goal.returns
returns c = record {
  points = λ w s l calls. points_left (fresh w s l) refl refl (omega arith) calls;
  keys = λ asks w s l calls. driven_asked (fresh w s l) refl refl (omega arith) asks calls;
  sums = λ asks w s l calls. driven_told (fresh w s l) refl refl (omega arith) (pos 0) ◌+ℤ◌ whole_sum sum_told sums_add (λ v. refl) asks calls;
  counts = λ asks w s l calls. driven_told (fresh w s l) refl refl (omega arith) 0 ◌+◌ count_sum count_told counts_add (λ v. refl) asks calls;
  buckets = λ k asks w s l calls. driven_told (fresh w s l) refl refl (omega arith) 0 ◌+◌ count_sum (bucket_told k) (buckets_add k) (λ v. refl) asks calls;
}
