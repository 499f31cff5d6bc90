use Rattle.std.proofs.Common.{◌≡◌, filter, drop}
use Rattle.plan_kit.specs.Aggregations.{is_refused}
use Rattle.plan_kit.specs.Matching.{holds_at}
use Rattle.plan_kit.proofs.view_index.first_refused.Given as goal

abbrev pub invariant-loop-place : goal.invariant-loop-place
invariant-loop-place l = filter (holds_at l.views (λ v. is_refused l.instrument.kind v.aggregation)) l.places ≡ filter (holds_at l.views (λ v. is_refused l.instrument.kind v.aggregation)) (drop l.place-index l.places)
