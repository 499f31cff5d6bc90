use Rattle.std.proofs.Common.{◌≡◌, ◌∙◌, ℕ, true, List, ap, sym, subst}
use Rattle.std.specs.FinMap.Entries.{is_sorted}
use Rattle.std.specs.FinMap.{entries}
use Rattle.gateway_kit.specs.Walks.{is_of, points_left}
use Rattle.point_kit.specs.Orders.{key_cmp}
use Rattle.point_kit.specs.declared.cell.Cell.{Cell}
use Rattle.point_kit.specs.declared.key.Key.{Key}
use Rattle.point_kit.specs.declared.payload.Payload.{Payload}
use Rattle.rollup_kit.specs.Standing.{Stands}
use Rattle.rollup_kit.proofs.Queried.{all_sorted, some_sorted, all_few, some_few, stands_whole, of_service}
use Rattle.rollup_kit.proofs.query.asked_points.Goals as goal

pub returns-in-Some-clause-sorted : goal.returns-in-Some-clause-sorted
returns-in-Some-clause-sorted c = ap (is_sorted key_cmp) c.points_of.ensures.value ∙ some_sorted c.args.gateway.now.points (λ k. is_of c.as_str.result.now k.writer)

pub returns-in-Some-clause-few : goal.returns-in-Some-clause-few
returns-in-Some-clause-few c = some_few c.args.gateway.now.points (λ k. is_of c.as_str.result.now k.writer) (points_left c.points_of.result) c.points_of.ensures.value

pub returns-in-Some-clause-whole : goal.returns-in-Some-clause-whole
returns-in-Some-clause-whole c = λ buckets groups stands.
    stands_whole c.args.ask.now buckets (entries c.args.gateway.now.points) groups (λ k. is_of c.as_str.result.now k.writer)
    (λ k asked. subst (λ (s : List ℕ). is_of s k.writer ≡ true) (sym c.as_str.ensures) (of_service c.args.ask.now c.in-Some.service c.in-Some.is k asked))
    (subst (λ (es : List (Key × Cell Payload)). Stands c.args.ask.now buckets es groups) c.points_of.ensures.value stands)

pub returns-in-None-clause-sorted : goal.returns-in-None-clause-sorted
returns-in-None-clause-sorted c = ap (is_sorted key_cmp) c.points.ensures.value ∙ all_sorted c.args.gateway.now.points

pub returns-in-None-clause-few : goal.returns-in-None-clause-few
returns-in-None-clause-few c = all_few c.args.gateway.now.points (points_left c.points.result) c.points.ensures.value
