use Rattle.std.proofs.Common.{◌∙◌, [], ◌∷◌, ap}
use Rattle.gossip_kit.proofs.Changes.{alone}
use Rattle.point_kit.specs.Exports.{join_points, state}
use Rattle.uses.proofs.Parted.{counted}
use Rattle.uses.proofs.gathering.points_of_each.Goals as goal

pub returns-clause-at_100 : goal.returns-clause-at_100
returns-clause-at_100 c =
    let a = state (c.args.early.now ∷ []) in
    let b = state (c.args.late.now ∷ []) in
    let held = c.in_ok-take-2.ensures.ok ∙ ap (λ p. join_points p b) (c.in_ok-take.ensures.ok ∙ ap (λ p. join_points p a) c.new-gateway.ensures.value ∙ alone a) in
    counted c.args.early.now c.args.late.now c.requires.writer c.requires.starts.0 c.requires.starts.1 100 c.part-first.result.now _ _ c.requires.points c.writer-writer.ensures.value held
    c.part-first.ensures.value

pub returns-clause-at_400 : goal.returns-clause-at_400
returns-clause-at_400 c =
    let a = state (c.args.early.now ∷ []) in
    let b = state (c.args.late.now ∷ []) in
    let held = c.in_ok-take-2.ensures.ok ∙ ap (λ p. join_points p b) (c.in_ok-take.ensures.ok ∙ ap (λ p. join_points p a) c.new-gateway.ensures.value ∙ alone a) in
    counted c.args.early.now c.args.late.now c.requires.writer c.requires.starts.0 c.requires.starts.1 400 c.part.result.now _ _ c.requires.points c.writer-writer.ensures.value held
    c.part.ensures.value

pub returns-clause-at_50 : goal.returns-clause-at_50
returns-clause-at_50 c =
    let a = state (c.args.early.now ∷ []) in
    let b = state (c.args.late.now ∷ []) in
    let held = c.in_ok-take-2.ensures.ok ∙ ap (λ p. join_points p b) (c.in_ok-take.ensures.ok ∙ ap (λ p. join_points p a) c.new-gateway.ensures.value ∙ alone a) in
    counted c.args.early.now c.args.late.now c.requires.writer c.requires.starts.0 c.requires.starts.1 50 c.part-2.result.now _ _ c.requires.points c.writer-writer.ensures.value held
    c.part-2.ensures.value
