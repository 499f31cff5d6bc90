use Rattle.std.proofs.Common.{◌∙◌, [], ◌∷◌, ap, sym}
use Rattle.point_kit.specs.Exports.{join_points, state}
use Rattle.uses.proofs.Gossiped.{agreed}
use Rattle.uses.proofs.gathering.agree.Goals as goal

pub returns : goal.returns
returns c =
    let a = state (c.args.here.now ∷ []) in
    let b = state (c.args.there.now ∷ []) in
    let one = c.in_ok-take-2.ensures.ok ∙ ap (λ p. join_points p b) (c.in_ok-take.ensures.ok ∙ ap (λ p. join_points p a) c.new-one.ensures.value) in
    let other = c.in_ok-take-5.ensures.ok ∙ ap (λ p. join_points p b)
    (c.in_ok-take-4.ensures.ok ∙ ap (λ p. join_points p a) (c.in_ok-take-3.ensures.ok ∙ ap (λ p. join_points p b) c.new-other.ensures.value)) in
    c.same.ensures.value.1 (one ∙ agreed a b ∙ sym other)
