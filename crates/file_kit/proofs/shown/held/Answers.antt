use Rattle.std.proofs.Common.{◌∙◌, ap}
use Rattle.gossip_kit.proofs.Changes.{alone}
use Rattle.point_kit.specs.Exports.{Points, join_points}
use Rattle.file_kit.specs.Contents.{points_of}
use Rattle.file_kit.proofs.shown.held.Goals as goal

pub returns : goal.returns
returns c =
    c.in_ok-join.ensures.ok ∙ ap (λ (p : Points). join_points p (points_of c.args.content.now)) c.new-gateway.ensures.value ∙ alone (points_of c.args.content.now)
