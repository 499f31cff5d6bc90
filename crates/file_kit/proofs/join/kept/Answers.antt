use Rattle.std.proofs.lemmas.Result.{err_from_is_err_and}
use Rattle.std.proofs.Common.{◌∙◌, ap}
use Rattle.gossip_kit.proofs.Changes.{alone}
use Rattle.gossip_kit.specs.Views.{NodeModel}
use Rattle.archive_kit.specs.Keeping.{kept_points}
use Rattle.archive_kit.specs.Showing.{shown}
use Rattle.archive_kit.specs.Tombstones.{names_key}
use Rattle.point_kit.specs.Exports.{Points}
use Rattle.file_kit.proofs.join.kept.Goals as goal

pub returns-clause-value : goal.returns-clause-value
returns-clause-value c = (
  c.in_ok-held.held.points,
  c.in_ok-held.ensures.value,
  c.in_ok-merge.ensures.ok
      ∙ ap (λ (n : NodeModel). kept_points n.gateway.points c.in_ok-held.held.points) c.in_ok-keeper.ensures.value
      ∙ ap (λ (p : Points). shown names_key p) (alone c.in_ok-held.held.points),
)

pub returns-in_err-merge-clause-err : goal.returns-in_err-merge-clause-err
returns-in_err-merge-clause-err c =
    let p = err_from_is_err_and c.from_residual-in_err-merge.result c.from_residual-in_err-merge.ensures.1 in
    rw (p.1, p.2) tt
