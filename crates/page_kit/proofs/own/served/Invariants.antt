use Rattle.std.proofs.Common.{◌≡◌, [], map, take, fold}
use Rattle.gateway_kit.specs.Walks.{keyed_cell_of_ref}
use Rattle.page_kit.specs.Groups.{put}
use Rattle.page_kit.specs.Labels.{labels_cmp, service_labels}
use Rattle.page_kit.specs.Views.{lists}
use Rattle.page_kit.proofs.own.served.Given as goal

abbrev pub invariant-loop-point : goal.invariant-loop-point
invariant-loop-point l = lists l.groups.entries ≡ fold (put labels_cmp) [] (map (λ p. (service_labels (keyed_cell_of_ref p).0, p)) (take l.point-index l.points))
