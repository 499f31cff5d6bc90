use Rattle.std.proofs.Common.{◌≡◌, [], map, take, fold, length}
use Rattle.page_kit.specs.Groups.{put}
use Rattle.page_kit.specs.Labels.{labels_cmp, metric_labels}
use Rattle.page_kit.specs.Views.{lists}
use Rattle.page_kit.proofs.own.lengths_of.Given as goal

abbrev pub invariant-loop-measured : goal.invariant-loop-measured
invariant-loop-measured l = lists l.groups.entries ≡ fold (put labels_cmp) [] (map (λ m. (metric_labels m.metric, length m.points.items)) (take l.measured-index l.metrics))
