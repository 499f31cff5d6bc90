use Rattle.std.proofs.Common.{◌≡◌, [], map, take, fold}
use Rattle.page_kit.specs.Groups.{put}
use Rattle.page_kit.specs.Families.{metric_cmp}
use Rattle.page_kit.specs.Metrics.{metric_of}
use Rattle.page_kit.specs.Views.{lists}
use Rattle.page_kit.proofs.families.by_metric.Given as goal

abbrev pub invariant-loop-point : goal.invariant-loop-point
invariant-loop-point l = lists l.groups.entries ≡ fold (put metric_cmp) [] (map (λ p. (metric_of p.stream.now, p)) (take l.point-index l.points))
