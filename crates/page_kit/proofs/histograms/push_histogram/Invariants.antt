use Rattle.std.proofs.Common.{◌≡◌, ◌++◌, take, string_bytes}
use Rattle.std.specs.List.{flat_map}
use Rattle.page_kit.specs.Bounds.{values_up_to}
use Rattle.page_kit.specs.Rows.{bound_text, bucket}
use Rattle.page_kit.specs.Views.{cells}
use Rattle.page_kit.proofs.histograms.push_histogram.Given as goal

abbrev pub invariant-loop-bound : goal.invariant-loop-bound
invariant-loop-bound l = string_bytes l.text ≡ string_bytes l.fn.text ++ flat_map (λ bound. bucket l.name l.labels (bound_text bound) (values_up_to bound (cells l.points))) (take l.bound-index l.bounds)
