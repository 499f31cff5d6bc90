use Rattle.std.proofs.Common.{◌≡◌, take}
use Rattle.page_kit.proofs.histograms.with_bound.Given as goal

abbrev pub invariant-loop-label : goal.invariant-loop-label
invariant-loop-label l = l.all.items ≡ take l.label-index l.labels
