use Rattle.std.proofs.Common.{◌≡◌, ◌≤◌, take}
use Rattle.page_kit.specs.Rows.{without_zeros}
use Rattle.page_kit.proofs.histograms.significant.Given as goal

abbrev pub invariant-loop-place : goal.invariant-loop-place
invariant-loop-place l = (l.len ≤ l.place) × (take l.len l.digits ≡ without_zeros (take l.place l.digits))
