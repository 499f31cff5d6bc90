use Rattle.std.proofs.Common.{◌≡◌, take, string_bytes}
use Rattle.page_kit.specs.Labels.{joined}
use Rattle.page_kit.proofs.labels.joined.Given as goal

abbrev pub invariant-loop-place : goal.invariant-loop-place
invariant-loop-place l = string_bytes l.text ≡ joined (take l.place l.texts)
