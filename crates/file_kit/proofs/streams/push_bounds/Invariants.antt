use Rattle.std.proofs.Common.{◌≡◌, ◌++◌, take, string_bytes}
use Rattle.file_kit.specs.Shown.{bounds_text}
use Rattle.file_kit.proofs.streams.push_bounds.Given as goal

abbrev pub invariant-loop-place : goal.invariant-loop-place
invariant-loop-place l = string_bytes l.text ≡ string_bytes l.fn.text ++ bounds_text (take l.place l.bounds)
