use Rattle.std.proofs.Common.{◌≡◌, ◌++◌, drop, string_bytes}
use Rattle.page_kit.specs.Rows.{mantissa}
use Rattle.page_kit.proofs.Digits.{left}
use Rattle.page_kit.proofs.histograms.push_mantissa.Given as goal

abbrev pub invariant-loop-place : goal.invariant-loop-place
invariant-loop-place l = string_bytes l.text ++ left l.place (drop l.place l.digits) ≡ string_bytes l.fn.text ++ mantissa l.digits
