use Rattle.std.proofs.Common.{◌≡◌, ◌++◌, take, string_bytes}
use Rattle.rollup_kit.specs.RowText.{numbers_text}
use Rattle.rollup_kit.proofs.row_text.push_numbers.Given as goal

abbrev pub invariant-loop-place : goal.invariant-loop-place
invariant-loop-place l = string_bytes l.text ≡ string_bytes l.fn.text ++ numbers_text (take l.place l.numbers)
