use Rattle.std.proofs.Common.{◌≡◌, ◌++◌, ◌∷◌, string_bytes}
use Rattle.std.specs.List.{flat_map}
use Rattle.rollup_kit.specs.Quote.{escape}
use Rattle.rollup_kit.proofs.quote.push_quoted.Given as goal

abbrev pub invariant-loop-c : goal.invariant-loop-c
invariant-loop-c l = string_bytes l.text ≡ string_bytes l.fn.text ++ (34 ∷ flat_map escape l.yielded)
