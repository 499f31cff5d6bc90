use Rattle.std.proofs.Common.{◌≡◌, ◌++◌, ◌∷◌, [], take, string_bytes}
use Rattle.std.specs.List.{join_by}
use Rattle.rollup_kit.specs.RowText.{pair_text}
use Rattle.rollup_kit.proofs.row_text.push_attributes.Given as goal

abbrev pub invariant-loop-place : goal.invariant-loop-place
invariant-loop-place l = string_bytes l.text ≡ string_bytes l.fn.text ++ (123 ∷ join_by pair_text (44 ∷ []) (take l.place l.attrs))
