use Rattle.std.proofs.Common.{◌≡◌, ◌++◌, ◌∷◌, [], take, string_bytes}
use Rattle.std.specs.List.{join_by}
use Rattle.page_kit.specs.Lines.{label_text}
use Rattle.page_kit.proofs.text.push_joined.Given as goal

abbrev pub invariant-loop-place : goal.invariant-loop-place
invariant-loop-place l = string_bytes l.text ≡ string_bytes l.fn.text ++ join_by label_text (44 ∷ []) (take l.place l.labels)
