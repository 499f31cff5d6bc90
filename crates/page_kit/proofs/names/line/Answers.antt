use Rattle.std.proofs.Common.{◌++◌, List, ℕ, sym, ap, ◌∙◌, string_bytes}
use Rattle.std.proofs.lemmas.List.{append-nil, drop_all}
use Rattle.page_kit.specs.Names.{line_from, line}
use Rattle.page_kit.proofs.names.line.Goals as goal

pub returns : goal.returns
unfolding line
returns c =
    sym (append-nil (string_bytes c.loop-byte.text))
    ∙ ap (λ (l : List ℕ). string_bytes c.loop-byte.text ++ line_from c.loop-byte.in_run l) (sym (drop_all c.loop-byte.byte-index c.args.bytes.now c.loop-byte-test.false))
    ∙ c.loop-byte.invariant
