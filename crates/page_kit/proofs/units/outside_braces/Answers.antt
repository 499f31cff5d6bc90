use Rattle.std.proofs.Common.{◌++◌, List, ℕ, sym, ap, ◌∙◌}
use Rattle.std.proofs.lemmas.List.{append-nil, drop_all}
use Rattle.page_kit.specs.Units.{outside_from, outside_braces}
use Rattle.page_kit.proofs.units.outside_braces.Goals as goal

pub returns : goal.returns
unfolding outside_braces
returns c =
    sym (append-nil c.loop-byte.bytes.items)
    ∙ ap (λ (l : List ℕ). c.loop-byte.bytes.items ++ outside_from c.loop-byte.inside l) (sym (drop_all c.loop-byte.byte-index c.args.unit.now c.loop-byte-test.false))
    ∙ c.loop-byte.invariant
