use Rattle.std.proofs.Common.{nat_eq, ◌∙◌}
use Rattle.std.specs.Cmp.Lexicographic.{pointwise}
use Rattle.attr_kit.proofs.Padded.{equal_texts}
use Rattle.attr_kit.proofs.short_text.ShortTextPartialEq.eq.Goals as goal

pub returns-then-self-other : goal.returns-then-self-other
returns-then-self-other c =
    c.eq.ensures
    ∙ equal_texts 30 _ _ c.self.inside.bytes c.other.inside.bytes c.if-self-other.true c.self.invariant.2 c.other.invariant.2
    ∙ (λ i. pointwise nat_eq (c.self.view_is i) (c.other.view_is i))
