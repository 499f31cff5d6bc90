use Rattle.std.proofs.Common.{ℕ, List, sym, subst}
use Rattle.std.specs.List.{IsDistinct}
use Rattle.bytes_kit.specs.Index.{IsIndexOf}
use Rattle.bytes_kit.proofs.Places.{same, none_distinct}
use Rattle.bytes_kit.proofs.texts.Texts.new.Goals as goal

pub invariant_of-result : goal.invariant_of-result
invariant_of-result c = subst (λ (l : List (List ℕ)). IsDistinct same l × IsIndexOf l c.in_ok-index.index) (sym c.new-texts.ensures.items) (none_distinct, c.in_ok-index.ensures)
