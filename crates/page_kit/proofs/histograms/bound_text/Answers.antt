use Rattle.std.proofs.Common.{ℕ, List, w64, sym, ap, subst, ◌∙◌}
use Rattle.std.specs.Fmt.{signed_decimal}
use Rattle.std.specs.Str.{IsAscii}
use Rattle.std.proofs.lemmas.Int.{to_z-of_z}
use Rattle.page_kit.proofs.Digits.{ascii_signed}
use Rattle.page_kit.proofs.histograms.bound_text.Goals as goal

pub scientific-requires : goal.scientific-requires
scientific-requires c = subst (λ (bs : List ℕ). IsAscii bs) (sym (c.as_bytes.ensures.value ∙ c.in_ok-digits.ensures.ok ∙ ap signed_decimal (to_z-of_z w64 c.args.bound c.ranges.bound))) (ascii_signed c.args.bound c.ranges.bound)
