use Rattle.std.proofs.Common.{ℕ, sym, ap, ◌∙◌}
use Rattle.std.specs.FinMap.{FinMap, get}
use Rattle.std.specs.Ordering.{nat_cmp}
use Rattle.gossip_kit.proofs.Kept.{kept_book}
use Rattle.gossip_kit.proofs.books.Books.number.Goals as goal

pub returns : goal.returns
returns c = c.copied.ensures ∙ c.get.ensures.value ∙ sym (kept_book c.self.inside.acked.entries c.args.id) ∙ ap (λ (b : FinMap nat_cmp ℕ). get b c.args.id) c.self.view_is
