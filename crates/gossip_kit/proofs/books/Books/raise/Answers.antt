use Rattle.std.proofs.Common.{ℕ, max, is_some, sym, ap, ◌∙◌, true≢false}
use Rattle.std.specs.FinMap.{FinMap, get, insert}
use Rattle.std.specs.Option.{unwrap_or}
use Rattle.std.specs.Ordering.{nat_cmp}
use Rattle.gossip_kit.proofs.Kept.{kept_book, raised_alike}
use Rattle.gossip_kit.proofs.books.Books.raise.Goals as goal

pub returns-in_err-insert-clause-known : goal.returns-in_err-insert-clause-known
returns-in_err-insert-clause-known c = λ some.
    absurd (true≢false (sym some ∙ ap is_some (ap (λ (b : FinMap nat_cmp ℕ). get b c.args.id) (sym c.self.view_is) ∙ kept_book c.self.inside.acked.entries c.args.id ∙ c.in_err-insert.ensures.absent)))

pub returns-clause-ok : goal.returns-clause-ok
returns-clause-ok c =
    raised_alike c.self.inside.acked.entries c.insert.new.self.entries c.args.id c.max.result c.in_ok-insert.ensures.updates.0
    ∙ ap (λ (b : FinMap nat_cmp ℕ). insert b c.args.id c.max.result) c.self.view_is
    ∙ ap (insert c.args.self.now c.args.id) (c.max.ensures ∙ ap (λ n. max n c.args.number) (c.unwrap_or-before.ensures ∙ ap (λ o. unwrap_or o 0) c.number.ensures))
