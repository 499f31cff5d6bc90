use Rattle.std.proofs.Common.{◌≡◌, ◌∙◌, ◌∷◌, [], ℕ, List, map, refl, ap, rules, append_assoc}
use Rattle.std.specs.Str.{chars}
use Rattle.std.proofs.lemmas.Iterator.{YieldsList-from_chars}
use Rattle.std.proofs.lemmas.Iterator.Consumers.{YieldsList-end}
use Rattle.rollup_kit.specs.Quote.{quotation}
use Rattle.rollup_kit.proofs.quote.push_quoted.Goals as goal

same : (xs : List ℕ) → xs ≡ map (λ x. x) xs
same [] = refl
same (x ∷ xs) = ap (λ l. x ∷ l) (same xs)

pub returns : goal.returns
unfolding quotation
returns c =
    let t = YieldsList-end (YieldsList-from_chars c.args.unquoted.now c.utf8.unquoted cc) c.loop-c.yielded _ c.loop-c.yielded_by _ _ c.in-None.is c.next.ensures.steps in
    let all : c.loop-c.yielded ≡ chars c.args.unquoted.now = same c.loop-c.yielded ∙ t.0 in
    let before = rw all at c.loop-c.invariant in
    search (rules, append_assoc)
