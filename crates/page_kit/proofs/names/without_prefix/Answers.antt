use Rattle.std.proofs.Common.{ℕ, List, ◌++◌, sym, ap, ◌∙◌}
use Rattle.page_kit.proofs.Texts.{prefix_some, prefix_none}
use Rattle.page_kit.proofs.names.without_prefix.Goals as goal

pub returns-in-Some : goal.returns-in-Some
returns-in-Some c =
    let found = c.in-Some.ensures.cases in
    sym (prefix_some c.args.prefix.now c.args.text.now c.in-Some.rest.now (found.1.1 ∙ ap (λ (l : List ℕ). c.args.prefix.now ++ l) (sym found.2)))

pub returns-in-None : goal.returns-in-None
returns-in-None c = sym (prefix_none c.args.prefix.now c.args.text.now c.in-None.ensures.cases)
