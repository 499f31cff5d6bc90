use Rattle.std.proofs.Common.{ℕ, List, ◌++◌, sym, ap, ◌∙◌}
use Rattle.page_kit.proofs.Texts.{suffix_some, suffix_none}
use Rattle.page_kit.proofs.names.without_suffix.Goals as goal

pub returns-in-Some : goal.returns-in-Some
returns-in-Some c =
    let found = c.in-Some.ensures.cases in
    sym (suffix_some c.args.suffix.now c.args.text.now c.in-Some.front.now (found.1.1 ∙ ap (λ (l : List ℕ). l ++ c.args.suffix.now) (sym found.2)))

pub returns-in-None : goal.returns-in-None
returns-in-None c = sym (suffix_none c.args.suffix.now c.args.text.now c.in-None.ensures.cases)
