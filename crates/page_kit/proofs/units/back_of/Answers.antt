use Rattle.std.proofs.Common.{ℕ, ◌+◌, List, drop, ap, ◌∙◌}
use Rattle.std.proofs.lemmas.List.{drop-drop}
use Rattle.page_kit.proofs.Texts.{all_behind}
use Rattle.page_kit.proofs.units.back_of.Goals as goal

pub returns : goal.returns
returns c = c.behind.ensures ∙ ap (λ (l : List ℕ). drop 1 l) (all_behind c.args.bare.now c.slash_at.result) ∙ drop-drop 1 c.slash_at.result c.args.bare.now ∙ ap (λ (n : ℕ). drop (n + 1) c.args.bare.now) c.slash_at.ensures.value
