use Rattle.std.proofs.Common.{rules, tests, sym, ◌∙◌}
use Rattle.std.proofs.lemmas.Iterator.{YieldsList-from_slice}
use Rattle.std.proofs.lemmas.Iterator.Search.{all_from_yields_List}
use Rattle.std.proofs.lemmas.List.Folds.{list_all-map}
use Rattle.script_kit.specs.Words.{is_filled}
use Rattle.script_kit.proofs.shapes.are_filled.Goals as goal

pub returns : goal.returns
returns c =
    all_from_yields_List (λ w. is_filled w.now) _ _ _ c.all.ensures.ran (YieldsList-from_slice c.args.pieces.now cc) (λ x b q k. search (rules, tests))
    ∙ sym (list_all-map is_filled (λ w. w.now) c.args.pieces.now)
