-- What a gateway holds that takes one export after another.
use Rattle.std.proofs.Common.{◌≡◌, ◌∙◌, ℕ, ◌+◌, ◌<◌, List, [], ◌∷◌, ◌++◌, length, take, get_or, ap, sym}
use Rattle.std.proofs.lemmas.List.{take_more}
use Rattle.std.specs.FinMap.{empty}
use Rattle.point_kit.proofs.PointLaws.{states_join}
use Rattle.point_kit.specs.Exports.{Points, join_points, state}
use Rattle.point_kit.specs.declared.export.Export.{Export}

-- the first export
pub takes_first : (e : Export) (before after : Points) → before ≡ empty → after ≡ join_points before (state (e ∷ [])) → after ≡ state (e ∷ [])
takes_first e before after none joins = joins ∙ ap (λ p. join_points p (state (e ∷ []))) none ∙ sym (states_join [] (e ∷ []))

-- the next of a list
pub takes_next : (es : List Export) (i : ℕ) (e : Export) (before after : Points) → i < length es → e ≡ get_or es i e
    → before ≡ state (take i es) → after ≡ join_points before (state (e ∷ [])) → after ≡ state (take (i + 1) es)
takes_next es i e before after there at held joins =
    joins ∙ ap (λ p. join_points p (state (e ∷ []))) held ∙ sym (states_join (take i es) (e ∷ []))
    ∙ ap state (sym (take_more es i e there ∙ ap (λ y. take i es ++ y ∷ []) (sym at)))
