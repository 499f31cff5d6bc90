use Rattle.std.proofs.Common.{◌∙◌, ap, filter, false}
use Rattle.plan_kit.specs.Matching.{holds_at, merge, others_fit}
use Rattle.plan_kit.proofs.Matching.{named_places, fitting_places}
use Rattle.plan_kit.proofs.view_index.ViewIndex.matching.Goals as goal

pub returns : goal.returns
returns c =
    let views = c.args.views.now in
    let instrument = c.args.instrument.now in
    c.in_ok-fitting.ensures
    ∙ ap (filter (holds_at views (others_fit instrument))) (c.as_slice.ensures.value ∙ c.in_ok-named.ensures ∙ (λ i. merge (c.requires.named instrument.name i) (c.requires.all i)) ∙ named_places false instrument.name views)
    ∙ fitting_places false instrument views
