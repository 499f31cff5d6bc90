use Rattle.std.proofs.Common.{◌∙◌, ap, filter, slice_get}
use Rattle.plan_kit.specs.Aggregations.{is_refused}
use Rattle.plan_kit.specs.Matching.{holds_at}
use Rattle.plan_kit.specs.Views.{is_bad_view}
use Rattle.plan_kit.proofs.Matching.{bad_places, head_places}
use Rattle.plan_kit.proofs.view_index.ViewIndex.bad_view_at.Goals as goal

pub returns : goal.returns
returns c =
    let views = c.args.views.now in
    let instrument = c.args.instrument.now in
    c.first_refused.ensures
    ∙ ap (λ l. slice_get (filter (holds_at views (λ v. is_refused instrument.kind v.aggregation)) l) 0) (c.as_slice.ensures.value ∙ c.in_ok-matching.ensures)
    ∙ ap (λ l. slice_get l 0) (bad_places instrument views)
    ∙ head_places (is_bad_view instrument) views
