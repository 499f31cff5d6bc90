use Rattle.std.proofs.Common.{◌∙◌, ap, Bool, List, ℕ, true, ◌&&◌}
use Rattle.std.specs.List.{list_any}
use Rattle.plan_kit.specs.Matching.{holds_at, places, is_of, is_every, names, others_fit}
use Rattle.plan_kit.proofs.Matching.{any_fitting, first_passes, second_tells}
use Rattle.plan_kit.proofs.view_index.ViewIndex.drops.Goals as goal

pub returns-then-any_named : goal.returns-then-any_named
returns-then-any_named c =
    let views = c.args.views.now in
    let instrument = c.args.instrument.now in
    let any : List ℕ → Bool = list_any (holds_at views (others_fit instrument)) in
    first_passes c.any_named.result (any (places (λ v. is_of true v && names instrument.name v) views)) (any (places (λ v. is_of true v && is_every v) views))
    (c.any_named.ensures ∙ ap any (c.requires.named instrument.name))
    c.if-any_named.true
    ∙ any_fitting true instrument views

pub returns-else-any_named : goal.returns-else-any_named
returns-else-any_named c =
    let views = c.args.views.now in
    let instrument = c.args.instrument.now in
    let any : List ℕ → Bool = list_any (holds_at views (others_fit instrument)) in
    second_tells c.any_named.result c.any_fits.result (any (places (λ v. is_of true v && names instrument.name v) views)) (any (places (λ v. is_of true v && is_every v) views))
    (c.any_named.ensures ∙ ap any (c.requires.named instrument.name))
    c.if-any_named.false
    (c.any_fits.ensures ∙ ap any (c.as_slice.ensures.value ∙ c.requires.all))
    ∙ any_fitting true instrument views
