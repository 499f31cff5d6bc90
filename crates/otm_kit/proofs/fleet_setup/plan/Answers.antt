use Rattle.std.proofs.Common.{rules, ◌≡◌, ◌∙◌, ap₂, List, [], ◌∷◌}
use Rattle.plan_kit.specs.Feeds.{plan_of}
use Rattle.plan_kit.specs.declared.instrument.Instrument.{Instrument}
use Rattle.plan_kit.specs.declared.view.View.{View}
use Rattle.otm_kit.specs.FleetSetups.{counter}
use Rattle.otm_kit.proofs.fleet_setup.plan.Goals as goal

pub returns-in-Ok : goal.returns-in-Ok
returns-in-Ok c =
    let instruments : c.from_vec-instruments.result ≡ counter ∷ [] = search rules in
    let views : c.new.result ≡ [] = search rules in
    c.in-Ok.ensures.value ∙ ap₂ (λ (is : List Instrument) (vs : List View). plan_of is vs 2000) instruments views
