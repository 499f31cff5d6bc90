use Rattle.std.proofs.Common.{◌∙◌, ℕ, List, ap}
use Rattle.std.specs.List.{slice_get}
use Rattle.kit_c.proofs.Listed.{nth_service}
use Rattle.kit_c.proofs.incarnations.service.Goals as goal

pub returns : goal.returns
returns c =
    nth_service c.services-services.result c.nth.new.self c.nth.result c.args.number c.nth.ensures.ran
    ∙ ap (λ (ss : List (List ℕ)). slice_get ss c.args.number) c.services-services.ensures.value
