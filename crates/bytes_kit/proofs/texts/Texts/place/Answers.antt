use Rattle.std.proofs.Common.{◌∙◌, ℕ, List, ap}
use Rattle.bytes_kit.specs.Past.{place_of}
use Rattle.bytes_kit.proofs.Places.{place_below}
use Rattle.bytes_kit.proofs.texts.Texts.place.Goals as goal

pub returns-clause-small : goal.returns-clause-small
returns-clause-small c =
    place_below c.args.self.now c.args.text.now c.place.result _ (c.place.ensures ∙ ap (λ (l : List (List ℕ)). place_of l c.args.text.now) (c.as_slice-2.ensures.value ∙ c.self.view_is)) c.places_are_numbers.ensures
