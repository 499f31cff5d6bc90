use Rattle.std.proofs.Common.{◌≡◌, ◌∙◌, ℕ, List, Some, ap, subst}
use Rattle.std.specs.Prelude.{IfSome, slice_get}
use Rattle.bytes_kit.specs.Past.{place_of}
use Rattle.bytes_kit.proofs.Places.{lent_at}
use Rattle.bytes_kit.proofs.texts.Texts.get.Goals as goal

pub returns-clause-some : goal.returns-clause-some
returns-clause-some c =
    subst (λ (l : List (List ℕ)). IfSome c.item.result (λ t. place_of l t.now ≡ Some c.args.place)) c.self.view_is
    (lent_at c.self.inside.texts.items c.args.place c.item.result c.self.invariant.0 (c.item.ensures.value ∙ ap (λ (l : List (List ℕ)). slice_get l c.args.place) c.as_slice.ensures.value))
