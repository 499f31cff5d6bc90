use Rattle.std.proofs.Common.{◌≡◌, ◌∙◌, ◌++◌, ◌∷◌, [], ℕ, List, None, ap, sym, subst}
use Rattle.std.specs.List.{IsDistinct}
use Rattle.bytes_kit.specs.Index.{IsIndexOf}
use Rattle.bytes_kit.specs.Past.{place_of}
use Rattle.bytes_kit.proofs.Places.{same, distinct_more}
use Rattle.bytes_kit.proofs.texts.Texts.add.Goals as goal

pub invariant_of-self-2 : goal.invariant_of-self-2
invariant_of-self-2 c =
    let texts : List (List ℕ) = c.self.inside.texts.items in
    let t : List ℕ = c.args.text.now in
    let none : place_of texts t ≡ None = ap (λ (l : List (List ℕ)). place_of l t) (c.self.view_is ∙ c.make_room.ensures) ∙ c.requires in
    let items : c.push_reserved.new.self.items ≡ texts ++ t ∷ [] = c.push_reserved.ensures.items ∙ (λ i. c.reserve.ensures.items i ++ c.in_ok-copy.ensures.ok i ∷ []) in
    let index : IsIndexOf (texts ++ t ∷ []) c.settle.new.self = subst (λ (l : List (List ℕ)). IsIndexOf (l ++ t ∷ []) c.settle.new.self) (c.as_slice-2.ensures.value ∙ c.reserve.ensures.items) c.in_ok-settle.ensures.ok in
    (subst (IsDistinct same) (sym items) (distinct_more texts t c.self.invariant.0 none), subst (λ (l : List (List ℕ)). IsIndexOf l c.settle.new.self) (sym items) index)
