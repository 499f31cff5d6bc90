use Rattle.std.proofs.Common.{◌≡◌, ◌∙◌, ◌+◌, ◌++◌, ◌∷◌, [], ℕ, List, not, ap, sym, subst, take}
use Rattle.std.proofs.lemmas.List.{take_more}
use Rattle.bytes_kit.specs.Index.{IsIndexOf}
use Rattle.bytes_kit.specs.declared.index.Index.{Index}
use Rattle.bytes_kit.proofs.Indexing.{again_some}
use Rattle.bytes_kit.proofs.index.Index.widen.Goals.{then-is_none+in_ok-settle, else-is_none}
use Rattle.bytes_kit.proofs.index.Index.widen.Goals as goal

pub loop-i-preserved : goal.loop-i-preserved
loop-i-preserved c =
    let texts : List (List ℕ) = c.args.texts.now in
    let x : List ℕ = c.index-texts-i.result in
    let so : take (c.loop-i.i + 1) texts ≡ take c.loop-i.i texts ++ x ∷ [] = take_more texts c.loop-i.i x c.loop-i-test.true ∙ ap (λ (y : List ℕ). take c.loop-i.i texts ++ y ∷ []) (sym c.index-texts-i.is) in
    subst (λ (l : List (List ℕ)). IsIndexOf l c.if-is_none.wider) (sym so) (elim c.if-is_none.branch [
      | then-is_none+in_ok-settle w ↦ subst (λ (p : Index). IsIndexOf (take c.loop-i.i texts ++ x ∷ []) p) (sym w.wider-is) w.in_ok-settle.ensures.ok
      | else-is_none w ↦ subst (λ (p : Index). IsIndexOf (take c.loop-i.i texts ++ x ∷ []) p) (sym w.wider-is) (again_some (take c.loop-i.i texts) c.loop-i.wider x c.place.result c.loop-i.invariant c.place.ensures (c.is_none.ensures ∙ ap not w.if-is_none.false))
    ])
