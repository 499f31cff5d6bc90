-- Tests that tell all values apart.
use Rattle.std.proofs.Common.{◌≡◌, Bool, true, false, refl, sym, ap, ◌∙◌}
use Rattle.std.specs.Cmp.{IsEquivalence}
use Rattle.attr_kit.specs.Exact.{IsExact}

-- one that finds each equal to itself is an equivalence
module _ {A : Type 0} (same : A → A → Bool) (own : (y : A) → same y y ≡ true) (exact : IsExact same) where
  turned : (y z : A) → same y z ≡ same z y
  turned y z = go (same y z) (same z y) refl refl
    where
      go : (a b : Bool) → same y z ≡ a → same z y ≡ b → same y z ≡ same z y
      go true b e f = ap (same y) (sym (exact y z e)) ∙ ap (λ v. same v y) (exact y z e)
      go false true e f = ap (same y) (exact z y f) ∙ ap (λ v. same v y) (sym (exact z y f))
      go false false e f = e ∙ sym f

  pub equivalence : IsEquivalence same
  equivalence = record { refl = own; symm = turned; congr = λ y z v p. ap (λ w. same w v) (exact y z p) }
