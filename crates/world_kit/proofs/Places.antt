-- What stands at a place of a list that was changed at one place, or got longer by one.
use Rattle.std.proofs.Common.{◌≡◌, ◌≢◌, ℕ, zero, suc, ◌-◌, ◌<◌, ◌⊎◌, inl, inr, List, [], ◌∷◌, ◌++◌, ◌∙◌, length, get_or, slice_get, Some, None, Bool, true, false, ◌==◌, refl, sym, ap, arith}
use Rattle.std.specs.Prelude.{if◌then◌else◌}
use Rattle.std.proofs.lemmas.Bool.{eqb-false, eqb-true}
use Rattle.std.proofs.lemmas.Option.{slice_get_cases, slice_get_read}
use Rattle.std.proofs.Math.ListN.{set}
use Rattle.point_kit.specs.declared.export.Export.{Export}
use Rattle.world_kit.specs.WorldState.{export_at}

none_some : {A : Type 0} (x : A) → None ≡ Some x → ⊥
none_some x e = cc

positive : (n : ℕ) → (n ≡ 0 → ⊥) → 0 < n
positive zero not = absurd (not refl)
positive (suc k) not = omega arith

-- the export of a number stands at the place before it
pub export_there : (es : List Export) (n : ℕ) (e : Export) → Some e ≡ export_at es n → (0 < n) × (slice_get es (n - 1) ≡ Some e)
export_there es n e found = go (n == 0) refl found
  where
    go : (b : Bool) → (n == 0) ≡ b → Some e ≡ (if b then None else slice_get es (n - 1)) → (0 < n) × (slice_get es (n - 1) ≡ Some e)
    go true is here = absurd (none_some e (sym here))
    go false is here = (positive n (eqb-false n 0 is), sym here)

-- a number that no export has is 0, or above their number
pub export_missing : (es : List Export) (n : ℕ) → None ≡ export_at es n → (n ≡ 0) ⊎ (length es < n)
export_missing es n missing = go (n == 0) refl missing
  where
    go : (b : Bool) → (n == 0) ≡ b → None ≡ (if b then None else slice_get es (n - 1)) → (n ≡ 0) ⊎ (length es < n)
    go true is none = inl (eqb-true n 0 is)
    go false is none = elim (slice_get_cases es (n - 1)).1 [
      | inl there ↦ absurd (none_some there.0 (none ∙ there.2))
      | inr past ↦ inr (let low = positive n (eqb-false n 0 is) in let far = past.0 in omega arith)
    ]

module _ {A : Type 0} where
  same_some : (a b : A) → Some a ≡ Some b → a ≡ b
  same_some a b e = cc

  -- what is read at a place inside stands there
  pub stands_at : (xs : List A) (i : ℕ) (x : A) → i < length xs → x ≡ get_or xs i x → slice_get xs i ≡ Some x
  stands_at xs i x there read = slice_get_read xs (length xs) i x refl there read

  -- what is read twice at a place is the same
  pub same_at : (xs : List A) (i : ℕ) (x y : A) → i < length xs → x ≡ get_or xs i x → y ≡ get_or xs i y → x ≡ y
  same_at xs i x y there one other = same_some x y (sym (stands_at xs i x there one) ∙ stands_at xs i y there other)

  -- the new element at its place, or an old one at another
  pub in_set : (xs : List A) (g : ℕ) (n : A) (h : ℕ) (m : A) → slice_get (set xs g n) h ≡ Some m → ((g ≡ h) × (m ≡ n)) ⊎ ((h ≢ g) × (slice_get xs h ≡ Some m))
  in_set [] g n h m e = cc
  in_set (x ∷ xs) zero n zero m e = inl (refl, sym (same_some n m e))
  in_set (x ∷ xs) zero n (suc h) m e = inr (λ i. omega arith, e)
  in_set (x ∷ xs) (suc g) n zero m e = inr (λ i. omega arith, e)
  in_set (x ∷ xs) (suc g) n (suc h) m e = elim (in_set xs g n h m e) [
    | inl here ↦ inl (ap suc here.0, here.1)
    | inr there ↦ inr (λ i. there.0 (omega arith), there.1)
  ]

  -- the new element at the end, or an old one
  pub in_push : (xs : List A) (y : A) (k : ℕ) (m : A) → slice_get (xs ++ y ∷ []) k ≡ Some m → ((k ≡ length xs) × (m ≡ y)) ⊎ (slice_get xs k ≡ Some m)
  in_push [] y zero m e = inl (refl, sym (same_some y m e))
  in_push [] y (suc k) m e = cc
  in_push (x ∷ xs) y zero m e = inr e
  in_push (x ∷ xs) y (suc k) m e = elim (in_push xs y k m e) [ inl last ↦ inl (ap suc last.0, last.1) | inr old ↦ inr old ]
