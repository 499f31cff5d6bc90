-- What a state hides may be forgotten: what is shown stays.
use Rattle.std.proofs.Common.{◌≡◌, Bool, true, false, not, cond, Option, Some, None, refl, sym, ap, ◌∙◌}
use mathlib.Core.Bool.{true≢false}
use Rattle.std.specs.Option.{is_some}
use Rattle.std.specs.declared.cmp.Ordering.{Ordering}
use Rattle.std.specs.Cmp.{IsTotalOrder}
use Rattle.std.specs.FinMap.{FinMap, IsAntisymmetric, get, retain_keys, get-retain_keys, same_map}
use Rattle.archive_kit.specs.Showing.{NamesNoNamer, hides, shown}
use Rattle.archive_kit.proofs.Lists.{same_bool}
use Rattle.archive_kit.proofs.Showing.{namer, hidden_by, get-shown}

module _ {K V : Type 0} {R : K → K → Ordering} (o : IsTotalOrder R) (anti : IsAntisymmetric R) (names : K → K → Bool) (none : NamesNoNamer names)
    (gone : K → Bool) (m : FinMap R V) (hidden : (q : K) (v : V) → get m q ≡ Some v → gone q ≡ true → hides names m q ≡ true) where
  abbrev kept : FinMap R V
  kept = retain_keys m (λ k. not (gone k))

  get-kept : (q : K) → get kept q ≡ cond (not (gone q)) (get m q) None
  get-kept q = get-retain_keys m (λ k. not (gone k)) q (λ x t. ap (λ k. not (gone k)) (sym (anti q x t)))

  is_gone : (q : K) → gone q ≡ true → get kept q ≡ None
  is_gone q g = get-kept q ∙ ap (λ b. cond (not b) (get m q) None) g

  is_kept : (q : K) → gone q ≡ false → get kept q ≡ get m q
  is_kept q g = get-kept q ∙ ap (λ b. cond (not b) (get m q) None) g

  -- what names something is kept
  namer_kept : (t k : K) (v : V) → get m t ≡ Some v → names t k ≡ true → get kept t ≡ Some v
  namer_kept t k v e n = elim (gone t) as (λ b. gone t ≡ b → get kept t ≡ Some v) [
    | true ↦ λ g. let s = namer o anti names m t (hidden t v e g) in absurd (true≢false (sym n ∙ none s.0 t k s.3))
    | false ↦ λ g. is_kept t g ∙ e
  ] refl

  was_there : (t : K) (v : V) → get kept t ≡ Some v → get m t ≡ Some v
  was_there t v e = elim (gone t) as (λ b. gone t ≡ b → get m t ≡ Some v) [
    | true ↦ λ g. absurd (true≢false (ap (λ (x : Option V). is_some x) (sym e ∙ is_gone t g)))
    | false ↦ λ g. sym (is_kept t g) ∙ e
  ] refl

  same_hidden : (k : K) → hides names kept k ≡ hides names m k
  same_hidden k = same_bool _ _
      (λ h. let s = namer o anti names kept k h in hidden_by o anti names m k s.0 s.1 (was_there s.0 s.1 s.2) s.3)
      (λ h. let s = namer o anti names m k h in hidden_by o anti names kept k s.0 s.1 (namer_kept s.0 k s.1 s.2 s.3) s.3)

  nothing : (q : K) → gone q ≡ true → hides names m q ≡ false → (x : Option V) → get m q ≡ x → x ≡ None
  nothing q g h None e = refl
  nothing q g h (Some v) e = absurd (true≢false (sym (hidden q v e g) ∙ h))

  same_shown : (q : K) → hides names m q ≡ false → get kept q ≡ get m q
  same_shown q h = elim (gone q) as (λ b. gone q ≡ b → get kept q ≡ get m q) [
    | true ↦ λ g. is_gone q g ∙ sym (nothing q g h (get m q) refl)
    | false ↦ λ g. is_kept q g
  ] refl

  pub forgotten : shown names kept ≡ shown names m
  forgotten = same_map o anti _ _ (λ q.
      get-shown o anti names kept q
      ∙ ap (λ h. cond (not h) (get kept q) None) (same_hidden q)
      ∙ elim (hides names m q) as (λ h. hides names m q ≡ h → cond (not h) (get kept q) None ≡ cond (not h) (get m q) None) [
        | true ↦ λ _. refl
        | false ↦ λ h. same_shown q h
      ] refl
      ∙ sym (get-shown o anti names m q))
