-- A value that is changed under one key of a map.
use Rattle.std.proofs.Common.{◌≡◌, true, false, cond, Option, Some, None, is_some, unwrap_or, refl, sym, ap, ◌∙◌}
use mathlib.Core.Bool.{true≢false}
use Rattle.std.specs.Option.{option_map}
use Rattle.std.specs.declared.cmp.Ordering.{Ordering}
use Rattle.std.specs.Ordering.{eq_by_cmp}
use Rattle.std.specs.Cmp.{IsTotalOrder, Equal-is, eq_by_cmp_equiv}
use Rattle.std.specs.FinMap.{IsAntisymmetric}

module _ {K V : Type 0} {R : K → K → Ordering} (o : IsTotalOrder R) (anti : IsAntisymmetric R) (f : V → V) where
  -- what is at q, by whether it is the key
  by_key : (q key : K) (a b c : Option V) → (q ≡ key → a ≡ b) → cond (eq_by_cmp R q key) a c ≡ cond (eq_by_cmp R q key) b c
  by_key q key a b c same =
      elim (eq_by_cmp R q key) as (λ t. eq_by_cmp R q key ≡ t → cond t a c ≡ cond t b c) [
        | true ↦ λ t. same (anti q key ((Equal-is (R q key)).0 t))
        | false ↦ λ t. refl
      ] refl

  turned : (old new : K → Option V) (key : K) (w : Option V) → ((q : K) → new q ≡ cond (eq_by_cmp R key q) w (old q)) → (q : K) → new q ≡ cond (eq_by_cmp R q key) w (old q)
  turned old new key w put q = put q ∙ ap (λ b. cond b w (old q)) ((eq_by_cmp_equiv o).symm key q)

  -- the value that is there is changed
  pub held_changed : (old new : K → Option V) (key : K) (v w : V) → Some v ≡ old key → w ≡ f v → ((q : K) → new q ≡ cond (eq_by_cmp R key q) (Some w) (old q)) → (q : K) → new q ≡ cond (eq_by_cmp R q key) (option_map f (old q)) (old q)
  held_changed old new key v w is changed put q =
      turned old new key (Some w) put q ∙ by_key q key (Some w) (option_map f (old q)) (old q) (λ e. ap Some changed ∙ ap (option_map f) (is ∙ ap old (sym e)))

  -- there is none, and nothing changes
  pub none_changed : (old new : K → Option V) (key : K) → None ≡ old key → ((q : K) → new q ≡ old q) → (q : K) → new q ≡ cond (eq_by_cmp R q key) (option_map f (old q)) (old q)
  none_changed old new key none same q =
      same q ∙ elim (eq_by_cmp R q key) as (λ t. eq_by_cmp R q key ≡ t → old q ≡ cond t (option_map f (old q)) (old q)) [
        | true ↦ λ t. let e : q ≡ key = anti q key ((Equal-is (R q key)).0 t) in let there : old q ≡ None = ap old e ∙ sym none in there ∙ sym (ap (option_map f) there)
        | false ↦ λ t. refl
      ] refl

  -- a value is started
  pub started : (z : V) (old new : K → Option V) (key : K) (w : V) → old key ≡ None → w ≡ f z → ((q : K) → new q ≡ cond (eq_by_cmp R key q) (Some w) (old q)) → (q : K) → new q ≡ cond (eq_by_cmp R q key) (Some (f (unwrap_or (old q) z))) (old q)
  started z old new key w none changed put q =
      turned old new key (Some w) put q ∙ by_key q key (Some w) (Some (f (unwrap_or (old q) z))) (old q) (λ e. ap Some (changed ∙ ap (λ x. f (unwrap_or x z)) (sym (ap old e ∙ none))))

  present : (z : V) (x : Option V) → is_some x ≡ true → option_map f x ≡ Some (f (unwrap_or x z))
  present z None h = absurd (true≢false (sym h))
  present z (Some v) h = refl

  pub absent : (x : Option V) → is_some x ≡ false → x ≡ None
  absent None h = refl
  absent (Some v) h = absurd (true≢false h)

  -- the value that is there is changed, or one is started: here the first
  pub held_first : (z : V) (old new : K → Option V) (key : K) → is_some (old key) ≡ true → ((q : K) → new q ≡ cond (eq_by_cmp R q key) (option_map f (old q)) (old q)) → (q : K) → new q ≡ cond (eq_by_cmp R q key) (Some (f (unwrap_or (old q) z))) (old q)
  held_first z old new key there changed q =
      changed q ∙ by_key q key (option_map f (old q)) (Some (f (unwrap_or (old q) z))) (old q) (λ e. present z (old q) (ap (λ k. is_some (old k)) e ∙ there))
