-- The newest of values whose keys rise.
use Rattle.std.proofs.Common.{◌≡◌, ℕ, Bool, true, false, cond, ◌&&◌, ◌||◌, ◌==◌, nat_lt, List, [], ◌∷◌, ◌++◌, Option, Some, None, refl, sym, ap, ◌∙◌, arith}
use Rattle.std.specs.declared.cmp.Ordering.{Ordering}
use Rattle.std.specs.declared.cmp.Ordering.TheVariants.{Less}
use Rattle.std.specs.Ordering.{is_lt}
use Rattle.std.specs.Option.{option_map}
use Rattle.std.proofs.lemmas.Bool.Decides.{nat_tests}
use Rattle.rollup_kit.specs.Newest.{Dated, is_before, later, latest, as_point}
use Rattle.rollup_kit.specs.Groups.{later_value}

-- by their times alone, where the second has the greater key
abbrev newer : {K : Type 0} → Option (Dated K) → Dated K → Dated K
newer None d = d
newer (Some q) d = cond (nat_lt d.time q.time) q d

module _ {K : Type 0} (R : K → K → Ordering) where
  abbrev pub AllBelow : K → List (Dated K) → Type 0
  AllBelow k [] = Unit {0}
  AllBelow k (p ∷ ps) = (R p.key k ≡ Less) × AllBelow k ps

  -- a value is before one of a greater key where it is not of a later time
  before_greater : (p d : Dated K) → R p.key d.key ≡ Less → is_before R p d ≡ cond (nat_lt d.time p.time) false true
  before_greater p d less = rw (ap is_lt less) (times p.time d.time)
    where
      times : (a b : ℕ) → (nat_lt a b || ((a == b) && true)) ≡ cond (nat_lt b a) false true
      times a b = grind (arith, nat_tests)

  flipped : (b : Bool) (x y : Dated K) → cond (cond b false true) x y ≡ cond b y x
  flipped true x y = refl
  flipped false x y = refl

  past_none : (p d : Dated K) → R p.key d.key ≡ Less → cond (is_before R p d) d p ≡ cond (nat_lt d.time p.time) p d
  past_none p d less = ap (λ b. cond b d p) (before_greater p d less) ∙ flipped (nat_lt d.time p.time) d p

  step : (p d : Dated K) (q : Option (Dated K)) → R p.key d.key ≡ Less → later R p (Some (newer q d)) ≡ newer (Some (later R p q)) d
  step p d None less = past_none p d less
  step p d (Some q) less =
      elim (nat_lt d.time q.time) as (λ t. nat_lt d.time q.time ≡ t → cond (is_before R p (cond t q d)) (cond t q d) p ≡ cond (nat_lt d.time (cond (is_before R p q) q p).time) (cond (is_before R p q) q p) d) [
        | true ↦ λ t. elim (is_before R p q) as (λ l. is_before R p q ≡ l → cond l q p ≡ cond (nat_lt d.time (cond l q p).time) (cond l q p) d) [
          | true ↦ λ l. sym (ap (λ b. cond b q d) t)
          | false ↦ λ l. sym (ap (λ b. cond b p d) (between d.time q.time p.time _ t l))
        ] refl
        | false ↦ λ t. past_none p d less ∙ elim (is_before R p q) as (λ l. is_before R p q ≡ l → cond (nat_lt d.time p.time) p d ≡ cond (nat_lt d.time (cond l q p).time) (cond l q p) d) [
          | true ↦ λ l. ap (λ b. cond b p d) (not_between d.time q.time p.time _ t l) ∙ sym (ap (λ b. cond b q d) t)
          | false ↦ λ l. refl
        ] refl
      ] refl
    where
      between : (d q p : ℕ) (x : Bool) → nat_lt d q ≡ true → (nat_lt p q || ((p == q) && x)) ≡ false → nat_lt d p ≡ true
      between d q p x t l = grind (arith, nat_tests)

      not_between : (d q p : ℕ) (x : Bool) → nat_lt d q ≡ false → (nat_lt p q || ((p == q) && x)) ≡ true → nat_lt d p ≡ false
      not_between d q p x t l = grind (arith, nat_tests)

  -- one more value, of a greater key
  pub latest-snoc : (ps : List (Dated K)) (d : Dated K) → AllBelow d.key ps → latest R (ps ++ d ∷ []) ≡ Some (newer (latest R ps) d)
  latest-snoc [] d h = refl
  latest-snoc (p ∷ ps) d h = ap (λ o. Some (later R p o)) (latest-snoc ps d h.1) ∙ ap Some (step p d (latest R ps) h.0)

  pub latest_later : (ps : List (Dated K)) (d : Dated K) → AllBelow d.key ps → option_map as_point (latest R (ps ++ d ∷ [])) ≡ Some (later_value (option_map as_point (latest R ps)) (as_point d))
  latest_later ps d h = ap (option_map as_point) (latest-snoc ps d h) ∙ ap Some (as_times (latest R ps))
    where
      as_times : (q : Option (Dated K)) → as_point (newer q d) ≡ later_value (option_map as_point q) (as_point d)
      as_times None = refl
      as_times (Some q) = elim (nat_lt d.time q.time) as (λ b. as_point (cond b q d) ≡ cond b (as_point q) (as_point d)) [ true ↦ refl | false ↦ refl ]
