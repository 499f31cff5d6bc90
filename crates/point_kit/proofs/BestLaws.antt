-- The best of points is their cells joined.
use Rattle.std.proofs.Common.{◌≡◌, ℕ, ◌<◌, ◌≤◌, Bool, ◌&&◌, inl, inr, true, false, if◌then◌else◌, max, List, [], ◌∷◌, ◌++◌, Some, refl, sym, ap, subst, ◌∙◌, arith}
use Rattle.std.specs.List.{list_all}
use Rattle.std.proofs.lemmas.Bool.{cases_lt, ne_eqb, eq-eqb, lt-ltb, le-ltb}
use Rattle.std.specs.Cmp.{IsEquivalence}
use Rattle.attr_kit.specs.Exact.{IsExact}
use Rattle.point_kit.specs.declared.cell.Held.TheVariants.{One, Conflict}
use Rattle.point_kit.specs.declared.cell.Cell.{Cell}
use Rattle.point_kit.specs.Join.{join_held, join_cells, join_options}
use Rattle.point_kit.specs.Best.{greatest_time, payloads_at, agreement, best, JoinsBests}
use Rattle.point_kit.proofs.JoinLaws.{cells_associate, options_associate}

-- what one point comes to
abbrev pub cell_of : {P : Type 0} → ℕ × P → Cell P
cell_of p = record { time = p.0; held = One p.1 }

max_zero : (n : ℕ) → max n 0 ≡ n
max_zero n = omega arith

max_above : (m n : ℕ) → m < n → max m n ≡ n
max_above m n h = omega arith

max_below : (m n : ℕ) → n ≤ m → max m n ≡ m
max_below m n h = omega arith

module _ {P : Type 0} where
  -- no point is later than the greatest time
  none_later : (time : ℕ) (ps : List (ℕ × P)) → greatest_time ps < time → payloads_at time ps ≡ []
  none_later time [] h = refl
  none_later time (p ∷ ps) h = rw (ne_eqb p.0 time (omega arith)) (none_later time ps (omega arith))

  -- some point is of the greatest time
  some_latest : (p : ℕ × P) (ps : List (ℕ × P)) → (q : P) × (qs : List P) × (payloads_at (greatest_time (p ∷ ps)) (p ∷ ps) ≡ q ∷ qs)
  some_latest p [] = (p.1, [], rw (max_zero p.0, eq-eqb p.0 p.0 refl) refl)
  some_latest p (r ∷ ps) =
      let T = greatest_time (r ∷ ps) in
      let rest = some_latest r ps in
      elim (cases_lt p.0 T) [
        | inl below ↦ (rest.0, rest.1, subst (λ (t : ℕ). payloads_at t (p ∷ r ∷ ps) ≡ rest.0 ∷ rest.1) (sym (max_above p.0 T below)) (rw (ne_eqb p.0 T (omega arith)) rest.2))
        | inr above ↦ (p.1, payloads_at p.0 (r ∷ ps), subst (λ (t : ℕ). payloads_at t (p ∷ r ∷ ps) ≡ p.1 ∷ payloads_at p.0 (r ∷ ps)) (sym (max_below p.0 T above)) (rw (eq-eqb p.0 p.0 refl) refl))
      ]

module _ {P : Type 0} (eq : P → P → Bool) (laws : IsEquivalence eq) (exact : IsExact eq) where
  agreed_more : (p q : P) (qs : List P) → agreement eq (p ∷ q ∷ qs) ≡ join_held eq (One p) (agreement eq (q ∷ qs))
  agreed_more p q qs =
      elim (eq p q) as (λ t. eq p q ≡ t → (if t && list_all (eq p) qs then One p else Conflict) ≡ join_held eq (One p) (if list_all (eq q) qs then One q else Conflict)) [
        | true ↦ λ is. subst (λ (x : P). (if list_all (eq p) qs then One p else Conflict) ≡ join_held eq (One p) (if list_all (eq x) qs then One x else Conflict)) (exact p q is)
            (elim (list_all (eq p) qs) as (λ t. (if t then One p else Conflict) ≡ join_held eq (One p) (if t then One p else Conflict)) [ true ↦ rw (laws.refl p) refl | false ↦ refl ])
        | false ↦ λ is. elim (list_all (eq q) qs) as (λ t. Conflict ≡ join_held eq (One p) (if t then One q else Conflict)) [ true ↦ rw is refl | false ↦ refl ]
      ] refl

  -- one more point, before others of which T is the greatest time
  abbrev OneMore : ℕ × P → List (ℕ × P) → ℕ → ℕ → Type 0
  OneMore p xs T t = ◌≡◌ {A = Cell P} (record { time = t; held = agreement eq (payloads_at t (p ∷ xs)) }) (join_cells eq (cell_of p) (record { time = T; held = agreement eq (payloads_at T xs) }))

  one_more : (p : ℕ × P) (xs : List (ℕ × P)) (T : ℕ) (q : P) (qs : List P) → payloads_at T xs ≡ q ∷ qs → ((t : ℕ) → T < t → payloads_at t xs ≡ []) → OneMore p xs T (max p.0 T)
  one_more p xs T q qs some none = elim (cases_lt p.0 T) [
    | inl below ↦ subst (OneMore p xs T) (sym (max_above p.0 T below)) (rw (ne_eqb p.0 T (omega arith), lt-ltb p.0 T below) refl)
    | inr above ↦ subst (OneMore p xs T) (sym (max_below p.0 T above)) (elim (cases_lt T p.0) [
      | inl later ↦ rw (eq-eqb p.0 p.0 refl, none p.0 later, le-ltb p.0 T above, lt-ltb T p.0 later) refl
      | inr not_later ↦
          let same : p.0 ≡ T = omega arith in
          subst (OneMore p xs T) (sym same) (rw (eq-eqb p.0 T same, le-ltb p.0 T above, le-ltb T p.0 not_later, some) (λ i. record { time = sym same i; held = agreed_more p.1 q qs i }))
    ])
  ]

  pub best_more : (p : ℕ × P) (ps : List (ℕ × P)) → best eq (p ∷ ps) ≡ join_options (join_cells eq) (Some (cell_of p)) (best eq ps)
  best_more p [] = rw (max_zero p.0, eq-eqb p.0 p.0 refl) refl
  best_more p (q ∷ ps) = let some = some_latest q ps in ap Some (one_more p (q ∷ ps) (greatest_time (q ∷ ps)) some.0 some.1 some.2 (λ t h. none_later t (q ∷ ps) h))

  pub best_append : JoinsBests eq
  best_append [] qs = refl
  best_append (p ∷ ps) qs =
      best_more p (ps ++ qs)
      ∙ ap (join_options (join_cells eq) (Some (cell_of p))) (best_append ps qs)
      ∙ sym (options_associate (join_cells eq) (cells_associate eq laws exact) (Some (cell_of p)) (best eq ps) (best eq qs))
      ∙ ap (λ o. join_options (join_cells eq) o (best eq qs)) (sym (best_more p ps))
