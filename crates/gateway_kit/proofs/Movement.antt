-- How the numbers of keys move with their cells.
use Rattle.std.proofs.Common.{◌≡◌, ◌<◌, ◌≤◌, inl, inr, ℕ, zero, suc, ◌+◌, Bool, true, false, ◌&&◌, cond, nat_lt, List, [], ◌∷◌, map, length, get_or, is_some, Option, Some, None, refl, sym, ap, subst, ◌∙◌, arith, true≢false}
use Rattle.std.proofs.lemmas.Bool.Decides.{nat_tests}
use Rattle.std.specs.Prelude.{T, slice_set, filter}
use Rattle.std.specs.Cmp.{IsTotalOrder, Equal-is}
use Rattle.std.specs.FinMap.{IsAntisymmetric}
use Rattle.std.specs.FinMap.Entries.{find, is_sorted, below_all}
use Rattle.std.specs.List.{insert}
use Rattle.std.specs.Option.{option_or, unwrap_or}
use Rattle.std.specs.declared.cmp.Ordering.{Ordering}
use Rattle.std.specs.Ordering.{eq_by_cmp, is_lt}
use Rattle.point_kit.specs.declared.cell.Cell.{Cell}
use Rattle.point_kit.specs.declared.payload.Payload.{Payload}
use Rattle.gateway_kit.specs.Numbers.{Moves, rank_of, number_after, number_in, AllBefore}
use Rattle.gateway_kit.specs.Weave.{weave}
use Rattle.gateway_kit.proofs.Entries.{both, first, second, below_tied, find_below, find-weave, map-weave, on_keys}

abbrev pub Held : Type 0
Held = Option (Cell Payload)

-- ---- one key

pub number_after_twice : (number n : ℕ) → number_after number (number_after number n) ≡ number_after number n
number_after_twice number n = elim (nat_lt 0 number) as (λ b. cond b number (cond b number n) ≡ cond b number n) [ true ↦ refl | false ↦ refl ]

pub none_above : (n : ℕ) → nat_lt 0 n ≡ false → n ≡ 0
none_above n h = grind (arith, nat_tests)

pub number_after_first : (number : ℕ) → number ≡ number_after number 0
number_after_first number = go (nat_lt 0 number) refl
  where
    go : (b : Bool) → nat_lt 0 number ≡ b → number ≡ cond b number 0
    go true e = refl
    go false e = none_above number e

pub number_after_within : (number n most : ℕ) → number ≤ most → n ≤ most → number_after number n ≤ most
number_after_within number n most g h = elim (nat_lt 0 number) as (λ b. cond b number n ≤ most) [ true ↦ g | false ↦ h ]

pub stays : (number : ℕ) (a : Held) (n : ℕ) → Moves number a a n n
stays number a n = inl (refl, refl)

pub then_moves : (number : ℕ) (a b c : Held) (n m l : ℕ) → Moves number a b n m → Moves number b c m l → Moves number a c n l
then_moves number a b c n m l (inl p) (inl q) = inl (q.0 ∙ p.0, q.1 ∙ p.1)
then_moves number a b c n m l (inl p) (inr q) = inr (subst (λ (x : Held). rank_of x < rank_of c) p.0 q.0, q.1 ∙ ap (number_after number) p.1)
then_moves number a b c n m l (inr p) (inl q) = inr (subst (λ (x : Held). rank_of a < rank_of x) (sym q.0) p.0, q.1 ∙ p.1)
then_moves number a b c n m l (inr p) (inr q) = inr (let up = p.0 in let more = q.0 in omega (arith, up, more), q.1 ∙ ap (number_after number) p.1 ∙ number_after_twice number n)

-- a key that comes in
pub comes_in : (number : ℕ) (b : Held) (m : ℕ) → m ≡ cond (is_some b) number 0 → Moves number None b 0 m
comes_in number None m is = inl (refl, is)
comes_in number (Some c) m is = inr (omega arith, is ∙ number_after_first number)

-- ---- lists of which each value has a key and two values

none_later : {V : Type 0} (b : Bool) (v : V) (rest : Option V) → cond b (Some v) rest ≡ None → rest ≡ None
none_later true v rest e = absurd (true≢false (sym (ap is_some (sym e))))
none_later false v rest e = e

module _ {A K V W : Type 0} (R : K → K → Ordering) (h : A → K) (v : A → V) (w : A → W) where
  pub none_too : (q : K) (xs : List A) → find R q (map (λ a. (h a, v a)) xs) ≡ None → find R q (map (λ a. (h a, w a)) xs) ≡ None
  none_too q [] e = refl
  none_too q (x ∷ xs) e =
      elim (eq_by_cmp R q (h x)) as (λ b. cond b (Some (v x)) (find R q (map (λ a. (h a, v a)) xs)) ≡ None → cond b (Some (w x)) (find R q (map (λ a. (h a, w a)) xs)) ≡ None) [
        | true ↦ λ f. absurd (true≢false (sym (ap is_some (sym f))))
        | false ↦ λ f. none_too q xs f
      ] e

  below_too : (q : K) (xs : List A) → below_all R q (map (λ a. (h a, v a)) xs) ≡ below_all R q (map (λ a. (h a, w a)) xs)
  below_too q [] = refl
  below_too q (x ∷ xs) = ap (λ b. is_lt (R q (h x)) && b) (below_too q xs)

  pub sorted_too : (xs : List A) → is_sorted R (map (λ a. (h a, v a)) xs) ≡ is_sorted R (map (λ a. (h a, w a)) xs)
  sorted_too [] = refl
  sorted_too (x ∷ xs) = λ i. below_too (h x) xs i && sorted_too xs i

  -- a fact of what is found, before and after a change
  module _ (P : Option V → Option W → Option V → Option W → Type 0) (same : (a : Option V) (n : Option W) → P a n a n) where
    abbrev Related : List A → List A → K → Type 0
    Related xs ys q = P (find R q (map (λ a. (h a, v a)) xs)) (find R q (map (λ a. (h a, w a)) xs)) (find R q (map (λ a. (h a, v a)) ys)) (find R q (map (λ a. (h a, w a)) ys))

    -- one value in place of another of its key
    pub set_related : (xs : List A) (i : ℕ) (x y : A) → x ≡ get_or xs i x → h y ≡ h x → P (Some (v x)) (Some (w x)) (Some (v y)) (Some (w y)) → (q : K) → Related xs (slice_set xs i y) q
    set_related [] i x y is key p q = same None None
    set_related (z ∷ xs) zero x y is key p q =
        let r = find R q (map (λ a. (h a, v a)) xs) in
        let s = find R q (map (λ a. (h a, w a)) xs) in
        subst (λ (k : K). P (cond (eq_by_cmp R q (h z)) (Some (v z)) r) (cond (eq_by_cmp R q (h z)) (Some (w z)) s) (cond (eq_by_cmp R q k) (Some (v y)) r) (cond (eq_by_cmp R q k) (Some (w y)) s)) (sym (key ∙ ap h is))
        (elim (eq_by_cmp R q (h z)) as (λ b. P (cond b (Some (v z)) r) (cond b (Some (w z)) s) (cond b (Some (v y)) r) (cond b (Some (w y)) s)) [
          | true ↦ subst (λ (a : A). P (Some (v a)) (Some (w a)) (Some (v y)) (Some (w y))) is p
          | false ↦ same r s
        ])
    set_related (z ∷ xs) (suc i) x y is key p q =
        let rest = set_related xs i x y is key p q in
        elim (eq_by_cmp R q (h z)) as (λ b. P (cond b (Some (v z)) (find R q (map (λ a. (h a, v a)) xs))) (cond b (Some (w z)) (find R q (map (λ a. (h a, w a)) xs))) (cond b (Some (v z)) (find R q (map (λ a. (h a, v a)) (slice_set xs i y)))) (cond b (Some (w z)) (find R q (map (λ a. (h a, w a)) (slice_set xs i y))))) [
          | true ↦ same (Some (v z)) (Some (w z))
          | false ↦ rest
        ]

    -- a value of a new key
    module _ (anti : IsAntisymmetric R) (y : A) (new : P None None (Some (v y)) (Some (w y))) where
      front : (xs : List A) (q : K) → find R (h y) (map (λ a. (h a, v a)) xs) ≡ None → Related xs (y ∷ xs) q
      front xs q none =
          elim (eq_by_cmp R q (h y)) as (λ b. eq_by_cmp R q (h y) ≡ b → P (find R q (map (λ a. (h a, v a)) xs)) (find R q (map (λ a. (h a, w a)) xs)) (cond b (Some (v y)) (find R q (map (λ a. (h a, v a)) xs))) (cond b (Some (w y)) (find R q (map (λ a. (h a, w a)) xs)))) [
            | true ↦ λ t.
                let gone : find R q (map (λ a. (h a, v a)) xs) ≡ None = ap (λ k. find R k (map (λ a. (h a, v a)) xs)) (anti q (h y) ((Equal-is (R q (h y))).0 t)) ∙ none in
                subst (λ (a : Option V). P a (find R q (map (λ a. (h a, w a)) xs)) (Some (v y)) (Some (w y))) (sym gone)
                (subst (λ (n : Option W). P None n (Some (v y)) (Some (w y))) (sym (none_too q xs gone)) new)
            | false ↦ λ t. same (find R q (map (λ a. (h a, v a)) xs)) (find R q (map (λ a. (h a, w a)) xs))
          ] refl

      pub insert_related : (xs : List A) (i : ℕ) (q : K) → find R (h y) (map (λ a. (h a, v a)) xs) ≡ None → Related xs (insert xs i y) q
      insert_related xs zero q none = front xs q none
      insert_related [] (suc i) q none = front [] q none
      insert_related (z ∷ xs) (suc i) q none =
          let rest = insert_related xs i q (none_later (eq_by_cmp R (h y) (h z)) (v z) (find R (h y) (map (λ a. (h a, v a)) xs)) none) in
          elim (eq_by_cmp R q (h z)) as (λ b. P (cond b (Some (v z)) (find R q (map (λ a. (h a, v a)) xs))) (cond b (Some (w z)) (find R q (map (λ a. (h a, w a)) xs))) (cond b (Some (v z)) (find R q (map (λ a. (h a, v a)) (insert xs i y)))) (cond b (Some (w z)) (find R q (map (λ a. (h a, w a)) (insert xs i y))))) [
            | true ↦ same (Some (v z)) (Some (w z))
            | false ↦ rest
          ]

    -- values of other keys woven in
    pub weave_related : IsTotalOrder R → (xs ys : List A) → T (is_sorted R (map (λ a. (h a, v a)) xs)) → T (is_sorted R (map (λ a. (h a, v a)) ys)) → ((q : K) → P None None (find R q (map (λ a. (h a, v a)) ys)) (find R q (map (λ a. (h a, w a)) ys))) → (q : K) → Related xs (weave (λ a b. R (h a) (h b)) xs ys) q
    weave_related o xs ys g k new q =
        subst (λ (a : Option V). P (find R q (map (λ a. (h a, v a)) xs)) (find R q (map (λ a. (h a, w a)) xs)) a (find R q (map (λ a. (h a, w a)) (weave (λ a b. R (h a) (h b)) xs ys))))
        (sym (ap (find R q) (map-weave (λ a b. R (h a) (h b)) (on_keys R) (λ a. (h a, v a)) (λ a b. refl) xs ys) ∙ find-weave o q (map (λ a. (h a, v a)) xs) (map (λ a. (h a, v a)) ys) g k))
        (subst (λ (n : Option W). P (find R q (map (λ a. (h a, v a)) xs)) (find R q (map (λ a. (h a, w a)) xs)) (option_or (find R q (map (λ a. (h a, v a)) xs)) (find R q (map (λ a. (h a, v a)) ys))) n)
        (sym (ap (find R q) (map-weave (λ a b. R (h a) (h b)) (on_keys R) (λ a. (h a, w a)) (λ a b. refl) xs ys) ∙ find-weave o q (map (λ a. (h a, w a)) xs) (map (λ a. (h a, w a)) ys) (subst T (sorted_too xs) g) (subst T (sorted_too ys) k)))
        (go (find R q (map (λ a. (h a, v a)) xs)) (find R q (map (λ a. (h a, w a)) xs)) refl refl))
      where
        go : (a : Option V) (n : Option W) → find R q (map (λ a. (h a, v a)) xs) ≡ a → find R q (map (λ a. (h a, w a)) xs) ≡ n → P a n (option_or a (find R q (map (λ a. (h a, v a)) ys))) (option_or n (find R q (map (λ a. (h a, w a)) ys)))
        go None None e f = new q
        go None (Some n) e f = absurd (true≢false (ap is_some (sym f ∙ none_too q xs e)))
        go (Some a) (Some n) e f = same (Some a) (Some n)
        go (Some a) None e f = absurd (true≢false (ap is_some (sym e ∙ back q xs f)))
          where
            back : (q : K) (xs : List A) → find R q (map (λ a. (h a, w a)) xs) ≡ None → find R q (map (λ a. (h a, v a)) xs) ≡ None
            back q [] e = refl
            back q (x ∷ xs) e =
                elim (eq_by_cmp R q (h x)) as (λ b. cond b (Some (w x)) (find R q (map (λ a. (h a, w a)) xs)) ≡ None → cond b (Some (v x)) (find R q (map (λ a. (h a, v a)) xs)) ≡ None) [
                  | true ↦ λ f. absurd (true≢false (sym (ap is_some (sym f))))
                  | false ↦ λ f. back q xs f
                ] e

-- ---- all before a place

pub before_set : {A : Type 0} (Q : A → Type 0) (xs : List A) (n : ℕ) (y : A) → n < length xs → AllBefore Q n xs → Q y → AllBefore Q (n + 1) (slice_set xs n y)
before_set Q [] n y l all q i x less is = absurd (omega (arith, l))
before_set Q (z ∷ xs) zero y l all q zero x less is = subst Q (sym is) q
before_set Q (z ∷ xs) zero y l all q (suc i) x less is = absurd (omega (arith, less))
before_set Q (z ∷ xs) (suc n) y l all q zero x less is = all 0 x (omega arith) is
before_set Q (z ∷ xs) (suc n) y l all q (suc i) x less is = before_set Q xs n y (omega (arith, l)) (λ j a m e. all (suc j) a (omega (arith, m)) e) q i x (omega (arith, less)) is

-- ---- numbers above 0

abbrev pub told : ℕ → Option ℕ
told n = cond (nat_lt 0 n) (Some n) None

pub told_back : (n : ℕ) → unwrap_or (told n) 0 ≡ n
told_back n = go (nat_lt 0 n) refl
  where
    go : (b : Bool) → nat_lt 0 n ≡ b → unwrap_or (cond b (Some n) None) 0 ≡ n
    go true e = refl
    go false e = sym (none_above n e)

module _ {K : Type 0} {R : K → K → Ordering} (o : IsTotalOrder R) where
  below_filter : (x : K) (es : List (K × ℕ)) → T (below_all R x es) → T (below_all R x (filter (λ e. nat_lt 0 e.1) es))
  below_filter x [] b = tt
  below_filter x (e ∷ es) b = elim (nat_lt 0 e.1) as (λ t. T (below_all R x (cond t (e ∷ filter (λ e. nat_lt 0 e.1) es) (filter (λ e. nat_lt 0 e.1) es)))) [
    | true ↦ both _ _ (first _ _ b) (below_filter x es (second _ _ b))
    | false ↦ below_filter x es (second _ _ b)
  ]

  pub sorted_filter : (es : List (K × ℕ)) → T (is_sorted R es) → T (is_sorted R (filter (λ e. nat_lt 0 e.1) es))
  sorted_filter [] s = tt
  sorted_filter (e ∷ es) s = elim (nat_lt 0 e.1) as (λ t. T (is_sorted R (cond t (e ∷ filter (λ e. nat_lt 0 e.1) es) (filter (λ e. nat_lt 0 e.1) es)))) [
    | true ↦ both _ _ (below_filter e.0 es (first _ _ s)) (sorted_filter es (second _ _ s))
    | false ↦ sorted_filter es (second _ _ s)
  ]

  pub find_filter : (q : K) (es : List (K × ℕ)) → T (is_sorted R es) → find R q (filter (λ e. nat_lt 0 e.1) es) ≡ told (number_in R es q)
  find_filter q [] s = refl
  find_filter q (e ∷ es) s =
      let rest = find_filter q es (second _ _ s) in
      let kept = filter (λ (d : K × ℕ). nat_lt 0 d.1) es in
      elim (eq_by_cmp R q e.0) as (λ t. eq_by_cmp R q e.0 ≡ t → find R q (cond (nat_lt 0 e.1) (e ∷ kept) kept) ≡ told (unwrap_or (cond t (Some e.1) (find R q es)) 0)) [
        | true ↦ λ t.
            elim (nat_lt 0 e.1) as (λ u. find R q (cond u (e ∷ kept) kept) ≡ cond u (Some e.1) None) [
              | true ↦ ap (λ b. cond b (Some e.1) (find R q kept)) t
              | false ↦ find_below o q kept (below_tied o q e.0 kept ((Equal-is (R q e.0)).0 t) (below_filter e.0 es (first _ _ s)))
            ]
        | false ↦ λ t.
            elim (nat_lt 0 e.1) as (λ u. find R q (cond u (e ∷ kept) kept) ≡ told (number_in R es q)) [
              | true ↦ ap (λ b. cond b (Some e.1) (find R q kept)) t ∙ rest
              | false ↦ rest
            ]
      ] refl
