-- Joining maps key by key, and the state of points.
use Rattle.std.proofs.Common.{◌≡◌, ℕ, Bool, true, false, ◌||◌, cond, List, [], ◌∷◌, ◌++◌, map, filter, Option, Some, None, refl, sym, ap, ◌∙◌}
use mathlib.Core.Bool.{true≢false}
use Rattle.std.specs.List.{list_any, filter_map, cons_option}
use Rattle.std.specs.Option.{option_map, is_some}
use Rattle.std.specs.declared.cmp.Ordering.{Ordering}
use Rattle.std.specs.Ordering.{eq_by_cmp}
use Rattle.std.specs.Cmp.{IsTotalOrder, IsEquivalence, Equal-is}
use Rattle.std.specs.FinMap.{FinMap, IsAntisymmetric, get, keys, find, get-from_entries, contains_key-keys, same_map}
use Rattle.std.proofs.lemmas.List.Folds.{list_any-append}
use Rattle.attr_kit.specs.Exact.{IsExact}
use Rattle.point_kit.specs.declared.cell.Cell.{Cell}
use Rattle.point_kit.specs.Join.{join_cells, join_options, IsCommutative, IsAssociative, IsIdempotent, JoinsAbove, JoinsLeast}
use Rattle.point_kit.specs.Best.{best}
use Rattle.point_kit.specs.States.{tabulate, join_maps, points_under, state_of, JoinsStates}
use Rattle.point_kit.proofs.JoinLaws.{options_commute, options_associate, options_idempotent, joins_above, joins_least}
use Rattle.point_kit.proofs.BestLaws.{cell_of, best_more, best_append}

first_false : (a b : Bool) → (a || b) ≡ false → a ≡ false
first_false true b e = absurd (true≢false e)
first_false false b e = refl

second_false : (a b : Bool) → (a || b) ≡ false → b ≡ false
second_false true b e = absurd (true≢false e)
second_false false b e = e

none_there : {V : Type 0} (o : Option V) → is_some o ≡ false → o ≡ None
none_there None e = refl
none_there (Some v) e = absurd (true≢false e)

module _ {K : Type 0} {R : K → K → Ordering} (o : IsTotalOrder R) (anti : IsAntisymmetric R) where
  module _ {V : Type 0} (f : K → Option V) (q : K) where
    -- one more key, at which f gives x, before entries of which `find` gives what any says
    one_more : (k : K) (x : Option V) (es : List (K × V)) (any : Bool) → f k ≡ x → find R q es ≡ cond any (f q) None → find R q (cons_option (option_map (λ v. (k, v)) x) es) ≡ cond (eq_by_cmp R q k || any) (f q) None
    one_more k None es any none rest =
        let tied : eq_by_cmp R q k ≡ true → q ≡ k = λ t. anti q k ((Equal-is (R q k)).0 t) in
        let skipped : cond any (f q) None ≡ cond (eq_by_cmp R q k || any) (f q) None =
        elim (eq_by_cmp R q k) as (λ b. eq_by_cmp R q k ≡ b → cond any (f q) None ≡ cond (b || any) (f q) None) [
          | true ↦ λ t. elim any as (λ a. cond a (f q) None ≡ f q) [ true ↦ refl | false ↦ sym (ap f (tied t) ∙ none) ]
          | false ↦ λ t. refl
        ] refl in
        rest ∙ skipped
    one_more k (Some v) es any is rest =
        let tied : eq_by_cmp R q k ≡ true → q ≡ k = λ t. anti q k ((Equal-is (R q k)).0 t) in
        elim (eq_by_cmp R q k) as (λ b. eq_by_cmp R q k ≡ b → cond b (Some v) (find R q es) ≡ cond (b || any) (f q) None) [
          | true ↦ λ t. sym (ap f (tied t) ∙ is)
          | false ↦ λ t. rest
        ] refl

    -- what is found among entries that f gave for these keys
    pub find-tabulated : (ks : List K) → find R q (filter_map (λ k. option_map (λ v. (k, v)) (f k)) ks) ≡ cond (list_any (eq_by_cmp R q) ks) (f q) None
    find-tabulated [] = refl
    find-tabulated (k ∷ ks) = one_more k (f k) _ (list_any (eq_by_cmp R q) ks) refl (find-tabulated ks)

  pub get-tabulate : {V : Type 0} (ks : List K) (f : K → Option V) (q : K) → (list_any (eq_by_cmp R q) ks ≡ false → f q ≡ None) → get (tabulate R ks f) q ≡ f q
  get-tabulate ks f q outside =
      get-from_entries o _ q ∙ find-tabulated f q ks
      ∙ elim (list_any (eq_by_cmp R q) ks) as (λ b. (b ≡ false → f q ≡ None) → cond b (f q) None ≡ f q) [ true ↦ λ _. refl | false ↦ λ h. sym (h refl) ] outside

  module _ {V : Type 0} (join : V → V → V) where
    pub get-join_maps : (m n : FinMap R V) (q : K) → get (join_maps join m n) q ≡ join_options join (get m q) (get n q)
    get-join_maps m n q = get-tabulate (keys m ++ keys n) _ q (λ h.
        let none = sym (list_any-append _ (keys m) (keys n)) ∙ h in
        let in_m = none_there (get m q) (contains_key-keys m q ∙ first_false _ _ none) in
        let in_n = none_there (get n q) (contains_key-keys n q ∙ second_false _ _ none) in
        ap (λ x. join_options join x (get n q)) in_m ∙ in_n)

    pub maps_commute : IsCommutative join → IsCommutative (join_maps {R = R} join)
    maps_commute c m n = same_map o anti _ _ (λ q. get-join_maps m n q ∙ options_commute join c (get m q) (get n q) ∙ sym (get-join_maps n m q))

    pub maps_associate : IsAssociative join → IsAssociative (join_maps {R = R} join)
    maps_associate h l m n = same_map o anti _ _ (λ q.
        get-join_maps (join_maps join l m) n q ∙ ap (λ x. join_options join x (get n q)) (get-join_maps l m q)
        ∙ options_associate join h (get l q) (get m q) (get n q)
        ∙ sym (get-join_maps l (join_maps join m n) q ∙ ap (join_options join (get l q)) (get-join_maps m n q)))

    pub maps_idempotent : IsIdempotent join → IsIdempotent (join_maps {R = R} join)
    maps_idempotent h m = same_map o anti _ _ (λ q. get-join_maps m m q ∙ options_idempotent join h (get m q))

    pub maps_above : IsCommutative join → IsAssociative join → IsIdempotent join → JoinsAbove (join_maps {R = R} join)
    maps_above c a i = joins_above (join_maps {R = R} join) (maps_commute c) (maps_associate a) (maps_idempotent i)

    pub maps_least : IsAssociative join → JoinsLeast (join_maps {R = R} join)
    maps_least a = joins_least (join_maps {R = R} join) (maps_associate a)

  module _ {P : Type 0} (eq : P → P → Bool) (laws : IsEquivalence eq) (exact : IsExact eq) where
    none_under : (q : K) (ps : List (K × (ℕ × P))) → list_any (eq_by_cmp R q) (map (λ p. p.0) ps) ≡ false → points_under R q ps ≡ []
    none_under q [] h = refl
    none_under q (p ∷ ps) h =
        let rest = none_under q ps (second_false _ _ h) in
        rw (first_false (eq_by_cmp R q p.0) _ h) rest

    pub get-state_of : (ps : List (K × (ℕ × P))) (q : K) → get (state_of R eq ps) q ≡ best eq (points_under R q ps)
    get-state_of ps q = get-tabulate (map (λ p. p.0) ps) _ q (λ h. ap (best eq) (none_under q ps h))

    under-append : (q : K) (ps rs : List (K × (ℕ × P))) → points_under R q (ps ++ rs) ≡ points_under R q ps ++ points_under R q rs
    under-append q [] rs = refl
    under-append q (p ∷ ps) rs =
        let here = λ (r : K × (ℕ × P)). eq_by_cmp R q r.0 in
        let rest = under-append q ps rs in
        elim (eq_by_cmp R q p.0) as (λ b. map (λ r. r.1) (cond b (p ∷ filter here (ps ++ rs)) (filter here (ps ++ rs))) ≡ map (λ r. r.1) (cond b (p ∷ filter here ps) (filter here ps)) ++ points_under R q rs) [
          | true ↦ ap (λ l. p.1 ∷ l) rest
          | false ↦ rest
        ]

    pub state-append : JoinsStates R eq
    state-append ps rs = same_map o anti _ _ (λ q.
        get-state_of (ps ++ rs) q ∙ ap (best eq) (under-append q ps rs) ∙ best_append eq laws exact (points_under R q ps) (points_under R q rs)
        ∙ sym (get-join_maps (join_cells eq) (state_of R eq ps) (state_of R eq rs) q
        ∙ ap (λ x. join_options (join_cells eq) x (get (state_of R eq rs) q)) (get-state_of ps q)
        ∙ ap (join_options (join_cells eq) (best eq (points_under R q ps))) (get-state_of rs q)))

    join_none : (a : Option (Cell P)) → join_options (join_cells eq) a None ≡ a
    join_none None = refl
    join_none (Some a) = refl

    -- one more point
    pub best-push : (q : K) (ps : List (K × (ℕ × P))) (k : K) (x : ℕ × P) → best eq (points_under R q (ps ++ (k, x) ∷ [])) ≡ cond (eq_by_cmp R q k) (join_options (join_cells eq) (best eq (points_under R q ps)) (Some (cell_of x))) (best eq (points_under R q ps))
    best-push q ps k x =
        let so_far = best eq (points_under R q ps) in
        ap (best eq) (under-append q ps ((k, x) ∷ [])) ∙ best_append eq laws exact (points_under R q ps) (points_under R q ((k, x) ∷ []))
        ∙ elim (eq_by_cmp R q k) as (λ b. join_options (join_cells eq) so_far (best eq (map (λ (p : K × (ℕ × P)). p.1) (cond b ((k, x) ∷ []) []))) ≡ cond b (join_options (join_cells eq) so_far (Some (cell_of x))) so_far) [
          | true ↦ ap (join_options (join_cells eq) so_far) (best_more eq laws exact x [])
          | false ↦ join_none so_far
        ]
