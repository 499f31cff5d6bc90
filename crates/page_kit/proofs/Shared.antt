-- The bounds that cells share, one cell more at a time.
use Rattle.std.proofs.Common.{◌≡◌, ℕ, ℤ, ◌&&◌, Bool, true, false, cond, List, [], ◌∷◌, ◌++◌, filter, Option, Some, None, refl, sym, ap, ◌∙◌}
use Rattle.std.specs.List.{list_all}
use Rattle.std.specs.Option.{option_map, option_map_or}
use Rattle.std.specs.Ordering.{eq_by_cmp}
use Rattle.std.proofs.lemmas.Slice.Eq.{bytes_eq-Decides}
use Rattle.attr_kit.specs.Orders.{text_cmp}
use Rattle.page_kit.proofs.Claimed.{tied}
use Rattle.page_kit.specs.Bounds.{bounds_in, is_shown, has_bound, rising, shared_bounds, service_bounds, bounds_with}
use Rattle.page_kit.specs.Names.{same}
use Rattle.page_kit.specs.Totals.{KeyedCell}

-- a cell is of a service
abbrev pub of_service : List ℕ → KeyedCell → Bool
of_service service e = same service e.0.writer.service

-- the bounds that cells share, where there are some cells
abbrev pub so_far : List KeyedCell → Option (List ℤ)
so_far [] = None
so_far (e ∷ es) = Some (shared_bounds (e ∷ es))

module _ {A : Type 0} (p q : A → Bool) where
  twice_at : (b c : Bool) (x : A) (xs : List A) → cond b (cond c (x ∷ filter q (filter p xs)) (filter q (filter p xs))) (filter q (filter p xs)) ≡ cond (b && c) (x ∷ filter q (filter p xs)) (filter q (filter p xs))
  twice_at true c x xs = refl
  twice_at false c x xs = refl

  filter_at : (b : Bool) (x : A) (xs : List A) → filter q (cond b (x ∷ filter p xs) (filter p xs)) ≡ cond b (cond (q x) (x ∷ filter q (filter p xs)) (filter q (filter p xs))) (filter q (filter p xs))
  filter_at true x xs = refl
  filter_at false x xs = refl

  -- what passes one test and then another passes both
  pub filter_twice : (xs : List A) → filter q (filter p xs) ≡ filter (λ x. p x && q x) xs
  filter_twice [] = refl
  filter_twice (x ∷ xs) = filter_at (p x) x xs ∙ twice_at (p x) (q x) x xs ∙ ap (λ l. cond (p x && q x) (x ∷ l) l) (filter_twice xs)

filter_alike : {A : Type 0} (p q : A → Bool) → ((x : A) → p x ≡ q x) → (xs : List A) → filter p xs ≡ filter q xs
filter_alike p q alike [] = refl
filter_alike p q alike (x ∷ xs) = ap (λ b. cond b (x ∷ filter p xs) (filter p xs)) (alike x) ∙ ap (λ l. cond (q x) (x ∷ l) l) (filter_alike p q alike xs)

and_true : (b : Bool) → (b && true) ≡ b
and_true true = refl
and_true false = refl

and_assoc : (a b c : Bool) → ((a && b) && c) ≡ (a && (b && c))
and_assoc true b c = refl
and_assoc false b c = refl

all_snoc : {A : Type 0} (p : A → Bool) (xs : List A) (x : A) → list_all p (xs ++ x ∷ []) ≡ (list_all p xs && p x)
all_snoc p [] x = and_true (p x)
all_snoc p (y ∷ ys) x = ap (λ b. p y && b) (all_snoc p ys x) ∙ sym (and_assoc (p y) (list_all p ys) (p x))

-- one cell more
pub shared_more : (e : KeyedCell) (es : List KeyedCell) (x : KeyedCell) → shared_bounds (e ∷ es ++ x ∷ []) ≡ filter (λ bound. has_bound bound x) (shared_bounds (e ∷ es))
unfolding shared_bounds
shared_more e es x =
    filter_alike (λ bound. is_shown bound && list_all (has_bound bound) (e ∷ es ++ x ∷ [])) (λ bound. (is_shown bound && list_all (has_bound bound) (e ∷ es)) && has_bound bound x)
    (λ bound. ap (λ b. is_shown bound && b) (all_snoc (has_bound bound) (e ∷ es) x) ∙ sym (and_assoc (is_shown bound) (list_all (has_bound bound) (e ∷ es)) (has_bound bound x))) (rising (bounds_in e))
    ∙ sym (filter_twice (λ bound. is_shown bound && list_all (has_bound bound) (e ∷ es)) (λ bound. has_bound bound x) (rising (bounds_in e)))

pub shared_one : (x : KeyedCell) → shared_bounds (x ∷ []) ≡ filter (λ bound. has_bound bound x) (filter is_shown (rising (bounds_in x)))
unfolding shared_bounds
shared_one x =
    filter_alike (λ bound. is_shown bound && list_all (has_bound bound) (x ∷ [])) (λ bound. is_shown bound && has_bound bound x)
    (λ bound. ap (λ b. is_shown bound && b) (and_true (has_bound bound x))) (rising (bounds_in x))
    ∙ sym (filter_twice is_shown (λ bound. has_bound bound x) (rising (bounds_in x)))

pub so_far_more : (es : List KeyedCell) (x : KeyedCell) → so_far (es ++ x ∷ []) ≡ Some (bounds_with (so_far es) (bounds_in x))
so_far_more [] x = ap (λ l. Some l) (shared_one x)
so_far_more (e ∷ es) x = ap (λ l. Some l) (shared_more e es x)

filter_snoc : {A : Type 0} (p : A → Bool) (xs : List A) (x : A) → filter p (xs ++ x ∷ []) ≡ cond (p x) (filter p xs ++ x ∷ []) (filter p xs)
filter_snoc p [] x = refl
filter_snoc p (y ∷ ys) x = ap (λ l. cond (p y) (y ∷ l) l) (filter_snoc p ys x) ∙ turned (p y) (p x) where
  turned : (b c : Bool) → cond b (y ∷ cond c (filter p ys ++ x ∷ []) (filter p ys)) (cond c (filter p ys ++ x ∷ []) (filter p ys)) ≡ cond c (cond b (y ∷ filter p ys) (filter p ys) ++ x ∷ []) (cond b (y ∷ filter p ys) (filter p ys))
  turned true true = refl
  turned true false = refl
  turned false true = refl
  turned false false = refl

pub served_more : (service : List ℕ) (es : List KeyedCell) (x : KeyedCell) → cond (of_service service x) (filter (of_service service) es ++ x ∷ []) (filter (of_service service) es) ≡ filter (of_service service) (es ++ x ∷ [])
served_more service es x = sym (filter_snoc (of_service service) es x)

or_none : {V : Type 0} (shows : V → List ℤ) (o : Option V) (es : List KeyedCell) → option_map shows o ≡ so_far es → option_map_or shows o [] ≡ shared_bounds es
unfolding shared_bounds
or_none shows None [] is = refl
or_none shows None (e ∷ es) is = cc
or_none shows (Some v) [] is = cc
or_none shows (Some v) (e ∷ es) is = cc

pub served_all : {V : Type 0} (shows : V → List ℤ) (o : Option V) (all : List KeyedCell) (service : List ℕ) → option_map shows o ≡ so_far (filter (of_service service) all) → option_map_or shows o [] ≡ service_bounds all service
unfolding service_bounds
served_all shows o all service is = or_none shows o (filter (of_service service) all) is

pub map_cond : {V W : Type 0} (s : V → W) (b : Bool) (v : V) (o : Option V) → option_map s (cond b (Some v) o) ≡ cond b (Some (s v)) (option_map s o)
map_cond s true v o = refl
map_cond s false v o = refl

pub map_twice : {A V W : Type 0} (f : A → V) (s : V → W) (o : Option A) → option_map s (option_map f o) ≡ option_map (λ a. s (f a)) o
map_twice f s None = refl
map_twice f s (Some a) = refl

-- what is kept under a service once the bounds of one cell more are kept under its own
pub served_by : (f : List ℕ → Option (List ℤ)) (service k : List ℕ) (es : List KeyedCell) (x : KeyedCell) (new : Option (List ℤ)) (bounds : List ℤ) → k ≡ x.0.writer.service → f service ≡ so_far (filter (of_service service) es)
    → bounds ≡ bounds_with (f k) (bounds_in x) → new ≡ cond (eq_by_cmp text_cmp k service) (Some bounds) (f service) → new ≡ so_far (filter (of_service service) (es ++ x ∷ []))
served_by f service k es x new bounds own old put is =
    is ∙ ap (λ (b : Bool). cond b (Some bounds) (f service)) (tied k service ∙ ap (same service) own) ∙ counted (of_service service x) refl ∙ ap so_far (served_more service es x) where
      counted : (b : Bool) → of_service service x ≡ b → cond b (Some bounds) (f service) ≡ so_far (cond b (filter (of_service service) es ++ x ∷ []) (filter (of_service service) es))
      counted true e =
          let text : service ≡ k = (bytes_eq-Decides service x.0.writer.service).0 e ∙ sym own in
          ap (λ (l : List ℤ). Some l) (put ∙ ap (λ (o : Option (List ℤ)). bounds_with o (bounds_in x)) (ap f (sym text) ∙ old)) ∙ sym (so_far_more (filter (of_service service) es) x)
      counted false e = old
