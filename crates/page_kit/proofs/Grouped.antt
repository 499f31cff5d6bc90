-- Groups: one value more, by a map's own steps; and what stands under a key.
use Rattle.std.proofs.Common.{◌≡◌, ℕ, ◌+◌, ◌<◌, length, take, get_or, Bool, true, false, cond, List, [], ◌∷◌, ◌++◌, map, filter, fold, Some, None, refl, sym, ap, ◌∙◌}
use Rattle.std.specs.BTreeMap.{insert_entry, is_at}
use Rattle.std.specs.Cmp.{IsTotalOrder}
use Rattle.std.specs.List.{flat_map}
use Rattle.std.specs.List.Sorted.{IsStrictlySortedBy}
use Rattle.std.specs.Map.{keys_of, lookup}
use Rattle.std.specs.Ordering.{is_eq, match_ordering}
use Rattle.std.specs.declared.cmp.Ordering.{Ordering}
use Rattle.std.specs.declared.cmp.Ordering.TheVariants.{Less, Equal, Greater}
use Rattle.std.proofs.lemmas.Map.{lookup-none}
use Rattle.std.proofs.lemmas.Map.Entries.{none_below_head}
use Rattle.std.proofs.lemmas.Map.Keys.{sorted_tail}
use Rattle.std.proofs.lemmas.List.{map_more, map-append, append-nil}
use Rattle.std.proofs.lemmas.List.Elements.{filter_more}
use Rattle.std.proofs.lemmas.List.Sums.{fold-append}
use Rattle.page_kit.specs.Groups.{keyed, put, groups, in_order}

module _ {K X A : Type 0} {R : K → K → Ordering} (o : IsTotalOrder R) (f : X → List A) where
  abbrev shown : List (K × X) → List (K × List A)
  shown es = map (λ e. (e.0, f e.1)) es

  -- a value put behind those that a look-up found
  found_at : (r : Ordering) (k : K) (a : A) (v w : X) (e : K × X) (es : List (K × X)) → (is_none : r ≡ Less → lookup (is_at (R k)) (e ∷ es) ≡ None) → R k e.0 ≡ r
      → cond (is_eq r) (Some e.1) (lookup (is_at (R k)) es) ≡ Some v → f w ≡ f v ++ a ∷ []
      → (lookup (is_at (R k)) es ≡ Some v → shown (insert_entry R es k w) ≡ put R (shown es) (k, a))
      → shown (match_ordering r ((k, w) ∷ e ∷ es) ((e.0, w) ∷ es) (e ∷ insert_entry R es k w)) ≡ match_ordering r ((k, a ∷ []) ∷ shown (e ∷ es)) ((e.0, f e.1 ++ a ∷ []) ∷ shown es) ((e.0, f e.1) ∷ put R (shown es) (k, a))
  found_at Less k a v w e es none is found more rest =
      let here : lookup (is_at (R k)) (e ∷ es) ≡ Some v = ap (λ r. cond (is_eq r) (Some e.1) (lookup (is_at (R k)) es)) is ∙ found in
      let not_here = none refl in
      cc
  found_at Equal k a v w e es none is found more rest =
      let same : e.1 ≡ v = cc in
      ap (λ l. (e.0, l) ∷ shown es) (more ∙ ap (λ x. f x ++ a ∷ []) (sym same))
  found_at Greater k a v w e es none is found more rest = ap (λ l. (e.0, f e.1) ∷ l) (rest found)

  pub put_found : (k : K) (a : A) (v w : X) (es : List (K × X)) → IsStrictlySortedBy R (keys_of es) → lookup (is_at (R k)) es ≡ Some v → f w ≡ f v ++ a ∷ []
      → shown (insert_entry R es k w) ≡ put R (shown es) (k, a)
  put_found k a v w [] up found more = cc
  put_found k a v w (e ∷ es) up found more =
      found_at (R k e.0) k a v w e es (λ less. lookup-none (is_at (R k)) (e ∷ es) (none_below_head o k e es up less)) refl found more
      (λ rest. put_found k a v w es (sorted_tail R e.0 (keys_of es) up) rest more)

  -- a value in a group of its own
  new_at : (r : Ordering) (k : K) (a : A) (w : X) (e : K × X) (es : List (K × X)) → cond (is_eq r) (Some e.1) (lookup (is_at (R k)) es) ≡ None → f w ≡ a ∷ []
      → (lookup (is_at (R k)) es ≡ None → shown (insert_entry R es k w) ≡ put R (shown es) (k, a))
      → shown (match_ordering r ((k, w) ∷ e ∷ es) ((e.0, w) ∷ es) (e ∷ insert_entry R es k w)) ≡ match_ordering r ((k, a ∷ []) ∷ shown (e ∷ es)) ((e.0, f e.1 ++ a ∷ []) ∷ shown es) ((e.0, f e.1) ∷ put R (shown es) (k, a))
  new_at Less k a w e es none is rest = ap (λ l. (k, l) ∷ shown (e ∷ es)) is
  new_at Equal k a w e es none is rest = cc
  new_at Greater k a w e es none is rest = ap (λ l. (e.0, f e.1) ∷ l) (rest none)

  pub put_new : (k : K) (a : A) (w : X) (es : List (K × X)) → lookup (is_at (R k)) es ≡ None → f w ≡ a ∷ [] → shown (insert_entry R es k w) ≡ put R (shown es) (k, a)
  put_new k a w [] none is = ap (λ l. (k, l) ∷ []) is
  put_new k a w (e ∷ es) none is = new_at (R k e.0) k a w e es none is (λ rest. put_new k a w es rest is)

-- entries whose values are read as lists
abbrev pub read : {K X P : Type 0} → (X → List P) → List (K × X) → List (K × List P)
read f es = map (λ e. (e.0, f e.1)) es

-- groups whose values are read
abbrev pub mapped : {K A B : Type 0} → (A → B) → List (K × List A) → List (K × List B)
mapped f gs = map (λ g. (g.0, map f g.1)) gs

pub map_snoc : {A B : Type 0} (f : A → B) (xs : List A) (a : A) → map f (xs ++ a ∷ []) ≡ map f xs ++ f a ∷ []
map_snoc f [] a = refl
map_snoc f (x ∷ xs) a = ap (λ l. f x ∷ l) (map_snoc f xs a)

module _ {K A B : Type 0} (R : K → K → Ordering) (f : A → B) where
  mapped_at : (r : Ordering) (k : K) (a : A) (g : K × List A) (gs : List (K × List A)) → mapped f (put R gs (k, a)) ≡ put R (mapped f gs) (k, f a)
      → mapped f (match_ordering r ((k, a ∷ []) ∷ g ∷ gs) ((g.0, g.1 ++ a ∷ []) ∷ gs) (g ∷ put R gs (k, a))) ≡ match_ordering r ((k, f a ∷ []) ∷ mapped f (g ∷ gs)) ((g.0, map f g.1 ++ f a ∷ []) ∷ mapped f gs) ((g.0, map f g.1) ∷ put R (mapped f gs) (k, f a))
  mapped_at Less k a g gs rest = refl
  mapped_at Equal k a g gs rest = ap (λ (l : List B). (g.0, l) ∷ mapped f gs) (map_snoc f g.1 a)
  mapped_at Greater k a g gs rest = ap (λ (l : List (K × List B)). (g.0, map f g.1) ∷ l) rest

  -- a value put and then read is that value read and then put
  pub mapped_put : (k : K) (a : A) (gs : List (K × List A)) → mapped f (put R gs (k, a)) ≡ put R (mapped f gs) (k, f a)
  mapped_put k a [] = refl
  mapped_put k a (g ∷ gs) = mapped_at (R k g.0) k a g gs (mapped_put k a gs)

module _ {K P E : Type 0} (R : K → K → Ordering) (view : P → E) (key : E → K) where
  mapped_fold : (ps : List P) (gs : List (K × List P)) → mapped view (fold (put R) gs (keyed (λ (p : P). key (view p)) ps)) ≡ fold (put R) (mapped view gs) (keyed key (map view ps))
  mapped_fold [] gs = refl
  mapped_fold (p ∷ ps) gs = mapped_fold ps (put R gs (key (view p), p)) ∙ ap (λ (l : List (K × List E)). fold (put R) l (keyed key (map view ps))) (mapped_put R view (key (view p)) p gs)

  -- groups of values, each read, are the groups of what is read
  pub grouped_all : (ps : List P) (gs : List (K × List P)) → gs ≡ fold (put R) [] (keyed (λ (p : P). key (view p)) ps) → mapped view gs ≡ groups R (keyed key (map view ps))
  unfolding groups
  grouped_all ps gs e = ap (λ (l : List (K × List P)). mapped view l) e ∙ mapped_fold ps []

pub read_twice : {K X P E : Type 0} (f : X → List P) (view : P → E) (es : List (K × X)) → read (λ (x : X). map view (f x)) es ≡ mapped view (read f es)
read_twice f view [] = refl
read_twice {K} {X} {P} {E} f view (e ∷ es) = ap (λ (l : List (K × List E)). (e.0, map view (f e.1)) ∷ l) (read_twice f view es)

-- the groups of a map's entries, as those of what its values are read as
pub grouped_rows : {K X P E : Type 0} (R : K → K → Ordering) (view : P → E) (key : E → K) (f : X → List P) (list es : List (K × X)) (ps : List P) → list ≡ es → read f es ≡ fold (put R) [] (keyed (λ (p : P). key (view p)) ps)
    → read (λ (x : X). map view (f x)) list ≡ groups R (keyed key (map view ps))
grouped_rows {K} {X} {P} {E} R view key f list es ps same is =
    ap (λ (l : List (K × X)). read (λ (x : X). map view (f x)) l) same ∙ read_twice f view es ∙ grouped_all R view key ps (read f es) is

-- one value more of a list, put
pub one_more : {A K B : Type 0} (R : K → K → Ordering) (h : A → K × B) (xs : List A) (first old new : List (K × List B)) (i : ℕ) (d : A) → i < length xs → old ≡ fold (put R) first (map h (take i xs)) → new ≡ put R old (h (get_or xs i d))
    → new ≡ fold (put R) first (map h (take (i + 1) xs))
one_more {A} {K} {B} R h xs first old new i d lt is more =
    more ∙ ap (λ (l : List (K × List B)). put R l (h (get_or xs i d))) is ∙ sym (fold-append (put R) first (map h (take i xs)) (h (get_or xs i d) ∷ [])) ∙ ap (fold (put R) first) (sym (map_more h xs i d lt))

-- the same of values that are taken one after the other
pub one_after : {A K B : Type 0} (R : K → K → Ordering) (h : A → K × B) (xs : List A) (x : A) (first old new : List (K × List B)) → old ≡ fold (put R) first (map h xs) → new ≡ put R old (h x) → new ≡ fold (put R) first (map h (xs ++ x ∷ []))
one_after {A} {K} {B} R h xs x first old new is more =
    more ∙ ap (λ (l : List (K × List B)). put R l (h x)) is ∙ sym (fold-append (put R) first (map h xs) (h x ∷ [])) ∙ ap (fold (put R) first) (sym (map_snoc h xs x))

-- the values of groups in the order of their keys, each read
abbrev values : {K P : Type 0} → List (K × List P) → List P
values gs = flat_map (λ g. g.1) gs

read_flat : {K P E : Type 0} (view : P → E) (gs : List (K × List P)) → map view (values gs) ≡ values (mapped view gs)
read_flat view [] = refl
read_flat {K} {P} {E} view (g ∷ gs) = map-append view g.1 (values gs) ∙ ap (λ (l : List E). map view g.1 ++ l) (read_flat view gs)

flat_read : {K X P : Type 0} (f : X → List P) (es : List (K × X)) → flat_map (λ (e : K × X). f e.1) es ≡ values (read f es)
flat_read f [] = refl
flat_read {K} {X} {P} f (e ∷ es) = ap (λ (l : List P). f e.1 ++ l) (flat_read f es)

pub ordered_all : {K X P E : Type 0} (R : K → K → Ordering) (view : P → E) (key : E → K) (f : X → List P) (all : List P) (es : List (K × X)) (ps : List P) → all ≡ flat_map (λ (e : K × X). f e.1) es → read f es ≡ fold (put R) [] (keyed (λ (p : P). key (view p)) ps)
    → map view all ≡ in_order R (keyed key (map view ps))
unfolding in_order
ordered_all {K} {X} {P} {E} R view key f all es ps same is =
    ap (λ (l : List P). map view l) (same ∙ flat_read f es) ∙ read_flat view (read f es) ∙ ap (λ (l : List (K × List E)). values l) (grouped_all R view key ps (read f es) is)

-- one value more, put where it passes a test
kept_at : {A K B : Type 0} (R : K → K → Ordering) (h : A → K × B) (xs : List A) (x : A) (first old : List (K × List B)) (b : Bool) → old ≡ fold (put R) first (map h xs) → cond b (put R old (h x)) old ≡ fold (put R) first (map h (xs ++ cond b (x ∷ []) []))
kept_at R h xs x first old true is = one_after R h xs x first old (put R old (h x)) is refl
kept_at {A} R h xs x first old false is = is ∙ ap (λ (l : List A). fold (put R) first (map h l)) (sym (append-nil xs))

pub one_kept : {A K B : Type 0} (R : K → K → Ordering) (p : A → Bool) (h : A → K × B) (xs : List A) (first old new : List (K × List B)) (i : ℕ) (d : A) → i < length xs → old ≡ fold (put R) first (map h (filter p (take i xs)))
    → new ≡ cond (p (get_or xs i d)) (put R old (h (get_or xs i d))) old → new ≡ fold (put R) first (map h (filter p (take (i + 1) xs)))
one_kept {A} R p h xs first old new i d lt is more =
    more ∙ kept_at R h (filter p (take i xs)) (get_or xs i d) first old (p (get_or xs i d)) is ∙ ap (λ (l : List A). fold (put R) first (map h l)) (sym (filter_more p xs i d lt))

-- what passes a test once it is read
read_at : {A B : Type 0} (view : A → B) (b : Bool) (x : A) (xs : List A) → map view (cond b (x ∷ xs) xs) ≡ cond b (view x ∷ map view xs) (map view xs)
read_at view true x xs = refl
read_at view false x xs = refl

pub filter_read : {A B : Type 0} (view : A → B) (p : B → Bool) (xs : List A) → map view (filter (λ x. p (view x)) xs) ≡ filter p (map view xs)
filter_read view p [] = refl
filter_read {A} {B} view p (x ∷ xs) = read_at view (p (view x)) x (filter (λ y. p (view y)) xs) ∙ ap (λ (l : List B). cond (p (view x)) (view x ∷ l) l) (filter_read view p xs)
