-- The groups of all cells are the rows of the roll-up.
use Rattle.std.proofs.Common.{◌≡◌, ℕ, ℤ, Bool, true, false, cond, ◌&&◌, T, List, [], ◌∷◌, map, filter, Option, Some, None, refl, sym, ap, subst, ◌∙◌}
use Rattle.std.specs.BTreeMap.{is_at}
use Rattle.std.specs.Cmp.{IsTotalOrder, Equal-is}
use Rattle.std.specs.Map.{lookup}
use Rattle.std.specs.Option.{option_map}
use Rattle.std.specs.declared.cmp.Ordering.{Ordering}
use Rattle.std.specs.Ordering.{eq_by_cmp, is_lt}
use Rattle.std.specs.FinMap as finmap
use Rattle.std.specs.FinMap.{FinMap, IsAntisymmetric, entries, entries_sorted, from_sorted, entries-from_sorted, get-from_sorted, get-from_entries, get-entries, same_map}
use Rattle.std.specs.FinMap.Entries.{find, is_sorted, below_all}
use Rattle.point_kit.specs.Orders.{key_cmp}
use Rattle.point_kit.specs.declared.cell.Cell.{Cell}
use Rattle.point_kit.specs.declared.payload.Payload.{Payload}
use Rattle.point_kit.specs.declared.shape.Shape.{Shape}
use Rattle.point_kit.specs.declared.shape.Shape.TheVariants as shapes
use Rattle.schedule_kit.specs.Rows as rows
use Rattle.point_kit.proofs.StateLaws.{find-tabulated}
use Rattle.rollup_kit.specs.Asks.{Attributes, attributes_cmp, asks, group}
use Rattle.rollup_kit.specs.Groups.{Grouped}
use Rattle.rollup_kit.specs.Parts.{Parts, no_parts, plus_parts, parts_of}
use Rattle.rollup_kit.specs.Rollups.{newest, total_of, row_of, rollup_rows}
use Rattle.rollup_kit.specs.Standing.{group_of, row_among, is_row, Stands}
use Rattle.rollup_kit.specs.Walks.{Rows, buckets_of, total_read, row_read}
use Rattle.rollup_kit.specs.declared.ask.Ask.{Ask}
use Rattle.rollup_kit.proofs.SetOrders.{sets_total, sets_exact}

as_T : {b : Bool} → b ≡ true → T b
as_T e = subst T (sym e) tt

pub so : (b : Bool) → T b → b ≡ true
so true h = refl
so false h = absurd h

-- a look-up by an order
module _ {K V : Type 0} (R : K → K → Ordering) where
  pub find-lookup : (q : K) (es : List (K × V)) → find R q es ≡ lookup (is_at (R q)) es
  find-lookup q [] = refl
  find-lookup q (e ∷ es) = ap (cond (is_at (R q) e.0) (Some e.1)) (find-lookup q es)

-- entries read in another way, key by key
module _ {K A B : Type 0} {R : K → K → Ordering} (o : IsTotalOrder R) (anti : IsAntisymmetric R) (read : K → A → B) where
  abbrev reads : List (K × A) → List (K × B)
  reads es = map (λ e. (e.0, read e.0 e.1)) es

  below-reads : (x : K) (es : List (K × A)) → below_all R x (reads es) ≡ below_all R x es
  below-reads x [] = refl
  below-reads x (e ∷ es) = ap (λ b. is_lt (R x e.0) && b) (below-reads x es)

  sorted-reads : (es : List (K × A)) → is_sorted R (reads es) ≡ is_sorted R es
  sorted-reads [] = refl
  sorted-reads (e ∷ es) = λ i. below-reads e.0 es i && sorted-reads es i

  find-reads : (q : K) (es : List (K × A)) → find R q (reads es) ≡ option_map (read q) (find R q es)
  find-reads q [] = refl
  find-reads q (e ∷ es) =
      elim (eq_by_cmp R q e.0) as (λ b. eq_by_cmp R q e.0 ≡ b → cond b (Some (read e.0 e.1)) (find R q (reads es)) ≡ option_map (read q) (cond b (Some e.1) (find R q es))) [
        | true ↦ λ t. ap (λ k. Some (read k e.1)) (sym (anti q e.0 ((Equal-is (R q e.0)).0 t)))
        | false ↦ λ t. find-reads q es
      ] refl

  -- a list in order that has at each key what a map has, read so
  pub mapped_entries : (es : List (K × B)) (m : FinMap R A) → is_sorted R es ≡ true → ((q : K) → find R q es ≡ option_map (read q) (finmap.get m q)) → es ≡ reads (entries m)
  mapped_entries es m sorted same =
      let other : is_sorted R (reads (entries m)) ≡ true = sorted-reads (entries m) ∙ so _ (entries_sorted m) in
      let both : from_sorted {R = R} es ≡ from_sorted {R = R} (reads (entries m)) = same_map o anti _ _ (λ q.
      get-from_sorted R es q (as_T sorted) ∙ same q ∙ ap (option_map (read q)) (get-entries m q) ∙ sym (find-reads q (entries m)) ∙ sym (get-from_sorted R (reads (entries m)) q (as_T other))) in
      sym (entries-from_sorted R es (as_T sorted)) ∙ ap (λ (f : FinMap R B). entries f) both ∙ entries-from_sorted R (reads (entries m)) (as_T other)

  map-reads : {C : Type 0} (f : K → B → C) (es : List (K × A)) → map (λ e. f e.0 e.1) (reads es) ≡ map (λ e. f e.0 (read e.0 e.1)) es
  map-reads f [] = refl
  map-reads f (e ∷ es) = ap (λ l. f e.0 (read e.0 e.1) ∷ l) (map-reads f es)

total_same : (shape : Shape) (row : rows.Row Parts) (value : Option (ℕ × ℤ)) → total_read shape (group_of (buckets_of shape) row value) ≡ total_of shape row.total value
total_same (shapes.Sum monotonic) row value = refl
total_same shapes.Gauge row value = refl
total_same (shapes.Histogram bounds) row value = refl

map_same : {A B : Type 0} (f g : A → B) → ((x : A) → f x ≡ g x) → (xs : List A) → map f xs ≡ map g xs
map_same f g h xs = λ i. map (λ x. h x i) xs

pub answered : (ask : Ask) (state : FinMap key_cmp (Cell Payload)) (groups : Rows) → is_sorted attributes_cmp groups ≡ true → Stands ask (buckets_of ask.stream.shape) (entries state) groups
    → map (λ e. row_read ask.stream.shape e.0 e.1) groups ≡ rollup_rows ask state
unfolding rollup_rows
answered ask state groups ordered stands =
    let n = buckets_of ask.stream.shape in
    let cells = entries state in
    let m : FinMap attributes_cmp (rows.Row Parts) = rows.rollup attributes_cmp no_parts plus_parts (asks ask) (group ask) parts_of state in
    let read : Attributes → rows.Row Parts → Grouped = λ q r. group_of n r (newest ask cells q) in
    let has : (q : Attributes) → finmap.get m q ≡ cond (is_row ask cells q) (Some (row_among ask cells q)) None = λ q. get-from_entries sets_total _ q ∙ find-tabulated sets_total sets_exact (λ g. Some (row_among ask cells g)) q (map (λ e. group ask e.0) (filter (λ e. asks ask e.0) cells)) in
    let found : (q : Attributes) → find attributes_cmp q groups ≡ option_map (read q) (finmap.get m q) = λ q.
    find-lookup attributes_cmp q groups ∙ stands q
    ∙ elim (is_row ask cells q) as (λ b. cond b (Some (group_of n (row_among ask cells q) (newest ask cells q))) None ≡ option_map (read q) (cond b (Some (row_among ask cells q)) None)) [ true ↦ refl | false ↦ refl ]
    ∙ sym (ap (option_map (read q)) (has q)) in
    ap (map (λ e. row_read ask.stream.shape e.0 e.1)) (mapped_entries sets_total sets_exact read groups m ordered found)
    ∙ map-reads sets_total sets_exact read (row_read ask.stream.shape) (entries m)
    ∙ map_same (λ e. row_read ask.stream.shape e.0 (read e.0 e.1)) (λ e. row_of ask e.0 e.1 (newest ask cells e.0))
    (λ e i. record { attrs = e.0; total = total_same ask.stream.shape e.1 (newest ask cells e.0) i; points = e.1.points; conflicts = e.1.conflicts }) (entries m)
