-- The incarnations of two gateways, walked together.
use Rattle.std.proofs.Common.{◌≡◌, ℕ, ◌+◌, ◌^◌, zero, suc, ◌≤◌, nat_le, vec_capacity, true≢false, Bool, true, false, not, ◌&&◌, cond, List, [], ◌∷◌, ◌++◌, map, length, get_or, Some, None, refl, sym, ap, subst, ◌∙◌, arith, count_by, append_assoc, append-nil}
use Rattle.std.proofs.lemmas.Bool.{and_from, and_parts}
use Rattle.std.specs.Prelude.{slice_get, is_none}
use Rattle.std.specs.List.{list_all}
use Rattle.std.specs.Option.{option_eq}
use Rattle.std.specs.FinMap.{entries, get-entries, entries-from_sorted, entries_sorted, same_map}
use Rattle.std.specs.FinMap.Entries.{by_order, find, is_sorted}
use Rattle.std.specs.declared.cmp.Ordering.{Ordering}
use Rattle.std.specs.declared.cmp.Ordering.TheVariants.{Less, Equal, Greater}
use Rattle.std.proofs.lemmas.List.{map-append}
use Rattle.std.proofs.lemmas.List.Sums.{sum_by-append, count_by-le-length}
use Rattle.point_kit.specs.Equality.{payload_eq, cell_eq}
use Rattle.point_kit.specs.Join.{join_cells, join_options}
use Rattle.point_kit.specs.Orders.{key_cmp}
use Rattle.point_kit.specs.declared.cell.Cell.{Cell}
use Rattle.point_kit.specs.declared.payload.Payload.{Payload}
use Rattle.point_kit.proofs.StateLaws.{get-join_maps}
use Rattle.gateway_kit.specs.Amending.{with_change, with_changes}
use Rattle.gateway_kit.specs.Bringing.{Brings, is_new, is_change}
use Rattle.gateway_kit.specs.Changing.{KeyedCell, Prepares, after_growth, replacement}
use Rattle.gateway_kit.specs.Growth.{cells_at}
use Rattle.gateway_kit.specs.Keys.{IncarnationKey, incarnation_cmp, item_cmp, keyed_cell_of, whole_key}
use Rattle.gateway_kit.specs.Merging.{MergeDrafts, Merges, join_cell_maps, cells_after, number_within}
use Rattle.gateway_kit.specs.IncarnationState.{IncarnationState, Cells}
use Rattle.gateway_kit.specs.Incarnations.{all_points, keyed_cells, has_some, has_cells, entries_at, flatten}
use Rattle.gateway_kit.specs.Weave.{weave}
use Rattle.gateway_kit.specs.declared.changes.Changes.{Changes}
use Rattle.gateway_kit.proofs.Counting.{count_map}
use Rattle.gateway_kit.proofs.Drafting.{found_place}
use Rattle.gateway_kit.proofs.Entries.{on_keys, as_T, as_true, sorted_weave, is_sorted-with_changes}
use Rattle.gateway_kit.proofs.Finishing.{sorted_grown}
use Rattle.gateway_kit.proofs.Joining.{find_listed, under}
use Rattle.gateway_kit.specs.KeyOrders.{incarnation_total, incarnation_exact, item_total, item_exact}
use Rattle.gateway_kit.proofs.Prepared.{brings_none, brings_changed, brings_fresh, brings_join}

entries_made : (m : Cells) (c : Changes) → entries (cells_after m c) ≡ after_growth (entries m) c
entries_made m c = entries-from_sorted item_cmp (after_growth (entries m) c) (as_T (sorted_grown (entries m) c (as_true _ (entries_sorted m))))

-- changes that were prepared make the join
pub made_join : (m t : Cells) (c : Changes) → Prepares (entries m) (entries t) c → cells_after m c ≡ join_cell_maps m t
made_join m t c prepared = same_map item_total item_exact _ _ (λ q.
    get-entries (cells_after m c) q ∙ ap (find item_cmp q) (entries_made m c) ∙ prepared.joined q
    ∙ sym (get-join_maps item_total item_exact (join_cells payload_eq) m t q ∙ (λ i. join_options (join_cells payload_eq) (get-entries m q i) (get-entries t q i))))

-- ---- counts

count_append : {A : Type 0} (p : A → Bool) (xs ys : List A) → count_by p (xs ++ ys) ≡ count_by p xs + count_by p ys
count_append p xs ys = sum_by-append (λ x. cond (p x) 1 0) xs ys

flatten_append : (xs ys : List (IncarnationKey × Cells)) → flatten whole_key (xs ++ ys) ≡ flatten whole_key xs ++ flatten whole_key ys
flatten_append [] ys = refl
flatten_append (x ∷ xs) ys = ap (λ l. map (λ e. (whole_key x.0 e.0, e.1)) (entries x.1) ++ l) (flatten_append xs ys) ∙ sym (append_assoc (map (λ e. (whole_key x.0 e.0, e.1)) (entries x.1)) (flatten whole_key xs) (flatten whole_key ys))

all_points_push : (incarnations : List IncarnationState) (p : IncarnationState) → all_points (incarnations ++ p ∷ []) ≡ all_points incarnations ++ under (p.writer, p.start) (entries p.cells)
all_points_push incarnations p =
    ap (flatten whole_key) (map-append keyed_cells incarnations (p ∷ [])) ∙ flatten_append (map keyed_cells incarnations) (keyed_cells p ∷ [])
    ∙ ap (λ l. all_points incarnations ++ l) (append-nil (under (p.writer, p.start) (entries p.cells)))

module _ (olds : List IncarnationState) (sorted : is_sorted incarnation_cmp (map keyed_cells olds) ≡ true) (came : List IncarnationState) (p : IncarnationState) where
  new_more : count_by (is_new key_cmp (all_points olds)) (all_points (came ++ p ∷ [])) ≡ count_by (is_new key_cmp (all_points olds)) (all_points came) + count_by (is_new item_cmp (cells_at (p.writer, p.start) olds)) (entries p.cells)
  new_more =
      ap (count_by (is_new key_cmp (all_points olds))) (all_points_push came p) ∙ count_append (is_new key_cmp (all_points olds)) (all_points came) (under (p.writer, p.start) (entries p.cells))
      ∙ ap (λ (n : ℕ). count_by (is_new key_cmp (all_points olds)) (all_points came) + n) (count_map (is_new key_cmp (all_points olds)) (is_new item_cmp (cells_at (p.writer, p.start) olds)) (λ t. (whole_key (p.writer, p.start) t.0, t.1)) (λ t. ap is_none (find_listed olds sorted (p.writer, p.start) t.0)) (entries p.cells))

  changed_more : count_by (is_change key_cmp (join_cells payload_eq) cell_eq (all_points olds)) (all_points (came ++ p ∷ [])) ≡ count_by (is_change key_cmp (join_cells payload_eq) cell_eq (all_points olds)) (all_points came) + count_by (is_change item_cmp (join_cells payload_eq) cell_eq (cells_at (p.writer, p.start) olds)) (entries p.cells)
  changed_more =
      ap (count_by (is_change key_cmp (join_cells payload_eq) cell_eq (all_points olds))) (all_points_push came p) ∙ count_append (is_change key_cmp (join_cells payload_eq) cell_eq (all_points olds)) (all_points came) (under (p.writer, p.start) (entries p.cells))
      ∙ ap (λ (n : ℕ). count_by (is_change key_cmp (join_cells payload_eq) cell_eq (all_points olds)) (all_points came) + n)
      (count_map (is_change key_cmp (join_cells payload_eq) cell_eq (all_points olds)) (is_change item_cmp (join_cells payload_eq) cell_eq (cells_at (p.writer, p.start) olds)) (λ t. (whole_key (p.writer, p.start) t.0, t.1))
      (λ t. ap (λ x. not (option_eq cell_eq x (join_options (join_cells payload_eq) x (Some t.1)))) (find_listed olds sorted (p.writer, p.start) t.0)) (entries p.cells))

count_all : (p : KeyedCell → Bool) → ((e : KeyedCell) → p e ≡ true) → (es : List KeyedCell) → count_by p es ≡ length es
count_all p all [] = refl
count_all p all (e ∷ es) =
    let rest : count_by p es ≡ length es = count_all p all es in
    let c : count_by p ((e ∷ []) ++ es) ≡ count_by p (e ∷ []) + count_by p es = count_append p (e ∷ []) es in
    let one : count_by p (e ∷ []) ≡ 0 + cond true 1 0 = ap (λ b. 0 + cond b 1 0) (all e) in
    omega (arith, c, one, rest)

number_within_more : (a c n m k : ℕ) → a ≡ number_within n → m ≡ n + k → c ≡ k → number_within (a + c) ≡ number_within m
number_within_more a c n m k p q r = omega arith

-- ---- one more incarnation

pub drafts_nothing : (olds : List IncarnationState) → MergeDrafts olds [] [] [] 0 0
drafts_nothing olds = record { brings = brings_none incarnation_cmp join_cell_maps cells_after (map keyed_cells olds); new = refl; changes = refl; filled = refl }

module _ (olds : List IncarnationState) (sorted : is_sorted incarnation_cmp (map keyed_cells olds) ≡ true) (came : List IncarnationState) (updates : List (ℕ × Changes)) (fresh : List IncarnationState) (more changed : ℕ) (so_far : MergeDrafts olds came updates fresh more changed) (p : IncarnationState) (first : find incarnation_cmp (p.writer, p.start) (map keyed_cells came) ≡ None) where
  pub drafts_incarnation_held : (place : ℕ) (mine : IncarnationState) (c : Changes) (u f : ℕ) → slice_get (map (λ e. e.0) (map keyed_cells olds)) place ≡ Some (p.writer, p.start) → mine ≡ get_or olds place mine → Prepares (entries mine.cells) (entries p.cells) c → f ≡ length c.fresh.items → u ≡ length c.updates.items + length c.fresh.items → MergeDrafts olds (came ++ p ∷ []) (updates ++ (place, c) ∷ []) fresh (number_within (more + f)) (number_within (changed + u))
  drafts_incarnation_held place mine c u f at is prepared fs us =
      let there : find incarnation_cmp (p.writer, p.start) (map keyed_cells olds) ≡ Some mine.cells = found_place keyed_cells incarnation_total olds place mine (p.writer, p.start) (as_T sorted) at is in
      let here : cells_at (p.writer, p.start) olds ≡ entries mine.cells = ap entries_at there in
      record {
        brings = subst (λ (l : List (IncarnationKey × Cells)). Brings incarnation_cmp join_cell_maps cells_after (map keyed_cells olds) l (updates ++ (place, c) ∷ []) (map keyed_cells fresh)) (sym (map-append keyed_cells came (p ∷ [])))
            (brings_changed incarnation_cmp join_cell_maps cells_after incarnation_total incarnation_exact (map keyed_cells olds) (map keyed_cells came) updates (map keyed_cells fresh) so_far.brings (p.writer, p.start) p.cells first (as_T sorted) mine.cells place c there at (made_join mine.cells p.cells c prepared));
        new = number_within_more more f _ _ _ so_far.new (new_more olds sorted came p) (fs ∙ sym prepared.new ∙ ap (λ es. count_by (is_new item_cmp es) (entries p.cells)) (sym here));
        changes = number_within_more changed u _ _ _ so_far.changes (changed_more olds sorted came p) (us ∙ sym prepared.changed ∙ ap (λ es. count_by (is_change item_cmp (join_cells payload_eq) cell_eq es) (entries p.cells)) (sym here));
        filled = so_far.filled;
      }

  pub drafts_incarnation_new : (copy : IncarnationState) (n : ℕ) → copy ≡ p → find incarnation_cmp (p.writer, p.start) (map keyed_cells olds) ≡ None → has_cells p ≡ true → n ≡ length (entries p.cells) → MergeDrafts olds (came ++ p ∷ []) updates (fresh ++ copy ∷ []) (number_within (more + n)) (number_within (changed + n))
  drafts_incarnation_new copy n same none some ns =
      let here : cells_at (p.writer, p.start) olds ≡ [] = ap entries_at none in
      record {
        brings = subst (λ (l : List (IncarnationKey × Cells)). Brings incarnation_cmp join_cell_maps cells_after (map keyed_cells olds) l updates (map keyed_cells (fresh ++ copy ∷ []))) (sym (map-append keyed_cells came (p ∷ [])))
            (subst (λ (l : List (IncarnationKey × Cells)). Brings incarnation_cmp join_cell_maps cells_after (map keyed_cells olds) (map keyed_cells came ++ keyed_cells p ∷ []) updates l) (sym (map-append keyed_cells fresh (copy ∷ []) ∙ ap (λ (q : IncarnationState). map keyed_cells fresh ++ keyed_cells q ∷ []) same))
            (brings_fresh incarnation_cmp join_cell_maps cells_after incarnation_total incarnation_exact (map keyed_cells olds) (map keyed_cells came) updates (map keyed_cells fresh) so_far.brings (p.writer, p.start) p.cells first none));
        new = number_within_more more n _ _ _ so_far.new (new_more olds sorted came p) (ns ∙ sym (ap (λ es. count_by (is_new item_cmp es) (entries p.cells)) here ∙ count_all (is_new item_cmp []) (λ e. refl) (entries p.cells)));
        changes = number_within_more changed n _ _ _ so_far.changes (changed_more olds sorted came p) (ns ∙ sym (ap (λ es. count_by (is_change item_cmp (join_cells payload_eq) cell_eq es) (entries p.cells)) here ∙ count_all (is_change item_cmp (join_cells payload_eq) cell_eq []) (λ e. refl) (entries p.cells)));
        filled = all_push has_cells fresh copy so_far.filled (ap (λ (q : IncarnationState). has_cells q) same ∙ some);
      }
    where
      all_push : {A : Type 0} (test : A → Bool) (xs : List A) (x : A) → list_all test xs ≡ true → test x ≡ true → list_all test (xs ++ x ∷ []) ≡ true
      all_push test [] x h t = ap (λ b. b && true) t
      all_push test (y ∷ xs) x h t = and_from (test y) (list_all test (xs ++ x ∷ [])) ((and_parts (test y) (list_all test xs) h).0) (all_push test xs x ((and_parts (test y) (list_all test xs) h).1) t)

-- ---- incarnations with cells stay so

pub filled_incarnations : (incarnations : List IncarnationState) → list_all has_cells incarnations ≡ list_all (λ e. has_some (entries e.1)) (map keyed_cells incarnations)
filled_incarnations [] = refl
filled_incarnations (p ∷ incarnations) = ap (λ b. has_cells p && b) (filled_incarnations incarnations)

some_with_changes : (es : List KeyedCell) (us : List (ℕ × Cell Payload)) → has_some (with_changes replacement es us) ≡ has_some es
some_with_changes es [] = refl
some_with_changes es (u ∷ us) = some_with_changes (with_change replacement es u.0 u.1) us ∙ one es u.0 u.1
  where
    one : (es : List KeyedCell) (i : ℕ) (c : Cell Payload) → has_some (with_change replacement es i c) ≡ has_some es
    one [] i c = refl
    one (e ∷ es) zero c = refl
    one (e ∷ es) (suc i) c = refl

some_weave : (es fs : List KeyedCell) → has_some es ≡ true → has_some (weave (on_keys item_cmp) es fs) ≡ true
some_weave [] fs h = absurd (true≢false (sym h))
some_weave (e ∷ es) [] h = refl
some_weave (e ∷ es) (f ∷ fs) h = elim (item_cmp e.0 f.0) as (λ r. has_some (by_order r (e ∷ weave (on_keys item_cmp) es (f ∷ fs)) (e ∷ weave (on_keys item_cmp) es fs) (f ∷ weave (on_keys item_cmp) (e ∷ es) fs)) ≡ true) [ Less ↦ refl | Equal ↦ refl | Greater ↦ refl ]

some_made : (m : Cells) (c : Changes) → has_some (entries m) ≡ true → has_some (entries (cells_after m c)) ≡ true
some_made m c h =
    let kept : has_some (with_changes replacement (entries m) c.updates.items) ≡ true = some_with_changes (entries m) c.updates.items ∙ h in
    ap has_some (entries_made m c)
    ∙ elim (nat_le (length (entries m) + length c.fresh.items) (vec_capacity c.room)) as (λ b. has_some (cond b (weave (on_keys item_cmp) (with_changes replacement (entries m) c.updates.items) (map keyed_cell_of c.fresh.items)) (with_changes replacement (entries m) c.updates.items)) ≡ true) [
      | true ↦ some_weave (with_changes replacement (entries m) c.updates.items) (map keyed_cell_of c.fresh.items) kept
      | false ↦ kept
    ]

pub filled_with_changes : (ps : List (IncarnationKey × Cells)) (us : List (ℕ × Changes)) → list_all (λ e. has_some (entries e.1)) ps ≡ true → list_all (λ e. has_some (entries e.1)) (with_changes cells_after ps us) ≡ true
filled_with_changes ps [] h = h
filled_with_changes ps (u ∷ us) h = filled_with_changes (with_change cells_after ps u.0 u.1) us (one ps u.0 u.1 h)
  where
    one : (ps : List (IncarnationKey × Cells)) (i : ℕ) (c : Changes) → list_all (λ e. has_some (entries e.1)) ps ≡ true → list_all (λ e. has_some (entries e.1)) (with_change cells_after ps i c) ≡ true
    one [] i c h = refl
    one (p ∷ ps) zero c h = and_from (has_some (entries (cells_after p.1 c))) (list_all (λ e. has_some (entries e.1)) ps) (some_made p.1 c ((and_parts (has_some (entries p.1)) (list_all (λ e. has_some (entries e.1)) ps) h).0)) ((and_parts (has_some (entries p.1)) (list_all (λ e. has_some (entries e.1)) ps) h).1)
    one (p ∷ ps) (suc i) c h = and_from (has_some (entries p.1)) (list_all (λ e. has_some (entries e.1)) (with_change cells_after ps i c)) ((and_parts (has_some (entries p.1)) (list_all (λ e. has_some (entries e.1)) ps) h).0) (one ps i c ((and_parts (has_some (entries p.1)) (list_all (λ e. has_some (entries e.1)) ps) h).1))

pub all_weave : {A : Type 0} (R : A → A → Ordering) (test : A → Bool) (xs ys : List A) → list_all test xs ≡ true → list_all test ys ≡ true → list_all test (weave R xs ys) ≡ true
all_weave R test [] ys g h = h
all_weave R test (x ∷ xs) [] g h = g
all_weave R test (x ∷ xs) (y ∷ ys) g h =
    let x_is = (and_parts (test x) (list_all test xs) g).0 in
    let xs_are = (and_parts (test x) (list_all test xs) g).1 in
    let y_is = (and_parts (test y) (list_all test ys) h).0 in
    let ys_are = (and_parts (test y) (list_all test ys) h).1 in
    elim (R x y) as (λ r. list_all test (by_order r (x ∷ weave R xs (y ∷ ys)) (x ∷ weave R xs ys) (y ∷ weave R (x ∷ xs) ys)) ≡ true) [
      | Less ↦ and_from (test x) (list_all test (weave R xs (y ∷ ys))) x_is (all_weave R test xs (y ∷ ys) xs_are h)
      | Equal ↦ and_from (test x) (list_all test (weave R xs ys)) x_is (all_weave R test xs ys xs_are ys_are)
      | Greater ↦ and_from (test y) (list_all test (weave R (x ∷ xs) ys)) y_is (all_weave R test (x ∷ xs) ys g ys_are)
    ]

-- ---- all incarnations

module _ (olds theirs : List IncarnationState) (sorted : is_sorted incarnation_cmp (map keyed_cells olds) ≡ true) (filled : list_all has_cells olds ≡ true) (updates : List (ℕ × Changes)) (fresh in_order : List IncarnationState) (more changed : ℕ) (drafts : MergeDrafts olds theirs updates fresh more changed) (rising : is_sorted incarnation_cmp (map keyed_cells in_order) ≡ true) (same : (k : IncarnationKey) → find incarnation_cmp k (map keyed_cells in_order) ≡ find incarnation_cmp k (map keyed_cells fresh)) (with_cells : list_all has_cells in_order ≡ true) (few : length (all_points theirs) ≤ 2 ^ 62) where
  uncapped : (m n : ℕ) → m ≡ number_within n → n ≤ length (all_points theirs) → m ≡ n
  uncapped m n e h = omega (arith, few)

  pub incarnations_merged : (news : List IncarnationState) → map keyed_cells news ≡ weave (on_keys incarnation_cmp) (with_changes cells_after (map keyed_cells olds) updates) (map keyed_cells in_order) → Merges olds news theirs more changed
  incarnations_merged news is = record {
    sorted = ap (is_sorted incarnation_cmp) is ∙ as_true _ (sorted_weave incarnation_total (with_changes cells_after (map keyed_cells olds) updates) (map keyed_cells in_order) (as_T (is_sorted-with_changes incarnation_total cells_after (map keyed_cells olds) updates ∙ sorted)) (as_T rising));
    filled = filled_incarnations news ∙ ap (list_all (λ e. has_some (entries e.1))) is ∙ all_weave (on_keys incarnation_cmp) (λ e. has_some (entries e.1)) (with_changes cells_after (map keyed_cells olds) updates) (map keyed_cells in_order) (filled_with_changes (map keyed_cells olds) updates (sym (filled_incarnations olds) ∙ filled)) (sym (filled_incarnations in_order) ∙ with_cells);
    found = λ k. ap (find incarnation_cmp k) is ∙ brings_join incarnation_cmp join_cell_maps cells_after incarnation_total (map keyed_cells olds) (map keyed_cells theirs) updates (map keyed_cells fresh) (map keyed_cells in_order) (as_T sorted) (as_T rising) same drafts.brings k;
    more_keys = uncapped more _ drafts.new (count_by-le-length (is_new key_cmp (all_points olds)) (all_points theirs));
    changes = uncapped changed _ drafts.changes (count_by-le-length (is_change key_cmp (join_cells payload_eq) cell_eq (all_points olds)) (all_points theirs));
  }

-- the keys of incarnations
pub keys_of_incarnations : (ps : List IncarnationState) → map (λ e. e.0) (map keyed_cells ps) ≡ map (λ p. (keyed_cells p).0) ps
keys_of_incarnations [] = refl
keys_of_incarnations (p ∷ ps) = ap (λ l. (keyed_cells p).0 ∷ l) (keys_of_incarnations ps)
