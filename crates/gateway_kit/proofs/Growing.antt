-- One incarnation changed in its place, or put in where it belongs.
use Rattle.std.proofs.Common.{◌≡◌, ◌≢◌, ℕ, zero, suc, ◌+◌, ◌<◌, Bool, true, cond, List, [], ◌∷◌, map, length, get_or, Option, Some, None, Result, Ok, Err, IfOk, refl, sym, ap, subst, ◌∙◌, arith, true≢false, is_some, count_by}
use Rattle.std.proofs.lemmas.Bool.{and_from, and_parts}
use Rattle.std.specs.Prelude.{OnOk, slice_get, slice_set}
use Rattle.std.specs.Option.{option_map}
use Rattle.std.specs.List.{list_all, insert}
use Rattle.std.specs.Ordering.{eq_by_cmp}
use Rattle.std.specs.FinMap.{entries, from_sorted, entries-from_sorted, entries_sorted, empty}
use Rattle.std.specs.FinMap.Entries.{find, is_sorted, put, find-put, is_sorted-put}
use Rattle.point_kit.specs.declared.export.Export.{Export}
use Rattle.point_kit.specs.declared.cell.Cell.{Cell}
use Rattle.point_kit.specs.declared.payload.Payload.{Payload}
use Rattle.point_kit.specs.declared.export_point.ExportPoint.{ExportPoint}
use Rattle.point_kit.specs.Join.{join_cells}
use Rattle.point_kit.specs.Equality.{payload_eq}
use Rattle.point_kit.specs.Join.{join_options}
use Rattle.gateway_kit.specs.Amending.{with_change}
use Rattle.gateway_kit.specs.Bringing.{is_new, is_change}
use Rattle.point_kit.specs.Equality.{cell_eq}
use Rattle.point_kit.specs.declared.cell.Held.TheVariants.{One}
use Rattle.gateway_kit.specs.Changing.{KeyedCell, Prepares, keyed_cells_of, after_growth}
use Rattle.gateway_kit.specs.Growth.{Grows, Joins, cells_at}
use Rattle.gateway_kit.specs.Keys.{IncarnationKey, ItemKey, incarnation_cmp, item_cmp}
use Rattle.gateway_kit.specs.IncarnationState.{IncarnationState, Cells}
use Rattle.gateway_kit.specs.Incarnations.{IsWhole, keyed_cells, has_some, has_cells, entries_at}
use Rattle.gateway_kit.specs.Places.{IsAt, IsGap}
use Rattle.gateway_kit.specs.declared.changes.Changes.{Changes}
use Rattle.gateway_kit.specs.declared.growth.Growth.{Growth}
use Rattle.gateway_kit.proofs.Drafting.{found_place}
use Rattle.gateway_kit.proofs.Entries.{as_T, as_true, is_sorted-with_change, find-with_change, itself, from_sorted-nil, not_None}
use Rattle.gateway_kit.proofs.ExportEntries.{point_key}
use Rattle.gateway_kit.proofs.Finishing.{sorted_grown}
use Rattle.gateway_kit.specs.KeyOrders.{incarnation_total, item_total}
use Rattle.gateway_kit.proofs.Moved.{set_with_change}

pub all_set : {A : Type 0} (p : A → Bool) (xs : List A) (i : ℕ) (y : A) → list_all p xs ≡ true → p y ≡ true → list_all p (slice_set xs i y) ≡ true
all_set p [] i y h t = refl
all_set p (x ∷ xs) zero y h t = and_from (p y) (list_all p xs) t ((and_parts (p x) (list_all p xs) h).1)
all_set p (x ∷ xs) (suc i) y h t = and_from (p x) (list_all p (slice_set xs i y)) ((and_parts (p x) (list_all p xs) h).0) (all_set p xs i y ((and_parts (p x) (list_all p xs) h).1) t)

pub all_insert : {A : Type 0} (p : A → Bool) (xs : List A) (i : ℕ) (y : A) → list_all p xs ≡ true → p y ≡ true → list_all p (insert xs i y) ≡ true
all_insert p [] zero y h t = and_from (p y) true t refl
all_insert p [] (suc i) y h t = and_from (p y) true t refl
all_insert p (x ∷ xs) zero y h t = and_from (p y) (list_all p (x ∷ xs)) t h
all_insert p (x ∷ xs) (suc i) y h t = and_from (p x) (list_all p (insert xs i y)) ((and_parts (p x) (list_all p xs) h).0) (all_insert p xs i y ((and_parts (p x) (list_all p xs) h).1) t)

pub map-insert : {A B : Type 0} (f : A → B) (xs : List A) (i : ℕ) (y : A) → map f (insert xs i y) ≡ insert (map f xs) i (f y)
map-insert f xs zero y = refl
map-insert f [] (suc i) y = refl
map-insert f (x ∷ xs) (suc i) y = ap (λ l. f x ∷ l) (map-insert f xs i y)

-- no cells
abbrev pub no_cells : Cells
no_cells = empty

pub entries-empty : entries no_cells ≡ []
entries-empty = sym (ap entries (from_sorted-nil {V = Cell Payload} {R = item_cmp})) ∙ entries-from_sorted item_cmp [] tt

-- where something is found there is something
pub some_found : (es : List KeyedCell) (b : ItemKey) (o : Option (Cell Payload)) → find item_cmp b es ≡ o → is_some o ≡ true → has_some es ≡ true
some_found [] b o is some = absurd (true≢false (sym some ∙ ap is_some (sym is)))
some_found (e ∷ es) b o is some = refl

-- entries with a key among them
abbrev pub HasEntry : List KeyedCell → Type 0
HasEntry came = (k : ItemKey) × (w : Cell Payload) × (find item_cmp k came ≡ Some w)

-- those of an export with points
pub export_entry : (e : Export) → e.points ≢ [] → HasEntry (keyed_cells_of e)
export_entry e some = go e.points some
  where
    go : (ps : List ExportPoint) → ps ≢ [] → HasEntry (map (λ q. (point_key q, record { time = e.time; held = One q.payload })) ps)
    go [] none = absurd (none refl)
    go (p ∷ ps) some = (
      point_key p,
      record { time = e.time; held = One p.payload },
      ap (λ b. cond b (Some (record { time = e.time; held = One p.payload })) (find item_cmp (point_key p) (map (λ q. (point_key q, record { time = e.time; held = One q.payload })) ps))) (itself item_total (point_key p)),
    )

-- one alone
pub lone_entry : (k : ItemKey) (w : Cell Payload) → HasEntry ((k, w) ∷ [])
lone_entry k w = (k, w, ap (λ b. cond b (Some w) None) (itself item_total k))

-- where something comes in there is something then
pub joins_some : (olds news came : List KeyedCell) (more changed : ℕ) → HasEntry came → Joins olds news came more changed → has_some news ≡ true
joins_some olds news came more changed h joins =
    some_found news h.0 (join_options (join_cells payload_eq) (find item_cmp h.0 olds) (find item_cmp h.0 came)) (joins.joined h.0)
    (ap (λ o. is_some (join_options (join_cells payload_eq) (find item_cmp h.0 olds) o)) h.2 ∙ some (find item_cmp h.0 olds))
  where
    some : (a : Option (Cell Payload)) → is_some (join_options (join_cells payload_eq) a (Some h.1)) ≡ true
    some None = refl
    some (Some v) = refl

-- a place at which a key stands is one of the list
pub within_at : {A K V : Type 0} (f : A → K × V) (xs : List A) (i : ℕ) (k : K) → slice_get (map (λ e. e.0) (map f xs)) i ≡ Some k → i < length xs
within_at f [] i k at = absurd (not_None at)
within_at f (x ∷ xs) zero k at = omega arith
within_at f (x ∷ xs) (suc i) k at = let rest = within_at f xs i k at in omega (arith, rest)

-- what was prepared for an incarnation's cells, installed
pub after_growth_joins : (old : IncarnationState) (cells : Cells) (came : List KeyedCell) (c : Changes) (more changed : ℕ) → Prepares (entries old.cells) came c → cells ≡ from_sorted (after_growth (entries old.cells) c) → more ≡ length c.fresh.items → changed ≡ length c.updates.items + length c.fresh.items → Joins (entries old.cells) (entries cells) came more changed
after_growth_joins old cells came c more changed prepared is m n =
    let grows : entries (from_sorted {R = item_cmp} (after_growth (entries old.cells) c)) ≡ after_growth (entries old.cells) c = entries-from_sorted item_cmp (after_growth (entries old.cells) c) (as_T (sorted_grown (entries old.cells) c (as_true _ (entries_sorted old.cells)))) in
    record {
      joined = λ b. ap (λ (cs : Cells). find item_cmp b (entries cs)) is ∙ ap (find item_cmp b) grows ∙ prepared.joined b;
      more_keys = m ∙ sym prepared.new;
      changes = n ∙ sym prepared.changed;
    }

-- one incarnation changed in its place, or put in where it belongs
module _ (olds : List IncarnationState) (len : ℕ) (whole : IsWhole olds len) (a : IncarnationKey) (came : List KeyedCell) (more changed : ℕ) where
  pub grows_at : (place : ℕ) (incarnation new : IncarnationState) (cells : Cells) → IsAt incarnation_cmp (map keyed_cells olds) a place → incarnation ≡ get_or olds place incarnation → keyed_cells new ≡ ((incarnation.writer, incarnation.start), cells) → has_some (entries cells) ≡ true → ((b : ItemKey) → find item_cmp b (entries cells) ≡ join_options (join_cells payload_eq) (find item_cmp b (entries incarnation.cells)) (find item_cmp b came)) → more ≡ count_by (is_new item_cmp (entries incarnation.cells)) came → changed ≡ count_by (is_change item_cmp (join_cells payload_eq) cell_eq (entries incarnation.cells)) came → Grows olds (slice_set olds place new) a came more changed
  grows_at place incarnation new cells at is new_is some joined m n =
      let there : find incarnation_cmp a (map keyed_cells olds) ≡ Some incarnation.cells = found_place keyed_cells incarnation_total olds place incarnation a (as_T whole.sorted) at is in
      let here : cells_at a olds ≡ entries incarnation.cells = ap entries_at there in
      let moved : map keyed_cells (slice_set olds place new) ≡ with_change (λ old cs. cs) (map keyed_cells olds) place cells = set_with_change keyed_cells (λ old cs. cs) olds place incarnation new cells (within_at keyed_cells olds place a at) is new_is in
      record {
        sorted = ap (is_sorted incarnation_cmp) moved ∙ is_sorted-with_change incarnation_total (λ (old : Cells) cs. cs) (map keyed_cells olds) place cells ∙ whole.sorted;
        filled = all_set has_cells olds place new whole.filled (ap (λ (e : IncarnationKey × Cells). has_some (entries e.1)) new_is ∙ some);
        cells = cells;
        found = λ k. ap (find incarnation_cmp k) moved ∙ find-with_change incarnation_total (λ (old : Cells) cs. cs) k a (map keyed_cells olds) place cells (as_T whole.sorted) at ∙ ap (λ x. cond (eq_by_cmp incarnation_cmp k a) (option_map (λ v. cells) x) (find incarnation_cmp k (map keyed_cells olds))) there;
        joined = λ b. joined b ∙ ap (λ es. join_options (join_cells payload_eq) (find item_cmp b es) (find item_cmp b came)) (sym here);
        more_keys = m ∙ ap (λ es. count_by (is_new item_cmp es) came) (sym here);
        changes = n ∙ ap (λ es. count_by (is_change item_cmp (join_cells payload_eq) cell_eq es) came) (sym here);
      }

  pub grows_gap : (place : ℕ) (new : IncarnationState) (cells : Cells) → IsGap incarnation_cmp (map keyed_cells olds) a place → keyed_cells new ≡ (a, cells) → has_some (entries cells) ≡ true → ((b : ItemKey) → find item_cmp b (entries cells) ≡ join_options (join_cells payload_eq) (find item_cmp b (entries no_cells)) (find item_cmp b came)) → more ≡ count_by (is_new item_cmp (entries no_cells)) came → changed ≡ count_by (is_change item_cmp (join_cells payload_eq) cell_eq (entries no_cells)) came → Grows olds (insert olds place new) a came more changed
  grows_gap place new cells gap new_is some joined m n =
      let here : cells_at a olds ≡ entries no_cells = ap entries_at gap.none ∙ sym entries-empty in
      let moved : map keyed_cells (insert olds place new) ≡ put incarnation_cmp a cells (map keyed_cells olds) = map-insert keyed_cells olds place new ∙ ap (insert (map keyed_cells olds) place) new_is ∙ gap.fits cells in
      record {
        sorted = ap (is_sorted incarnation_cmp) moved ∙ as_true _ (is_sorted-put incarnation_cmp incarnation_total a cells (map keyed_cells olds) (as_T whole.sorted));
        filled = all_insert has_cells olds place new whole.filled (ap (λ (e : IncarnationKey × Cells). has_some (entries e.1)) new_is ∙ some);
        cells = cells;
        found = λ k. ap (find incarnation_cmp k) moved ∙ find-put incarnation_cmp incarnation_total k a cells (map keyed_cells olds);
        joined = λ b. joined b ∙ ap (λ es. join_options (join_cells payload_eq) (find item_cmp b es) (find item_cmp b came)) (sym here);
        more_keys = m ∙ ap (λ es. count_by (is_new item_cmp es) came) (sym here);
        changes = n ∙ ap (λ es. count_by (is_change item_cmp (join_cells payload_eq) cell_eq es) came) (sym here);
      }

-- the same of calls that join entries into an incarnation
module _ (olds : List IncarnationState) (len : ℕ) (whole : IsWhole olds len) (a : IncarnationKey) (came : List KeyedCell) (some : HasEntry came) where
  pub held_grows : {E : Type 0} (place : ℕ) (incarnation new : IncarnationState) → IsAt incarnation_cmp (map keyed_cells olds) a place → incarnation ≡ get_or olds place incarnation → (r : Result Growth E) → IfOk r (λ g. Joins (entries incarnation.cells) (entries new.cells) came g.more g.changed) → OnOk r ((keyed_cells new).0 ≡ (keyed_cells incarnation).0) → IfOk r (λ g. Grows olds (slice_set olds place new) a came g.more g.changed)
  held_grows place incarnation new at is (Err e) joins same = tt
  held_grows place incarnation new at is (Ok g) joins same = grows_at olds len whole a came g.more g.changed place incarnation new new.cells at is (λ i. (same i, new.cells)) (joins_some (entries incarnation.cells) (entries new.cells) came g.more g.changed some joins) joins.joined joins.more_keys joins.changes

  pub gap_grows : (place : ℕ) (start new : IncarnationState) (more changed : ℕ) → IsGap incarnation_cmp (map keyed_cells olds) a place → start.cells ≡ no_cells → (keyed_cells new).0 ≡ a → Joins (entries start.cells) (entries new.cells) came more changed → Grows olds (insert olds place new) a came more changed
  gap_grows place start new more changed gap none key joins =
      let first : Joins (entries no_cells) (entries new.cells) came more changed = subst (λ (cs : Cells). Joins (entries cs) (entries new.cells) came more changed) none joins in
      grows_gap olds len whole a came more changed place new new.cells gap (λ i. (key i, new.cells)) (joins_some (entries no_cells) (entries new.cells) came more changed some first) first.joined first.more_keys first.changes
