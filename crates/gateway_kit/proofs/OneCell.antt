-- One cell joined into the entries of an incarnation.
use Rattle.std.proofs.Common.{◌≡◌, ℕ, zero, suc, ◌≤◌, max, true, false, cond, List, [], ◌∷◌, map, length, get_or, Some, None, refl, sym, ap, subst, ◌∙◌, arith}
use Rattle.std.specs.Prelude.{T, slice_get}
use Rattle.std.specs.Cmp.{Equal-is}
use Rattle.std.specs.FinMap.{entries, from_sorted, entries-from_sorted}
use Rattle.std.specs.FinMap.Entries.{find, is_sorted, put, find-put, is_sorted-put}
use Rattle.std.specs.List.{IsDistinct, insert}
use Rattle.std.specs.Ordering.{eq_by_cmp}
use Rattle.point_kit.specs.Equality.{payload_eq, cell_eq}
use Rattle.point_kit.specs.Join.{join_cells, join_options}
use Rattle.point_kit.specs.declared.cell.Cell.{Cell}
use Rattle.point_kit.specs.declared.payload.Payload.{Payload}
use Rattle.point_kit.specs.declared.writer_id.WriterId.{WriterId}
use Rattle.gateway_kit.specs.Amending.{with_change}
use Rattle.gateway_kit.specs.Changing.{KeyedCell, Drafts, replacement}
use Rattle.gateway_kit.specs.Growth.{Joins}
use Rattle.gateway_kit.specs.Keys.{ItemKey, item_cmp, keyed_cell_of, key_and_number}
use Rattle.gateway_kit.specs.IncarnationState.{IncarnationState}
use Rattle.gateway_kit.specs.Places.{IsAt, IsGap}
use Rattle.gateway_kit.specs.Times.{latest}
use Rattle.gateway_kit.specs.declared.part_item.PartItem.{PartItem}
use Rattle.gateway_kit.proofs.Counting.{unjoined}
use Rattle.gateway_kit.proofs.Drafting.{found_place, drafts_none, drafts_kept, drafts_changed, drafts_fresh}
use Rattle.gateway_kit.proofs.Entries.{as_T, as_true}
use Rattle.gateway_kit.proofs.Growing.{map-insert}
use Rattle.gateway_kit.specs.KeyOrders.{item_total, item_exact}
use Rattle.gateway_kit.proofs.Prepared.{brings_held}

module _ (es : List KeyedCell) (k : ItemKey) (w : Cell Payload) where
  -- where the cell that is held stays
  pub joins_kept : (v : Cell Payload) → find item_cmp k es ≡ Some v → join_cells payload_eq v w ≡ v → Joins es es ((k, w) ∷ []) 0 0
  joins_kept v there same =
      let drafts : Drafts es ((k, w) ∷ []) [] [] = drafts_kept es [] [] [] (drafts_none es) k w refl v there same in
      record {
        joined = brings_held item_cmp (join_cells payload_eq) replacement es ((k, w) ∷ []) [] [] (λ q. refl) drafts.brings;
        more_keys = sym drafts.new;
        changes = sym drafts.changed;
      }

  -- where it changes
  pub joins_changed : T (is_sorted item_cmp es) → (v : Cell Payload) (place : ℕ) (cell : Cell Payload) → find item_cmp k es ≡ Some v → slice_get (map (λ e. e.0) es) place ≡ Some k → cell ≡ join_cells payload_eq v w → cell_eq v cell ≡ false → Joins es (with_change replacement es place cell) ((k, w) ∷ []) 0 1
  joins_changed sorted v place cell there at is differs =
      let drafts : Drafts es ((k, w) ∷ []) ((place, cell) ∷ []) [] = drafts_changed es [] [] [] (drafts_none es) k w refl sorted v place cell there at is differs in
      record {
        joined = brings_held item_cmp (join_cells payload_eq) replacement es ((k, w) ∷ []) ((place, cell) ∷ []) [] (λ q. refl) drafts.brings;
        more_keys = sym drafts.new;
        changes = sym drafts.changed;
      }

  -- where none is held
  pub joins_new : (item : PartItem) → keyed_cell_of item ≡ (k, w) → find item_cmp k es ≡ None → Joins es (put item_cmp k w es) ((k, w) ∷ []) 1 1
  joins_new item is none =
      let drafts : Drafts es ((k, w) ∷ []) [] (item ∷ []) = drafts_fresh es [] [] [] (drafts_none es) k w refl item is none in
      record {
        joined = λ b. find-put item_cmp item_total b k w es ∙ elim (eq_by_cmp item_cmp b k) as (λ t. eq_by_cmp item_cmp b k ≡ t → cond t (Some w) (find item_cmp b es) ≡ join_options (join_cells payload_eq) (find item_cmp b es) (cond t (Some w) None)) [
          | true ↦ λ t. ap (λ o. join_options (join_cells payload_eq) o (Some w)) (sym (ap (λ q. find item_cmp q es) (item_exact b k ((Equal-is (item_cmp b k)).0 t)) ∙ none))
          | false ↦ λ t. unjoined (join_cells payload_eq) (find item_cmp b es)
        ] refl;
        more_keys = sym drafts.new;
        changes = sym drafts.changed;
      }

-- no key comes twice of one
pub apart_alone : (k : ItemKey) (w : Cell Payload) → IsDistinct (eq_by_cmp item_cmp) (map (λ (t : KeyedCell). t.0) ((k, w) ∷ []))
unfolding IsDistinct
apart_alone k w = (tt, tt)

-- of items: where the key of the cell stands
module _ (items : List PartItem) (sorted : is_sorted item_cmp (map keyed_cell_of items) ≡ true) (place : ℕ) (x : PartItem) (k : ItemKey) (w : Cell Payload) (at : IsAt item_cmp (map keyed_cell_of items) k place) (is : x ≡ get_or items place x) where
  there : find item_cmp k (map keyed_cell_of items) ≡ Some x.cell
  there = found_place keyed_cell_of item_total items place x k (as_T sorted) at is

  pub kept_at : join_cells payload_eq x.cell w ≡ x.cell → Joins (map keyed_cell_of items) (map keyed_cell_of items) ((k, w) ∷ []) 0 0
  kept_at same = joins_kept (map keyed_cell_of items) k w x.cell there same

  pub changed_at : (news : List PartItem) (cell : Cell Payload) → map keyed_cell_of news ≡ with_change replacement (map keyed_cell_of items) place cell → cell ≡ join_cells payload_eq x.cell w → cell_eq x.cell cell ≡ false → Joins (map keyed_cell_of items) (map keyed_cell_of news) ((k, w) ∷ []) 0 1
  changed_at news cell put joined differs =
      subst (λ (es : List KeyedCell). Joins (map keyed_cell_of items) es ((k, w) ∷ []) 0 1) (sym put)
      (joins_changed (map keyed_cell_of items) k w (as_T sorted) x.cell place cell there at joined differs)

-- and where it belongs
pub new_at : (items : List PartItem) (item : PartItem) (place : ℕ) → IsGap item_cmp (map keyed_cell_of items) (keyed_cell_of item).0 place → Joins (map keyed_cell_of items) (map keyed_cell_of (insert items place item)) (keyed_cell_of item ∷ []) 1 1
new_at items item place gap =
    subst (λ (es : List KeyedCell). Joins (map keyed_cell_of items) es (keyed_cell_of item ∷ []) 1 1) (sym (map-insert keyed_cell_of items place item ∙ gap.fits item.cell))
    (joins_new (map keyed_cell_of items) (keyed_cell_of item).0 item.cell item refl gap.none)

pub sorted_at : (items : List PartItem) (item : PartItem) (place : ℕ) → is_sorted item_cmp (map keyed_cell_of items) ≡ true → IsGap item_cmp (map keyed_cell_of items) (keyed_cell_of item).0 place → is_sorted item_cmp (map keyed_cell_of (insert items place item)) ≡ true
sorted_at items item place sorted gap =
    ap (is_sorted item_cmp) (map-insert keyed_cell_of items place item ∙ gap.fits item.cell)
    ∙ as_true _ (is_sorted-put item_cmp item_total (keyed_cell_of item).0 item.cell (map keyed_cell_of items) (as_T sorted))

pub latest_insert : (items : List PartItem) (item : PartItem) (place : ℕ) → place ≤ length items → latest (map keyed_cell_of (insert items place item)) ≡ max (latest (map keyed_cell_of items)) item.cell.time
latest_insert items item zero h = omega arith
latest_insert [] item (suc place) h = absurd (omega arith)
latest_insert (x ∷ items) item (suc place) h =
    let rest : latest (map keyed_cell_of (insert items place item)) ≡ max (latest (map keyed_cell_of items)) item.cell.time = latest_insert items item place (omega arith) in
    ap (max x.cell.time) rest ∙ omega arith

-- the same of entries that are equal
pub joins_alike : (olds others news now : List KeyedCell) (came : KeyedCell) (more changed : ℕ) → olds ≡ others → news ≡ now → Joins olds news (came ∷ []) more changed → Joins others now (came ∷ []) more changed
joins_alike olds others news now came more changed p q joins =
    subst (λ (es : List KeyedCell). Joins es now (came ∷ []) more changed) p (subst (λ (es : List KeyedCell). Joins olds es (came ∷ []) more changed) q joins)

-- an incarnation as it is seen
abbrev pub shows : WriterId → ℕ → List PartItem → IncarnationState
shows writer start items = record { writer = writer; start = start; cells = from_sorted {R = item_cmp} (map keyed_cell_of items); numbers = from_sorted {R = item_cmp} (map key_and_number items) }

-- the entries that it shows
pub cells_of : (p : IncarnationState) (writer : WriterId) (start : ℕ) (items : List PartItem) → is_sorted item_cmp (map keyed_cell_of items) ≡ true → shows writer start items ≡ p → entries p.cells ≡ map keyed_cell_of items
cells_of p writer start items sorted is = ap (λ (q : IncarnationState). entries q.cells) (sym is) ∙ entries-from_sorted item_cmp (map keyed_cell_of items) (as_T sorted)
