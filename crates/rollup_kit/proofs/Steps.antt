-- What stands after one more cell.
use Rattle.std.proofs.Common.{◌≡◌, ℕ, ℤ, pos, ◌+◌, ◌+ℤ◌, true, false, cond, ◌||◌, List, [], ◌∷◌, ◌++◌, Option, Some, None, unwrap_or, refl, sym, ap, ◌∙◌, arith}
use Rattle.std.proofs.Math.Bool.{or-true, or-false}
use Rattle.std.specs.List.{cons_option}
use Rattle.std.specs.Prelude.{slice_index}
use Rattle.std.specs.Option.{option_map}
use Rattle.std.proofs.lemmas.Int.{ints}
use Rattle.std.proofs.lemmas.List.{append-nil}
use Rattle.point_kit.specs.Orders.{key_cmp}
use Rattle.point_kit.specs.declared.cell.Cell.{Cell}
use Rattle.point_kit.specs.declared.cell.Held.{Held}
use Rattle.point_kit.specs.declared.cell.Held.TheVariants.{One, Conflict}
use Rattle.point_kit.specs.declared.key.Key.{Key}
use Rattle.point_kit.specs.declared.payload.Payload.{Payload}
use Rattle.point_kit.specs.declared.payload.Payload.TheVariants as payloads
use Rattle.schedule_kit.specs.Rows as rows
use Rattle.schedule_kit.specs.Rows.{value_of, is_one, is_conflict}
use Rattle.rollup_kit.specs.Asks.{Attributes}
use Rattle.rollup_kit.specs.Counts.{counts_from}
use Rattle.rollup_kit.specs.Groups.{Grouped, no_group, with_held, later_value}
use Rattle.rollup_kit.specs.Newest.{Dated, latest, as_point}
use Rattle.rollup_kit.specs.Parts.{Parts, no_parts, plus_parts, parts_of}
use Rattle.rollup_kit.specs.Rollups.{gauge_of, gauges_in, newest}
use Rattle.rollup_kit.specs.Extents.{join_spans}
use Rattle.rollup_kit.specs.Standing.{group_of, row_among, is_row, group_after}
use Rattle.rollup_kit.specs.declared.ask.Ask.{Ask}
use Rattle.rollup_kit.specs.declared.extent.Extent.{Extent}
use Rattle.rollup_kit.specs.declared.extent.Extent.TheVariants.{Empty, Known, Unknown}
use Rattle.rollup_kit.proofs.Counts.{add_each_counts}
use Rattle.rollup_kit.proofs.Newest.{latest_later}
use Rattle.rollup_kit.proofs.Snoc.{counts, row-counted, row-skipped, is_row-snoc, no_row, gauges-snoc, KeysBelow, gauges_below}

same_span : (s : Extent) → join_spans s Empty ≡ s
same_span Empty = refl
same_span (Known a b) = refl
same_span Unknown = refl

same_sum : (s : ℤ) → s +ℤ pos 0 ≡ s
same_sum s = omega (arith, ints)

same_count : (n : ℕ) → n + 0 ≡ n
same_count n = omega arith

-- the newest value with one more
abbrev later_newest : Option (ℕ × ℤ) → ℕ → Held Payload → Option (ℕ × ℤ)
later_newest before time (One (payloads.Gauge value)) = Some (later_value before (time, value))
later_newest before time held = before

same_buckets : (n : ℕ) (buckets : ℕ → ℕ) → counts_from 0 n (λ place. buckets place + 0) ≡ counts_from 0 n buckets
same_buckets n buckets = λ i. counts_from 0 n (λ place. same_count (buckets place) i)

-- groups that agree in each part are one
same_group : (g h : Grouped) → g.sum ≡ h.sum → g.count ≡ h.count → g.buckets ≡ h.buckets → g.span ≡ h.span → g.newest ≡ h.newest → g.points ≡ h.points → g.conflicts ≡ h.conflicts → g ≡ h
same_group g h sum count buckets span newest points conflicts = λ i. record { sum = sum i; count = count i; buckets = buckets i; span = span i; newest = newest i; points = points i; conflicts = conflicts i }

-- a row's totals with what is held under one more key
with_one : (n : ℕ) (row : rows.Row Parts) (before after : Option (ℕ × ℤ)) (time : ℕ) (held : Held Payload) → after ≡ later_newest before time held
    → group_of n (record { total = plus_parts row.total (value_of no_parts parts_of held); points = row.points + is_one held; conflicts = row.conflicts + is_conflict held }) after ≡ with_held (group_of n row before) time held
with_one n row before after time (One (payloads.Sum sum)) e =
    same_group _ _ refl (same_count row.total.count) (same_buckets n row.total.buckets) (same_span row.total.span) e refl (same_count row.conflicts)
with_one n row before after time (One (payloads.Gauge value)) e =
    same_group _ _ (same_sum row.total.sum) (same_count row.total.count) (same_buckets n row.total.buckets) (same_span row.total.span) e refl (same_count row.conflicts)
with_one n row before after time (One (payloads.Hist count sum buckets range)) e =
    same_group _ _ refl refl (sym (add_each_counts 0 n row.total.buckets (slice_index buckets))) refl e refl (same_count row.conflicts)
with_one n row before after time Conflict e =
    same_group _ _ (same_sum row.total.sum) (same_count row.total.count) (same_buckets n row.total.buckets) (same_span row.total.span) e (same_count row.points) refl

module _ (ask : Ask) (n : ℕ) (q : Attributes) where
  -- the newest value, with a cell that the row counts
  newest_counted : (es : List (Key × Cell Payload)) (key : Key) (time : ℕ) (held : Held Payload) → KeysBelow key es
      → option_map as_point (latest key_cmp (gauges_in ask es q ++ cons_option (gauge_of key time held) [])) ≡ later_newest (newest ask es q) time held
  newest_counted es key time (One (payloads.Gauge value)) below = latest_later key_cmp (gauges_in ask es q) (record { key = key; time = time; value = value }) (gauges_below ask q key es below)
  newest_counted es key time (One (payloads.Sum sum)) below = ap (λ ds. option_map as_point (latest key_cmp ds)) (append-nil (gauges_in ask es q))
  newest_counted es key time (One (payloads.Hist count sum buckets range)) below = ap (λ ds. option_map as_point (latest key_cmp ds)) (append-nil (gauges_in ask es q))
  newest_counted es key time Conflict below = ap (λ ds. option_map as_point (latest key_cmp ds)) (append-nil (gauges_in ask es q))

  -- what stands, or nothing counted
  stood : (es : List (Key × Cell Payload)) → unwrap_or (group_after ask n es q) (no_group n) ≡ group_of n (row_among ask es q) (newest ask es q)
  stood es =
      elim (is_row ask es q) as (λ b. is_row ask es q ≡ b → unwrap_or (cond b (Some (group_of n (row_among ask es q) (newest ask es q))) None) (no_group n) ≡ group_of n (row_among ask es q) (newest ask es q)) [
        | true ↦ λ t. refl
        | false ↦ λ t. let none = no_row ask q es t in sym (ap (λ (r : rows.Row Parts). group_of n r (newest ask es q)) none.0 ∙ ap (λ (ds : List (Dated Key)). group_of n (record { total = no_parts; points = 0; conflicts = 0 }) (option_map as_point (latest key_cmp ds))) none.1)
      ] refl

  counted : (es : List (Key × Cell Payload)) (e : Key × Cell Payload) → KeysBelow e.0 es → counts ask q e ≡ true → group_after ask n (es ++ e ∷ []) q ≡ Some (with_held (unwrap_or (group_after ask n es q) (no_group n)) e.1.time e.1.held)
  counted es e below is =
      let there : is_row ask (es ++ e ∷ []) q ≡ true = is_row-snoc ask q es e ∙ ap (λ b. is_row ask es q || b) is ∙ or-true (is_row ask es q) in
      let after : newest ask (es ++ e ∷ []) q ≡ later_newest (newest ask es q) e.1.time e.1.held =
      ap (λ ds. option_map as_point (latest key_cmp ds)) (gauges-snoc ask q es e ∙ ap (λ b. gauges_in ask es q ++ cons_option (cond b (gauge_of e.0 e.1.time e.1.held) None) []) is) ∙ newest_counted es e.0 e.1.time e.1.held below in
      ap (λ b. cond b (Some (group_of n (row_among ask (es ++ e ∷ []) q) (newest ask (es ++ e ∷ []) q))) None) there
      ∙ ap (λ (r : rows.Row Parts). Some (group_of n r (newest ask (es ++ e ∷ []) q))) (row-counted ask q es e is)
      ∙ ap Some (with_one n (row_among ask es q) (newest ask es q) (newest ask (es ++ e ∷ []) q) e.1.time e.1.held after)
      ∙ ap (λ (g : Grouped). Some (with_held g e.1.time e.1.held)) (sym (stood es))

  skipped : (es : List (Key × Cell Payload)) (e : Key × Cell Payload) → counts ask q e ≡ false → group_after ask n (es ++ e ∷ []) q ≡ group_after ask n es q
  skipped es e is =
      let there : is_row ask (es ++ e ∷ []) q ≡ is_row ask es q = is_row-snoc ask q es e ∙ ap (λ b. is_row ask es q || b) is ∙ or-false (is_row ask es q) in
      let after : newest ask (es ++ e ∷ []) q ≡ newest ask es q =
      ap (λ ds. option_map as_point (latest key_cmp ds)) (gauges-snoc ask q es e ∙ ap (λ b. gauges_in ask es q ++ cons_option (cond b (gauge_of e.0 e.1.time e.1.held) None) []) is ∙ append-nil (gauges_in ask es q)) in
      λ i. cond (there i) (Some (group_of n (row-skipped ask q es e is i) (after i))) None

  pub group_after-snoc : (es : List (Key × Cell Payload)) (e : Key × Cell Payload) → KeysBelow e.0 es
      → group_after ask n (es ++ e ∷ []) q ≡ cond (counts ask q e) (Some (with_held (unwrap_or (group_after ask n es q) (no_group n)) e.1.time e.1.held)) (group_after ask n es q)
  group_after-snoc es e below =
      elim (counts ask q e) as (λ b. counts ask q e ≡ b → group_after ask n (es ++ e ∷ []) q ≡ cond b (Some (with_held (unwrap_or (group_after ask n es q) (no_group n)) e.1.time e.1.held)) (group_after ask n es q)) [
        | true ↦ λ t. counted es e below t
        | false ↦ λ t. skipped es e t
      ] refl
