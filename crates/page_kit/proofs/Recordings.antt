-- The numbers of a page's rows are those of what was recorded.
use Rattle.std.proofs.Common.{◌≡◌, ℕ, ℤ, pos, ◌+◌, ◌+ℤ◌, Bool, true, false, cond, List, Option, refl, sym, ap, subst, ◌∙◌, arith}
use Rattle.std.specs.Prelude.{int_le}
use Rattle.std.proofs.lemmas.Bool.{and_parts}
use Rattle.agg_kit.specs.Entries.{Entry}
use Rattle.agg_kit.specs.Feeding.{fed}
use Rattle.agg_kit.specs.Payloads.{payload_of}
use Rattle.agg_kit.specs.Rounds.{values_of}
use Rattle.plan_kit.specs.Bounds.{are_bounds, rise}
use Rattle.plan_kit.specs.Plans.{is_proper}
use Rattle.point_kit.specs.Orders.{bounds_of}
use Rattle.point_kit.specs.declared.cell.Held.TheVariants.{One}
use Rattle.point_kit.specs.declared.payload.Payload.{Payload}
use Rattle.point_kit.specs.declared.shape.Shape.{Shape}
use Rattle.point_kit.specs.declared.shape.Shape.TheVariants as shapes
use Rattle.rollup_kit.specs.Naming.{Name, name_eq, names_from, number_of, payload_at}
use Rattle.rollup_kit.specs.Recordings.{values_under}
use Rattle.rollup_kit.specs.Rollups.{AddsUp}
use Rattle.rollup_kit.specs.Writers.{Writers, ArePlans, AreTold, rounding, entries_fed}
use Rattle.rollup_kit.proofs.Naming.{number_is, placed, rounding_sound, stream_in}
use Rattle.rollup_kit.proofs.NamedValues.{fed_named, values_at}
use Rattle.schedule_kit.specs.Deeds.{Deed, Holder, Made, AreLawful}
use Rattle.schedule_kit.specs.Members.{In}
use Rattle.schedule_kit.specs.Rounds.{state}
use Rattle.schedule_kit.specs.Rows.{values_fed}
use Rattle.schedule_kit.specs.Taken.{taken_collections, entries_taken, incarnations}
use Rattle.schedule_kit.specs.Totals.{total}
use Rattle.schedule_kit.proofs.Incarnations.{incarnations_once, made_in}
use Rattle.schedule_kit.proofs.Mixed.{total-ones}
use Rattle.schedule_kit.proofs.Taking.{are_taken, taken_made, up_to_newest}
use Rattle.page_kit.specs.Bounds.{buckets_in, count_up_to}
use Rattle.page_kit.specs.Families.{Measured, shown_metrics}
use Rattle.page_kit.specs.Metrics.{kind_of}
use Rattle.page_kit.specs.Page.{asked_cells, left_in}
use Rattle.page_kit.specs.Recorded.{IsRecorded, AreProper, NumbersAreRecorded, recordings, row_values}
use Rattle.page_kit.specs.Rows.{rows}
use Rattle.page_kit.specs.Totals.{KeyedCell, count_in, sum_in}
use Rattle.page_kit.specs.declared.labels.Label.{Label}
use Rattle.page_kit.specs.declared.metric.Kind.TheVariants.{Gauge, Histogram}
use Rattle.page_kit.proofs.Fed.{Tells, are_recorded, fold_total}
use Rattle.page_kit.proofs.UpTo.{counted_up_to}

-- what a sum or a histogram of values adds to a total
sum_weighed : (shape : Shape) (vs : List ℤ) → (kind_of shape ≡ Gauge → ⊥) → sum_in (One (payload_of shape vs)) ≡ total (pos 0) ◌+ℤ◌ (λ v. v) vs
sum_weighed (shapes.Sum monotonic) vs other = fold_total (λ v. v) vs
sum_weighed shapes.Gauge vs other = absurd (other refl)
sum_weighed (shapes.Histogram bounds) vs other = fold_total (λ v. v) vs

-- how many values a histogram is of
count_weighed : (shape : Shape) (vs : List ℤ) → kind_of shape ≡ Histogram → count_in (One (payload_of shape vs)) ≡ total 0 ◌+◌ (λ _. 1) vs
count_weighed (shapes.Sum true) vs e = absurd cc
count_weighed (shapes.Sum false) vs e = absurd cc
count_weighed shapes.Gauge vs e = absurd cc
count_weighed (shapes.Histogram bounds) vs e = sym (total-ones vs)

module _ (bound : ℤ) where
  proper_rises : (bounds : List ℤ) → are_bounds bounds ≡ true → rise bounds ≡ true
  unfolding are_bounds
  proper_rises bounds e = (and_parts (rise bounds) _ e).0

  -- how many of its values are not above a bound that it has
  up_to_weighed : (shape : Shape) (vs : List ℤ) → kind_of shape ≡ Histogram → is_proper shape ≡ true → In bound (bounds_of shape)
      → count_up_to bound (bounds_of shape) (buckets_in (One (payload_of shape vs))) ≡ total 0 ◌+◌ (λ v. cond (int_le v bound) 1 0) vs
  up_to_weighed (shapes.Sum true) vs k q t = absurd cc
  up_to_weighed (shapes.Sum false) vs k q t = absurd cc
  up_to_weighed shapes.Gauge vs k q t = absurd cc
  up_to_weighed (shapes.Histogram bounds) vs k q t = counted_up_to bound bounds vs (proper_rises bounds q) t

-- what adds up is no gauge
no_gauge : (shape : Shape) → AddsUp shape → kind_of shape ≡ Gauge → ⊥
no_gauge (shapes.Sum true) adds e = cc
no_gauge (shapes.Sum false) adds e = cc
no_gauge shapes.Gauge adds e = adds
no_gauge (shapes.Histogram bounds) adds e = cc

-- A payload tells values where it does in a stream that adds up, and how many they are in one of a histogram.
pub tells_by : (shape : Shape) (payload : Payload) (values : List ℤ) → (AddsUp shape → sum_in (One payload) ≡ total (pos 0) ◌+ℤ◌ (λ v. v) values)
    → ((bounds : List ℤ) → shape ≡ shapes.Histogram bounds → count_in (One payload) ≡ total 0 ◌+◌ (λ _. 1) values)
    → ((bounds : List ℤ) → shape ≡ shapes.Histogram bounds → (bound : ℤ) → In bound bounds
    → count_up_to bound bounds (buckets_in (One payload)) ≡ total 0 ◌+◌ (λ v. cond (int_le v bound) 1 0) values)
    → Tells shape payload values
tells_by (shapes.Sum true) payload values sum count up_to = record { sum = λ other. sum tt; count = λ e. absurd cc; up_to = λ e. absurd cc }
tells_by (shapes.Sum false) payload values sum count up_to = record { sum = λ other. sum tt; count = λ e. absurd cc; up_to = λ e. absurd cc }
tells_by shapes.Gauge payload values sum count up_to = record { sum = λ other. absurd (other refl); count = λ e. absurd cc; up_to = λ e. absurd cc }
tells_by (shapes.Histogram bounds) payload values sum count up_to = record { sum = λ other. sum tt; count = λ e. count bounds refl; up_to = λ e. up_to bounds refl }

-- and so do sums and histograms of values
pub sum_of_values : (shape : Shape) (vs : List ℤ) → AddsUp shape → sum_in (One (payload_of shape vs)) ≡ total (pos 0) ◌+ℤ◌ (λ v. v) vs
sum_of_values shape vs adds = sum_weighed shape vs (no_gauge shape adds)

pub count_of_values : (bounds : List ℤ) (vs : List ℤ) → count_in (One (payload_of (shapes.Histogram bounds) vs)) ≡ total 0 ◌+◌ (λ _. 1) vs
count_of_values bounds vs = count_weighed (shapes.Histogram bounds) vs refl

pub up_to_of_values : (bound : ℤ) (bounds : List ℤ) (vs : List ℤ) → is_proper (shapes.Histogram bounds) ≡ true → In bound bounds
    → count_up_to bound bounds (buckets_in (One (payload_of (shapes.Histogram bounds) vs))) ≡ total 0 ◌+◌ (λ v. cond (int_le v bound) 1 0) vs
up_to_of_values bound bounds vs proper there = up_to_weighed bound (shapes.Histogram bounds) vs refl proper there

-- a sum or a histogram of values tells them
pub payload_tells : (shape : Shape) (vs : List ℤ) → is_proper shape ≡ true → Tells shape (payload_of shape vs) vs
payload_tells shape vs proper = record {
  sum = sum_weighed shape vs;
  count = count_weighed shape vs;
  up_to = λ kind bound there. up_to_weighed bound shape vs kind proper there;
}

module _ (s : Writers) (plans : ArePlans s) (proper : AreProper s) (told : AreTold s) (fits : ℕ → List Entry → Entry → Bool) (gateways : ℕ) (ds : List (Deed Entry)) (lawful : AreLawful fits s.starts gateways ds) (h : Holder) where
  abbrev ms : List (Made Entry)
  ms = taken_collections s.starts ds h

  abbrev is : List (ℕ × ℕ)
  is = incarnations s.starts ds

  abbrev entries_at : ℕ × ℕ → List Entry
  entries_at i = entries_taken ms i.0 i.1

  tells : (i : ℕ × ℕ) (x : Name) → In x (names_from (s.plan i.0) (entries_at i) 0 (s.plan i.0).streams)
      → Tells x.0.shape (payload_at (s.plan i.0) (entries_at i) x) (values_under name_eq x (entries_fed s i.0 (entries_at i)))
  tells i x there =
      let at = placed (s.plan i.0).streams x.0 (stream_in (s.plan i.0) (entries_at i) 0 (s.plan i.0).streams x there) in
      let none : at.0 ≡ 0 + at.0 = omega arith in
      let vs = values_of (fed (s.plan i.0) (number_of (s.plan i.0) x.0) (entries_at i)) x.1 in
      let same : vs ≡ values_under name_eq x (entries_fed s i.0 (entries_at i)) =
      ap (λ n. values_of (fed (s.plan i.0) n (entries_at i)) x.1) (number_is (s.plan i.0) (plans i.0) at.0 x.0 at.1 ∙ none)
      ∙ sym (values_at (s.plan i.0) (entries_at i) (s.plan i.0).streams 0 (plans i.0) at.0 x.0 at.1 x.1) in
      subst (λ (l : List ℤ). Tells x.0.shape (payload_at (s.plan i.0) (entries_at i) x) l) same (payload_tells x.0.shape vs (proper i.0 at.0 x.0 at.1))

  pub all_recorded : (service but : Option (List ℕ)) (m : Measured) → In m (shown_metrics (left_in but (asked_cells service (state (rounding s) ms)))) → (w : List Label × List KeyedCell) → In w (rows m.1)
      → IsRecorded m w (row_values service but m.0 w.0 (recordings s ds h))
  all_recorded service but m there w here =
      subst (λ (E : ℕ × ℕ → List Entry). IsRecorded m w (row_values service but m.0 w.0 (values_fed (rounding s) E is (entries_fed s)))) (λ n i. sym (up_to_newest s.starts ds h i.0 i.1) n)
      (are_recorded (rounding s) (rounding_sound s plans) (λ i start x. refl) ms (are_taken s.starts fits gateways s.who told ds lawful h) is
      (incarnations_once s.starts s.who told fits gateways ds lawful) (λ m i. made_in s.starts fits gateways ds lawful m (taken_made s.starts ds h m i)) (entries_fed s)
      (λ i j v k. fed_named (s.plan i.0) (entries_at i) 0 (s.plan i.0).streams v k) (λ i j x k. tells i x k)
      service but m there w here)

pub numbers_recorded : NumbersAreRecorded
numbers_recorded s plans proper told fits gateways ds lawful h service but m there w here = all_recorded s plans proper told fits gateways ds lawful h service but m there w here
