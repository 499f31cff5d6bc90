-- The payload of values is what they add up to, each by itself.
use Rattle.std.proofs.Common.{◌≡◌, ℕ, ℤ, pos, suc, ◌+◌, ◌+ℤ◌, ◌<◌, ◌≤◌, inl, inr, Bool, false, cond, ◌==◌, List, [], ◌∷◌, length, slice_index, fold, refl, sym, ap, ◌∙◌, arith}
use Rattle.std.specs.Prelude.{count_by, int_lt}
use Rattle.std.specs.Int.{int_min, int_max}
use Rattle.std.specs.List.{range_with_len}
use Rattle.std.proofs.lemmas.Int.{ints}
use Rattle.std.proofs.lemmas.Bool.{cases_lt}
use Rattle.std.proofs.lemmas.Bool.Decides.{nat_tests}
use Rattle.std.proofs.lemmas.List.{get_or_past, length-map}
use Rattle.std.proofs.lemmas.List.FromFn.{get_or-map-range_with_len, length-range_with_len}
use Rattle.std.proofs.lemmas.List.Sums.{count_by-le-length, sum_by-cons}
use Rattle.point_kit.specs.declared.shape.Shape.{Shape}
use Rattle.point_kit.specs.declared.shape.Shape.TheVariants as shapes
use Rattle.agg_kit.specs.Payloads as payloads
use Rattle.rollup_kit.specs.Parts.{parts_of_value, bucket_of}
use Rattle.rollup_kit.specs.Recordings.{part_sums, PayloadsAddUp}
use Rattle.rollup_kit.specs.Extents.{join_spans, span_of}
use Rattle.rollup_kit.specs.declared.extent.Extent.TheVariants.{Empty, Known}
use Rattle.rollup_kit.proofs.PartLaws.{spans_associate}

total_from : (a : ℤ) (vs : List ℤ) (shape : Shape) → ((v : ℤ) → (parts_of_value shape v).sum ≡ v) → fold ◌+ℤ◌ a vs ≡ a +ℤ (part_sums shape vs).sum
total_from a [] shape own = omega (arith, ints)
total_from a (v ∷ vs) shape own =
    total_from (a +ℤ v) vs shape own ∙ regrouped a v (part_sums shape vs).sum ∙ ap (λ s. a +ℤ (s +ℤ (part_sums shape vs).sum)) (sym (own v))
  where
    regrouped : (a v s : ℤ) → (a +ℤ v) +ℤ s ≡ a +ℤ (v +ℤ s)
    regrouped a v s = omega (arith, ints)

total_added : (vs : List ℤ) (shape : Shape) → ((v : ℤ) → (parts_of_value shape v).sum ≡ v) → payloads.total vs ≡ (part_sums shape vs).sum
total_added vs shape own = total_from (pos 0) vs shape own ∙ none (part_sums shape vs).sum
  where
    none : (s : ℤ) → pos 0 +ℤ s ≡ s
    none s = omega (arith, ints)

length_added : (bounds vs : List ℤ) → length vs ≡ (part_sums (shapes.Histogram bounds) vs).count
length_added bounds [] = refl
length_added bounds (v ∷ vs) = let rest : length vs ≡ (part_sums (shapes.Histogram bounds) vs).count = length_added bounds vs in omega arith

-- the values from one to another, and those of a list
span_from : (a b : ℤ) (bounds vs : List ℤ) → Known (fold int_min a vs) (fold int_max b vs) ≡ join_spans (Known a b) (part_sums (shapes.Histogram bounds) vs).span
span_from a b bounds [] = refl
span_from a b bounds (v ∷ vs) = span_from (int_min a v) (int_max b v) bounds vs ∙ spans_associate (Known a b) (Known v v) (part_sums (shapes.Histogram bounds) vs).span

span_added : (bounds vs : List ℤ) → span_of (length vs) (payloads.range vs) ≡ (part_sums (shapes.Histogram bounds) vs).span
span_added bounds [] = refl
span_added bounds (v ∷ vs) = ap (λ b. cond b Empty (Known (fold int_min v vs) (fold int_max v vs))) (some (length vs)) ∙ span_from v v bounds vs
  where
    some : (n : ℕ) → (suc n == 0) ≡ false
    some n = grind (arith, nat_tests)

-- the values in one bucket
bucket_added : (bounds vs : List ℤ) (place : ℕ) → count_by (λ v. payloads.bucket bounds v == place) vs ≡ (part_sums (shapes.Histogram bounds) vs).buckets place
bucket_added bounds [] place = refl
bucket_added bounds (v ∷ vs) place = sum_by-cons (λ v. cond (payloads.bucket bounds v == place) 1 0) v vs ∙ ap (λ n. cond (bucket_of bounds v == place) 1 0 + n) (bucket_added bounds vs place)

-- no value lies past the last bucket
bucket_within : (bounds : List ℤ) (v : ℤ) → bucket_of bounds v ≤ length bounds
bucket_within bounds v = count_by-le-length (λ bound. int_lt bound v) bounds

apart : (a b : ℕ) → a < b → (a == b) ≡ false
apart a b h = grind (arith, nat_tests)

past_all : (bounds vs : List ℤ) (place : ℕ) → length bounds < place → (part_sums (shapes.Histogram bounds) vs).buckets place ≡ 0
past_all bounds [] place h = refl
past_all bounds (v ∷ vs) place h =
    let within : bucket_of bounds v ≤ length bounds = bucket_within bounds v in
    ap (λ b. cond b 1 0 + (part_sums (shapes.Histogram bounds) vs).buckets place) (apart (bucket_of bounds v) place (omega arith)) ∙ no_more _ (past_all bounds vs place h)
  where
    no_more : (n : ℕ) → n ≡ 0 → 0 + n ≡ 0
    no_more n e = omega arith

buckets_added : (bounds vs : List ℤ) (place : ℕ) → slice_index (payloads.buckets bounds vs) place ≡ (part_sums (shapes.Histogram bounds) vs).buckets place
buckets_added bounds vs place =
    let counted : ℕ → ℕ = λ j. count_by (λ v. payloads.bucket bounds v == j) vs in
    elim (cases_lt place (length bounds + 1)) [
      | inl h ↦ get_or-map-range_with_len counted 0 (length bounds + 1) place place 0 h (omega arith) ∙ bucket_added bounds vs place
      | inr h ↦ let long : length (payloads.buckets bounds vs) ≡ length bounds + 1 = length-map (range_with_len 0 (length bounds + 1)) counted ∙ length-range_with_len 0 (length bounds + 1) in
          get_or_past (payloads.buckets bounds vs) place 0 (omega arith) ∙ sym (past_all bounds vs place (omega arith))
    ]

-- sums have nothing else
no_count : (monotonic : Bool) (vs : List ℤ) → 0 ≡ (part_sums (shapes.Sum monotonic) vs).count
no_count monotonic [] = refl
no_count monotonic (v ∷ vs) = let rest : 0 ≡ (part_sums (shapes.Sum monotonic) vs).count = no_count monotonic vs in omega arith

no_bucket : (monotonic : Bool) (vs : List ℤ) (place : ℕ) → 0 ≡ (part_sums (shapes.Sum monotonic) vs).buckets place
no_bucket monotonic [] place = refl
no_bucket monotonic (v ∷ vs) place = let rest : 0 ≡ (part_sums (shapes.Sum monotonic) vs).buckets place = no_bucket monotonic vs place in omega arith

no_span : (monotonic : Bool) (vs : List ℤ) → Empty ≡ (part_sums (shapes.Sum monotonic) vs).span
no_span monotonic [] = refl
no_span monotonic (v ∷ vs) = no_span monotonic vs

-- a payload has the parts of its values
pub payload_added : PayloadsAddUp
payload_added (shapes.Sum monotonic) vs h = λ i. record {
  sum = total_added vs (shapes.Sum monotonic) (λ v. refl) i;
  count = no_count monotonic vs i;
  buckets = λ place. no_bucket monotonic vs place i;
  span = no_span monotonic vs i;
}
payload_added shapes.Gauge vs h = absurd h
payload_added (shapes.Histogram bounds) vs h = λ i. record {
  sum = total_added vs (shapes.Histogram bounds) (λ v. refl) i;
  count = length_added bounds vs i;
  buckets = λ place. buckets_added bounds vs place i;
  span = span_added bounds vs i;
}
