-- Payloads added up read as both, part by part.
use Rattle.std.proofs.Common.{◌≡◌, ℕ, ℤ, ◌+◌, Bool, true, false, cond, ◌==◌, Option, Some, None, refl, sym, ap, subst, ◌∙◌, arith}
use Rattle.std.proofs.lemmas.Bool.Decides.{nat_tests}
use Rattle.archive_kit.specs.Adding.{add_payloads, both_ranges, joined_range}
use Rattle.archive_kit.specs.Telling.{bucket_told, count_told, sum_told}
use Rattle.archive_kit.proofs.Telling.{buckets_add, counts_add, sums_add}
use Rattle.point_kit.specs.declared.payload.Payload.{Payload}
use Rattle.point_kit.specs.declared.payload.Payload.TheVariants as payloads
use Rattle.rollup_kit.specs.Extents.{join_spans, span_of, span_of_range}
use Rattle.rollup_kit.specs.Parts.{Parts, plus_parts, parts_of}
use Rattle.rollup_kit.specs.declared.extent.Extent.{Extent}
use Rattle.rollup_kit.specs.declared.extent.Extent.TheVariants.{Empty, Known, Unknown}

span_none : (e : Extent) → join_spans e Empty ≡ e
span_none Empty = refl
span_none (Known a b) = refl
span_none Unknown = refl

zeros : (c d : ℕ) → (c == 0) ≡ true → (d == 0) ≡ true → (c + d == 0) ≡ true
zeros c d e f = grind (arith, nat_tests)

some_left : (c d : ℕ) → (c == 0) ≡ false → (c + d == 0) ≡ false
some_left c d e = grind (arith, nat_tests)

some_right : (c d : ℕ) → (d == 0) ≡ false → (c + d == 0) ≡ false
some_right c d e = grind (arith, nat_tests)

both_spans : (r q : Option (ℤ × ℤ)) → span_of_range (both_ranges r q) ≡ join_spans (span_of_range r) (span_of_range q)
both_spans None q = refl
both_spans (Some r) None = refl
both_spans (Some r) (Some q) = refl

spans : (c d : ℕ) (r q : Option (ℤ × ℤ)) → span_of (c + d) (joined_range c r d q) ≡ join_spans (span_of c r) (span_of d q)
spans c d r q = go (c == 0) (d == 0) refl refl
  where
    Goal : Bool → Bool → Type 0
    Goal a b = cond (c + d == 0) Empty (span_of_range (cond b (cond a None r) (cond a q (both_ranges r q))))
        ≡ join_spans (cond a Empty (span_of_range r)) (cond b Empty (span_of_range q))

    cases : (a b : Bool) → (c == 0) ≡ a → (d == 0) ≡ b → Goal a b
    cases true true e f = ap (λ x. cond x Empty (span_of_range None)) (zeros c d e f)
    cases true false e f = ap (λ x. cond x Empty (span_of_range q)) (some_right c d f)
    cases false true e f = ap (λ x. cond x Empty (span_of_range r)) (some_left c d e) ∙ sym (span_none (span_of_range r))
    cases false false e f = ap (λ x. cond x Empty (span_of_range (both_ranges r q))) (some_left c d e) ∙ both_spans r q

    go : (a b : Bool) → (c == 0) ≡ a → (d == 0) ≡ b → Goal (c == 0) (d == 0)
    go a b e f = subst (λ (x : Bool). Goal x (d == 0)) (sym e) (subst (λ (x : Bool). Goal a x) (sym f) (cases a b e f))

abbrev span_told : Payload → Extent
span_told p = (parts_of p).span

spans_add : (p q : Payload) → span_told (add_payloads p q) ≡ join_spans (span_told p) (span_told q)
spans_add (payloads.Sum a) (payloads.Sum b) = refl
spans_add (payloads.Sum a) (payloads.Gauge v) = refl
spans_add (payloads.Sum a) (payloads.Hist d t m q) = refl
spans_add (payloads.Gauge v) q = refl
spans_add (payloads.Hist c s l r) (payloads.Sum b) = sym (span_none (span_of c r))
spans_add (payloads.Hist c s l r) (payloads.Gauge v) = sym (span_none (span_of c r))
spans_add (payloads.Hist c s l r) (payloads.Hist d t m q) = spans c d r q

abbrev told : Payload → Parts
told p = record { sum = sum_told p; count = count_told p; buckets = λ place. bucket_told place p; span = span_told p }

parts_told : (p : Payload) → parts_of p ≡ told p
parts_told (payloads.Sum a) = refl
parts_told (payloads.Gauge v) = refl
parts_told (payloads.Hist c s l r) = refl

pub both_read : (p q : Payload) → parts_of (add_payloads p q) ≡ plus_parts (parts_of p) (parts_of q)
both_read p q =
    parts_told (add_payloads p q)
    ∙ (λ i. record { sum = sums_add p q i; count = counts_add p q i; buckets = λ place. buckets_add place p q i; span = spans_add p q i })
    ∙ (λ i. plus_parts (sym (parts_told p) i) (sym (parts_told q) i))
