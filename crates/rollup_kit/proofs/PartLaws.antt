-- Parts add up in any order.
use Rattle.std.proofs.Common.{◌≡◌, ℕ, ℤ, pos, ◌+◌, ◌+ℤ◌, refl, arith}
use Rattle.std.proofs.lemmas.Int.{ints, clamps}
use Rattle.std.specs.Int.{int_min, int_max}
use Rattle.schedule_kit.specs.Totals.{IsSum}
use Rattle.rollup_kit.specs.declared.extent.Extent.{Extent}
use Rattle.rollup_kit.specs.declared.extent.Extent.TheVariants.{Empty, Known, Unknown}
use Rattle.rollup_kit.specs.Parts.{no_parts, plus_parts}
use Rattle.rollup_kit.specs.Extents.{join_spans}

min_commutes : (a b : ℤ) → int_min a b ≡ int_min b a
min_commutes a b = omega (arith, ints, clamps)

max_commutes : (a b : ℤ) → int_max a b ≡ int_max b a
max_commutes a b = omega (arith, ints, clamps)

min_associates : (a b c : ℤ) → int_min (int_min a b) c ≡ int_min a (int_min b c)
min_associates a b c = omega (arith, ints, clamps)

max_associates : (a b c : ℤ) → int_max (int_max a b) c ≡ int_max a (int_max b c)
max_associates a b c = omega (arith, ints, clamps)

spans_commute : (a b : Extent) → join_spans a b ≡ join_spans b a
spans_commute Empty Empty = refl
spans_commute Empty (Known a b) = refl
spans_commute Empty Unknown = refl
spans_commute (Known a b) Empty = refl
spans_commute (Known a b) (Known c d) = λ i. Known (min_commutes a c i) (max_commutes b d i)
spans_commute (Known a b) Unknown = refl
spans_commute Unknown Empty = refl
spans_commute Unknown (Known c d) = refl
spans_commute Unknown Unknown = refl

pub spans_associate : (a b c : Extent) → join_spans (join_spans a b) c ≡ join_spans a (join_spans b c)
spans_associate Empty b c = refl
spans_associate (Known a b) Empty c = refl
spans_associate (Known a b) (Known d e) Empty = refl
spans_associate (Known a b) (Known d e) (Known f g) = λ i. Known (min_associates a d f i) (max_associates b e g i)
spans_associate (Known a b) (Known d e) Unknown = refl
spans_associate (Known a b) Unknown c = refl
spans_associate Unknown b c = refl

sums_associate : (a b c : ℤ) → (a +ℤ b) +ℤ c ≡ a +ℤ (b +ℤ c)
sums_associate a b c = omega (arith, ints)

sums_commute : (a b : ℤ) → a +ℤ b ≡ b +ℤ a
sums_commute a b = omega (arith, ints)

no_sum : (a : ℤ) → pos 0 +ℤ a ≡ a
no_sum a = omega (arith, ints)

counts_associate : (a b c : ℕ) → (a + b) + c ≡ a + (b + c)
counts_associate a b c = omega arith

counts_commute : (a b : ℕ) → a + b ≡ b + a
counts_commute a b = omega arith

no_count : (a : ℕ) → 0 + a ≡ a
no_count a = omega arith

pub parts_add_up : IsSum no_parts plus_parts
parts_add_up = record {
  assoc = λ a b c i. record {
    sum = sums_associate a.sum b.sum c.sum i;
    count = counts_associate a.count b.count c.count i;
    buckets = λ place. counts_associate (a.buckets place) (b.buckets place) (c.buckets place) i;
    span = spans_associate a.span b.span c.span i;
  };
  comm = λ a b i. record {
    sum = sums_commute a.sum b.sum i;
    count = counts_commute a.count b.count i;
    buckets = λ place. counts_commute (a.buckets place) (b.buckets place) i;
    span = spans_commute a.span b.span i;
  };
  zero_left = λ a i. record {
    sum = no_sum a.sum i;
    count = no_count a.count i;
    buckets = λ place. no_count (a.buckets place) i;
    span = a.span;
  };
}

pub counts_add_up : IsSum 0 ◌+◌
counts_add_up = record { assoc = counts_associate; comm = counts_commute; zero_left = no_count }
