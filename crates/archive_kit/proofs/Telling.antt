-- Totals tell what was added to them: sums, counts and buckets, of whatever streams and sets.
use Rattle.std.proofs.Common.{◌≡◌, ℕ, ℤ, pos, ◌+◌, ◌+ℤ◌, zero, suc, Bool, true, false, cond, List, [], ◌∷◌, get_or, refl, sym, ap, ◌∙◌, arith}
use Rattle.std.proofs.lemmas.Bool.{and_parts}
use Rattle.std.proofs.lemmas.Int.{ints}
use Rattle.attr_kit.specs.Exact.{exact_pairs, exact_lists, exact_texts, exact_values}
use Rattle.attr_kit.specs.declared.attr_set.AttrSet.{AttrSet}
use Rattle.point_kit.specs.Exact.{exact_streams}
use Rattle.point_kit.specs.ExportFaults.{same_key}
use Rattle.point_kit.specs.declared.export_point.ExportPoint.{ExportPoint}
use Rattle.point_kit.specs.declared.payload.Payload.{Payload}
use Rattle.point_kit.specs.declared.payload.Payload.TheVariants as payloads
use Rattle.point_kit.specs.declared.stream.Stream.{Stream}
use Rattle.schedule_kit.specs.Totals.{IsSum}
use Rattle.schedule_kit.proofs.Totals.{count_sum}
use Rattle.archive_kit.specs.Adding.{add_buckets, add_payloads}
use Rattle.archive_kit.specs.Telling.{bucket_told, count_told, sum_told, told_by}
use Rattle.archive_kit.specs.Totals.{is_gauge, plus_payload, add_total, add_totals}

module _ {V : Type 0} (none : V) (plus : V → V → V) (is : IsSum none plus) (reads : Payload → V) (added : (p q : Payload) → reads (add_payloads p q) ≡ plus (reads p) (reads q)) (gauges : (v : ℤ) → reads (payloads.Gauge v) ≡ none) (asks : Stream → AttrSet → Bool) where
  abbrev told : List ExportPoint → V
  told points = told_by none plus reads asks points

  abbrev one : ExportPoint → V
  one p = cond (asks p.stream p.attrs) (reads p.payload) none

  none_right : (a : V) → plus a none ≡ a
  none_right a = is.comm a none ∙ is.zero_left a

  same_asked : (p q : ExportPoint) → same_key p q ≡ true → asks p.stream p.attrs ≡ asks q.stream q.attrs
  same_asked p q e =
      let both = and_parts _ _ e in
      ap (λ s. asks s p.attrs) (exact_streams p.stream q.stream both.0) ∙ ap (asks q.stream) (exact_lists (exact_pairs exact_texts exact_values) p.attrs q.attrs both.1)

  both_read : (a b : Bool) (p q : Payload) → b ≡ a → cond a (reads (add_payloads q p)) none ≡ plus (cond a (reads q) none) (cond b (reads p) none)
  both_read true b p q e = added q p ∙ ap (λ c. plus (reads q) (cond c (reads p) none)) (sym e)
  both_read false b p q e = sym (is.zero_left none) ∙ ap (λ c. plus none (cond c (reads p) none)) (sym e)

  one_more : (qs : List ExportPoint) (p : ExportPoint) → told (add_total qs p) ≡ plus (told qs) (one p)
  one_more [] p = is.comm (one p) none
  one_more (q ∷ qs) p = elim (same_key p q) as (λ b. same_key p q ≡ b → told (cond b (plus_payload q p.payload ∷ qs) (q ∷ add_total qs p)) ≡ plus (plus (one q) (told qs)) (one p)) [
    | true ↦ λ e.
        ap (λ v. plus v (told qs)) (both_read (asks q.stream q.attrs) (asks p.stream p.attrs) p.payload q.payload (same_asked p q e))
        ∙ is.assoc (one q) (one p) (told qs) ∙ ap (plus (one q)) (is.comm (one p) (told qs)) ∙ sym (is.assoc (one q) (told qs) (one p))
    | false ↦ λ _. ap (plus (one q)) (one_more qs p) ∙ sym (is.assoc (one q) (told qs) (one p))
  ] refl

  no_gauge : (b : Bool) (p : Payload) → is_gauge p ≡ true → cond b (reads p) none ≡ none
  no_gauge true (payloads.Gauge v) e = gauges v
  no_gauge true (payloads.Sum a) e = cc
  no_gauge true (payloads.Hist c s l r) e = cc
  no_gauge false p e = refl

  pub all_told : (qs ps : List ExportPoint) → told (add_totals qs ps) ≡ plus (told qs) (told ps)
  all_told qs [] = sym (none_right (told qs))
  all_told qs (p ∷ ps) = elim (is_gauge p.payload) as (λ b. is_gauge p.payload ≡ b → told (cond b (add_totals qs ps) (add_totals (add_total qs p) ps)) ≡ plus (told qs) (plus (one p) (told ps))) [
    | true ↦ λ e. all_told qs ps ∙ ap (plus (told qs)) (sym (ap (λ v. plus v (told ps)) (no_gauge (asks p.stream p.attrs) p.payload e) ∙ is.zero_left (told ps)))
    | false ↦ λ _. all_told (add_total qs p) ps ∙ ap (λ v. plus v (told ps)) (one_more qs p) ∙ is.assoc (told qs) (one p) (told ps)
  ] refl

pub whole_sum : IsSum (pos 0) ◌+ℤ◌
whole_sum = record { assoc = λ a b c. omega (arith, ints); comm = λ a b. omega (arith, ints); zero_left = λ a. omega (arith, ints) }

pub sums_add : (p q : Payload) → sum_told (add_payloads p q) ≡ sum_told p +ℤ sum_told q
sums_add (payloads.Sum a) (payloads.Sum b) = refl
sums_add (payloads.Sum a) (payloads.Gauge v) = omega (arith, ints)
sums_add (payloads.Sum a) (payloads.Hist d t m q) = refl
sums_add (payloads.Gauge v) q = sym (whole_sum.zero_left (sum_told q))
sums_add (payloads.Hist c s l r) (payloads.Sum b) = refl
sums_add (payloads.Hist c s l r) (payloads.Gauge v) = omega (arith, ints)
sums_add (payloads.Hist c s l r) (payloads.Hist d t m q) = refl

pub counts_add : (p q : Payload) → count_told (add_payloads p q) ≡ count_told p + count_told q
counts_add (payloads.Sum a) (payloads.Sum b) = omega arith
counts_add (payloads.Sum a) (payloads.Gauge v) = omega arith
counts_add (payloads.Sum a) (payloads.Hist d t m q) = omega arith
counts_add (payloads.Gauge v) q = sym (count_sum.zero_left (count_told q))
counts_add (payloads.Hist c s l r) (payloads.Sum b) = omega arith
counts_add (payloads.Hist c s l r) (payloads.Gauge v) = omega arith
counts_add (payloads.Hist c s l r) (payloads.Hist d t m q) = refl

side_by_side : (l m : List ℕ) (k : ℕ) → get_or (add_buckets l m) k 0 ≡ get_or l k 0 + get_or m k 0
side_by_side [] m k = sym (count_sum.zero_left (get_or m k 0))
side_by_side (x ∷ l) [] k = omega arith
side_by_side (x ∷ l) (y ∷ m) zero = refl
side_by_side (x ∷ l) (y ∷ m) (suc k) = side_by_side l m k

pub buckets_add : (k : ℕ) (p q : Payload) → bucket_told k (add_payloads p q) ≡ bucket_told k p + bucket_told k q
buckets_add k (payloads.Sum a) (payloads.Sum b) = omega arith
buckets_add k (payloads.Sum a) (payloads.Gauge v) = omega arith
buckets_add k (payloads.Sum a) (payloads.Hist d t m q) = sym (count_sum.zero_left (get_or m k 0))
buckets_add k (payloads.Gauge v) q = sym (count_sum.zero_left (bucket_told k q))
buckets_add k (payloads.Hist c s l r) (payloads.Sum b) = omega arith
buckets_add k (payloads.Hist c s l r) (payloads.Gauge v) = omega arith
buckets_add k (payloads.Hist c s l r) (payloads.Hist d t m q) = side_by_side l m k

pub sums_told : (asks : Stream → AttrSet → Bool) (qs ps : List ExportPoint)
    → told_by (pos 0) ◌+ℤ◌ sum_told asks (add_totals qs ps) ≡ told_by (pos 0) ◌+ℤ◌ sum_told asks qs +ℤ told_by (pos 0) ◌+ℤ◌ sum_told asks ps
sums_told asks qs ps = all_told (pos 0) ◌+ℤ◌ whole_sum sum_told sums_add (λ v. refl) asks qs ps

pub counts_told : (asks : Stream → AttrSet → Bool) (qs ps : List ExportPoint)
    → told_by 0 ◌+◌ count_told asks (add_totals qs ps) ≡ told_by 0 ◌+◌ count_told asks qs + told_by 0 ◌+◌ count_told asks ps
counts_told asks qs ps = all_told 0 ◌+◌ count_sum count_told counts_add (λ v. refl) asks qs ps

pub buckets_told : (k : ℕ) (asks : Stream → AttrSet → Bool) (qs ps : List ExportPoint)
    → told_by 0 ◌+◌ (bucket_told k) asks (add_totals qs ps) ≡ told_by 0 ◌+◌ (bucket_told k) asks qs + told_by 0 ◌+◌ (bucket_told k) asks ps
buckets_told k asks qs ps = all_told 0 ◌+◌ count_sum (bucket_told k) (buckets_add k) (λ v. refl) asks qs ps
