-- What points that no refusal fits keep, and that no refusal fits what keeps it.
use mathlib.Core.Bool.{true≢false}
use Rattle.std.proofs.Common.{◌+◌, ◌==◌, ◌||◌, sum, ◌≡◌, ◌<◌, ◌≤ℤ◌, ℕ, ℤ, pos, List, length, Bool, true, false, not, ◌&&◌, Option, Some, None, All, position, nat_le, int_lt, refl, ap, arith, ◌∷◌, [], ◌++◌, ◌∙◌}
use Rattle.std.proofs.lemmas.Bool.{leb-false, lt-leb, ne_eqb, eq-eqb}
use Rattle.std.proofs.lemmas.List.Elements.{All-tail}
use Rattle.std.proofs.lemmas.Iterator.Adapters.{position_from-zero}
use Rattle.std.proofs.lemmas.Bool.Decides.{nat_tests}
use Rattle.std.proofs.lemmas.Int.{ints}
use Rattle.std.proofs.lemmas.List.Sums.{AllPass-from_list_all}
use Rattle.std.specs.Cmp.{IsEquivalence}
use Rattle.std.proofs.lemmas.List.Folds.{list_any-append}
use Rattle.std.specs.List.{AllByRecursion, IsDistinct, list_any, position_from}
use Rattle.std.specs.Option.{option_map}
use Rattle.attr_kit.proofs.Firsts.{none_of, map_none, when_none}
use Rattle.attr_kit.proofs.Places.{nowhere}
use Rattle.attr_kit.proofs.Repeats.{distinct}
use Rattle.attr_kit.specs.Exact.{first_holds, second_holds}
use Rattle.attr_kit.specs.Refusing.{wherever, repeat_from, NoneOf, repeat}
use Rattle.attr_kit.specs.contracts.attr_set.AttrSetEq.TheImpl.Laws as set_laws
use Rattle.point_kit.specs.ExportFaults.{export_faults, export_fault, same_key}
use Rattle.point_kit.specs.Payload.{wrong_shape, wrong_buckets, wrong_count, negative, wrong_range, wrong_range_of, IsSound, IsSoundRange}
use Rattle.point_kit.specs.contracts.stream.StreamEq.TheImpl.Laws as stream_laws
use Rattle.point_kit.specs.declared.export_fault.ExportFault.{ExportFault}
use Rattle.point_kit.specs.declared.export_fault.ExportFault.TheVariants as faults
use Rattle.point_kit.specs.declared.export_point.ExportPoint.{ExportPoint}
use Rattle.point_kit.specs.declared.payload.Payload.{Payload}
use Rattle.point_kit.specs.declared.payload.Payload.TheVariants as payloads
use Rattle.point_kit.specs.declared.shape.Shape.{Shape}
use Rattle.point_kit.specs.declared.shape.Shape.TheVariants as shapes

pub same_key_equivalence : IsEquivalence same_key
same_key_equivalence =
    let streams = stream_laws.laws-law in
    let sets = set_laws.laws-law in
    record {
      refl = λ p. (λ i. streams.refl p.stream i && sets.refl p.attrs i);
      symm = λ p q. (λ i. streams.symm p.stream q.stream i && sets.symm p.attrs q.attrs i);
      congr = λ p q r e. (λ i. streams.congr p.stream q.stream r.stream (first_holds _ _ e) i && sets.congr p.attrs q.attrs r.attrs (second_holds _ _ e) i);
    }

not_true : (b : Bool) → b ≡ false → not b ≡ true
not_true b e = ap not e

not_false : (b : Bool) → not b ≡ true → b ≡ false
not_false false e = refl
not_false true e = cc

-- where no place is found, no element passes
none_pass : {A : Type 0} (t : A → Bool) (xs : List A) → position t xs ≡ None → All (λ x. t x ≡ false) xs
none_pass t xs e = λ k d h. not_false _ (AllPass-from_list_all (λ x. not (t x)) xs (nowhere t (λ x. not (t x)) (λ x. not_true (t x)) xs e) k d h)

not_below : (a b : ℤ) → int_lt a b ≡ false → b ≤ℤ a
not_below a b e = omega (arith, ints)

some_values : (c : ℕ) → (c == 0) ≡ false → 0 < c
some_values c e = grind (arith, nat_tests)

counts_agree : (m n : ℕ) → not (m == n) ≡ false → m ≡ n
counts_agree m n e = grind (arith, nat_tests)

either_false : (a b : Bool) → (a || b) ≡ false → (a ≡ false) × (b ≡ false)
either_false false false e = (refl, refl)
either_false false true e = cc
either_false true b e = cc

range_of : (c : ℕ) (r : Option (ℤ × ℤ)) → wrong_range_of c r ≡ false → IsSoundRange c r
range_of c None e = tt
range_of c (Some r) e = let both = either_false (c == 0) (int_lt r.1 r.0) e in (some_values c both.0, not_below r.1 r.0 both.1)

-- a payload at which no test finds anything is sound
pub payload_of : (s : Shape) (p : Payload) → wrong_shape s p ≡ false → wrong_buckets s p ≡ false → wrong_count p ≡ false → negative s p ≡ false → wrong_range p ≡ false → IsSound s p
payload_of (shapes.Sum true) (payloads.Sum v) a b c d e = not_below v (pos 0) d
payload_of (shapes.Sum false) (payloads.Sum v) a b c d e = tt
payload_of shapes.Gauge (payloads.Gauge v) a b c d e = tt
payload_of (shapes.Histogram b) (payloads.Hist n s l r) a c d e f = record {
  buckets = counts_agree (length l) (length b + 1) c;
  counted = counts_agree (sum l) n d;
  not_negative = not_below s (pos 0) e;
  ranged = range_of n r f;
}
payload_of s p a b c d e = absurd (true≢false a)

sound : (s t : ℕ) (ps : List ExportPoint) → export_fault s t ps ≡ None → NoneOf (export_faults s t ps)
unfolding export_fault
sound s t ps e = none_of (export_faults s t ps) e

module _ (s t : ℕ) (ps : List ExportPoint) (e : export_fault s t ps ≡ None) where
  -- the time is after the start
  pub sound_time : s < t
  sound_time = leb-false t s (when_none (nat_le t s) faults.TimeNotAfterStart (sound s t ps e).0)

  -- no two points are of one stream and one set
  pub sound_keys : IsDistinct same_key ps
  sound_keys = distinct same_key_equivalence ps (map_none (λ i. faults.KeyTwice i) (repeat same_key ps) (sound s t ps e).1.0)

  -- each payload is sound in its stream
  pub sound_points : All (λ p. IsSound p.stream.shape p.payload) ps
  sound_points =
      let rest = (sound s t ps e).1.1 in
      λ k d h. payload_of _ _
      (none_pass (λ p. wrong_shape p.stream.shape p.payload) ps (map_none (λ i. faults.WrongShape i) _ rest.0) k d h)
      (none_pass (λ p. wrong_buckets p.stream.shape p.payload) ps (map_none (λ i. faults.BucketCount i) _ rest.1.0) k d h)
      (none_pass (λ p. wrong_count p.payload) ps (map_none (λ i. faults.CountMismatch i) _ rest.1.1.0) k d h)
      (none_pass (λ p. negative p.stream.shape p.payload) ps (map_none (λ i. faults.NegativeTotal i) _ rest.1.1.1.0) k d h)
      (none_pass (λ p. wrong_range p.payload) ps (map_none (λ i. faults.BadRange i) _ rest.1.1.1.1.0) k d h)

not_under : (a b : ℤ) → b ≤ℤ a → int_lt a b ≡ false
not_under a b h = elim (int_lt a b) as (λ t. int_lt a b ≡ t → t ≡ false) [ true ↦ λ e. absurd (omega (arith, ints)) | false ↦ λ e. refl ] refl

range_fits : (c : ℕ) (r : Option (ℤ × ℤ)) → IsSoundRange c r → wrong_range_of c r ≡ false
range_fits c None h = refl
range_fits c (Some r) h = rw (ne_eqb c 0 (omega (arith, h.0)), not_under r.1 r.0 h.1) refl

-- no test of a payload alone finds anything in a sound one
pub payload_fits : (s : Shape) (p : Payload) → IsSound s p → (wrong_shape s p ≡ false) × (wrong_buckets s p ≡ false) × (wrong_count p ≡ false) × (negative s p ≡ false) × (wrong_range p ≡ false)
payload_fits (shapes.Sum true) (payloads.Sum v) h = (refl, refl, refl, not_under v (pos 0) h, refl)
payload_fits (shapes.Sum false) (payloads.Sum v) h = (refl, refl, refl, refl, refl)
payload_fits shapes.Gauge (payloads.Gauge v) h = (refl, refl, refl, refl, refl)
payload_fits (shapes.Histogram b) (payloads.Hist n s l r) h = (refl, ap not (eq-eqb (length l) (length b + 1) h.buckets), ap not (eq-eqb (sum l) n h.counted), not_under s (pos 0) h.not_negative, range_fits n r h.ranged)
payload_fits s p h = absurd h

-- where no element passes, no place is found
none_found_from : {A : Type 0} (t : A → Bool) (i : ℕ) (xs : List A) → All (λ x. t x ≡ false) xs → position_from t i xs ≡ None
none_found_from t i [] h = refl
none_found_from t i (x ∷ xs) h = rw (h 0 x (omega arith)) (none_found_from t (i + 1) xs (All-tail (λ y. t y ≡ false) x xs h))

none_found : {A : Type 0} (f : ℕ → ExportFault) (t : A → Bool) (xs : List A) → All (λ x. t x ≡ false) xs → wherever f t xs ≡ None
none_found f t xs h = ap (option_map f) (position_from-zero t xs ∙ none_found_from t 0 xs h)

module _ {A : Type 0} where
  both_of_all : (P Q S : A → Type 0) → ((y : A) → P y → Q y → S y) → (xs : List A) → AllByRecursion P xs → AllByRecursion Q xs → AllByRecursion S xs
  both_of_all P Q S f [] p q = tt
  both_of_all P Q S f (x ∷ xs) p q = (f x p.0 q.0, both_of_all P Q S f xs p.1 q.1)

  all_of : (P : A → Type 0) → ((y : A) → P y) → (xs : List A) → AllByRecursion P xs
  all_of P f [] = tt
  all_of P f (x ∷ xs) = (f x, all_of P f xs)

  module _ (eq : A → A → Bool) (laws : IsEquivalence eq) where
    -- an element that ties with none of these, nor with one more, ties with none of all
    still_new : (earlier : List A) (x y : A) → list_any (eq y) earlier ≡ false → eq x y ≡ false → list_any (eq y) (earlier ++ x ∷ []) ≡ false
    still_new earlier x y new apart = list_any-append (eq y) earlier (x ∷ []) ∙ (λ i. new i || ((laws.symm y x ∙ apart) i || false))

    none_repeats_from : (earlier : List A) (i : ℕ) (xs : List A) → AllByRecursion (λ y. list_any (eq y) earlier ≡ false) xs → IsDistinct eq xs → repeat_from eq earlier i xs ≡ None
    unfolding IsDistinct
    none_repeats_from earlier i [] new keys = refl
    none_repeats_from earlier i (x ∷ xs) new keys =
        rw (new.0) (none_repeats_from (earlier ++ x ∷ []) (i + 1) xs (both_of_all (λ y. list_any (eq y) earlier ≡ false) (λ y. eq x y ≡ false) (λ y. list_any (eq y) (earlier ++ x ∷ []) ≡ false) (still_new earlier x) xs new.1 keys.0) keys.1)

    none_repeats : (xs : List A) → IsDistinct eq xs → repeat eq xs ≡ None
    none_repeats xs keys = none_repeats_from [] 0 xs (all_of (λ y. list_any (eq y) [] ≡ false) (λ y. refl) xs) keys

-- no refusal fits points after the start, of which no two are of one stream and one set, and at each of which no test finds anything
pub fitting_builds : (s t : ℕ) (ps : List ExportPoint) → s < t → IsDistinct same_key ps
    → All (λ p. wrong_shape p.stream.shape p.payload ≡ false) ps
    → All (λ p. wrong_buckets p.stream.shape p.payload ≡ false) ps
    → All (λ p. wrong_count p.payload ≡ false) ps
    → All (λ p. negative p.stream.shape p.payload ≡ false) ps
    → All (λ p. wrong_range p.payload ≡ false) ps
    → export_fault s t ps ≡ None
unfolding export_fault
fitting_builds s t ps later keys shapes buckets counts totals ranges =
    rw (
      lt-leb t s later,
      none_repeats same_key same_key_equivalence ps keys,
      none_found (λ i. faults.WrongShape i) (λ p. wrong_shape p.stream.shape p.payload) ps shapes,
      none_found (λ i. faults.BucketCount i) (λ p. wrong_buckets p.stream.shape p.payload) ps buckets,
      none_found (λ i. faults.CountMismatch i) (λ p. wrong_count p.payload) ps counts,
      none_found (λ i. faults.NegativeTotal i) (λ p. negative p.stream.shape p.payload) ps totals,
      none_found (λ i. faults.BadRange i) (λ p. wrong_range p.payload) ps ranges,
    ) refl

-- and the same where each payload is sound in its stream
pub sound_builds : (s t : ℕ) (ps : List ExportPoint) → s < t → IsDistinct same_key ps → All (λ p. IsSound p.stream.shape p.payload) ps → export_fault s t ps ≡ None
sound_builds s t ps later keys sound =
    fitting_builds s t ps later keys
    (λ k d h. (payload_fits _ _ (sound k d h)).0)
    (λ k d h. (payload_fits _ _ (sound k d h)).1)
    (λ k d h. (payload_fits _ _ (sound k d h)).2)
    (λ k d h. (payload_fits _ _ (sound k d h)).3)
    (λ k d h. (payload_fits _ _ (sound k d h)).4)
