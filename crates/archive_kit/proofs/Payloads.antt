-- Payloads that are sound in a stream are sound there added up.
use Rattle.std.proofs.Common.{◌≡◌, ℕ, ℤ, pos, ◌+◌, ◌+ℤ◌, ◌≤◌, ◌≤ℤ◌, Bool, true, false, cond, ◌==◌, List, [], ◌∷◌, length, sum, Option, Some, None, refl, sym, ap, ◌∙◌, arith}
use Rattle.std.proofs.lemmas.Int.{ints, clamps}
use Rattle.std.proofs.lemmas.List.Sums.{sum_by-cons}
use Rattle.point_kit.specs.Payload.{IsSound, IsSoundRange}
use Rattle.point_kit.specs.declared.payload.Payload.{Payload}
use Rattle.point_kit.specs.declared.payload.Payload.TheVariants as payloads
use Rattle.point_kit.specs.declared.shape.Shape.{Shape}
use Rattle.point_kit.specs.declared.shape.Shape.TheVariants as shapes
use Rattle.archive_kit.specs.Adding.{add_buckets, add_payloads, both_ranges, joined_range}

plus_none : (a : ℕ) → a + 0 ≡ a
plus_none a = omega arith

none_plus : (a : ℕ) → 0 + a ≡ a
none_plus a = omega arith

length_added : (l m : List ℕ) (n : ℕ) → length l ≡ n → length m ≡ n → length (add_buckets l m) ≡ n
length_added [] m n e f = f
length_added (x ∷ l) [] n e f = e
length_added (x ∷ l) (y ∷ m) n e f = let rest = length_added l m (length l) refl (omega arith) in omega arith

sum_added : (l m : List ℕ) → sum (add_buckets l m) ≡ sum l + sum m
sum_added [] m = sym (none_plus (sum m))
sum_added (x ∷ l) [] = sym (plus_none (sum (x ∷ l)))
sum_added (x ∷ l) (y ∷ m) =
    let rest : sum (add_buckets l m) ≡ sum l + sum m = sum_added l m in
    sum_more (x + y) (add_buckets l m) ∙ regroup x y _ _ _ rest ∙ sym (ap (λ n. n + sum (y ∷ m)) (sum_more x l) ∙ ap (λ n. (x + sum l) + n) (sum_more y m))
  where
    sum_more : (x : ℕ) (l : List ℕ) → sum (x ∷ l) ≡ x + sum l
    sum_more x l = sum_by-cons (λ n. n) x l

    regroup : (x y t a b : ℕ) → t ≡ a + b → (x + y) + t ≡ (x + a) + (y + b)
    regroup x y t a b e = omega arith

ranges : (c d : ℕ) (r q : Option (ℤ × ℤ)) → IsSoundRange c r → IsSoundRange d q → IsSoundRange (c + d) (joined_range c r d q)
ranges c d r q h k = cases (d == 0) (c == 0)
  where
    one : (n : ℕ) (x : Option (ℤ × ℤ)) → n ≤ c + d → IsSoundRange n x → IsSoundRange (c + d) x
    one n None le s = tt
    one n (Some x) le s = let positive = s.0 in (omega arith, s.1)

    two : (x y : Option (ℤ × ℤ)) → IsSoundRange c x → IsSoundRange d y → IsSoundRange (c + d) (both_ranges x y)
    two None y s t = tt
    two (Some x) None s t = tt
    two (Some x) (Some y) s t = let positive = s.0 in let low = s.1 in let high = t.1 in (omega arith, omega (arith, ints, clamps))

    cases : (a b : Bool) → IsSoundRange (c + d) (cond a (cond b None r) (cond b q (both_ranges r q)))
    cases true true = tt
    cases true false = one c r (omega arith) h
    cases false true = one d q (omega arith) k
    cases false false = two r q h k

added_sum : (a b : ℤ) → pos 0 ≤ℤ a → pos 0 ≤ℤ b → pos 0 ≤ℤ (a +ℤ b)
added_sum a b h k = omega (arith, ints)

pub both_sound : (shape : Shape) (p q : Payload) → IsSound shape p → IsSound shape q → IsSound shape (add_payloads p q)
both_sound (shapes.Sum true) (payloads.Sum a) (payloads.Sum b) h k = added_sum a b h k
both_sound (shapes.Sum false) (payloads.Sum a) (payloads.Sum b) h k = tt
both_sound shapes.Gauge (payloads.Gauge v) (payloads.Gauge w) h k = tt
both_sound (shapes.Histogram b) (payloads.Hist c s l r) (payloads.Hist d t m q) h k = record {
  buckets = length_added l m _ h.buckets k.buckets;
  counted = sum_added l m ∙ ap (λ n. n + sum m) h.counted ∙ ap (λ n. c + n) k.counted;
  not_negative = added_sum s t h.not_negative k.not_negative;
  ranged = ranges c d r q h.ranged k.ranged;
}
both_sound (shapes.Sum m) (payloads.Sum a) q h k = absurd k
both_sound shapes.Gauge (payloads.Gauge v) q h k = absurd k
both_sound (shapes.Histogram b) (payloads.Hist c s l r) q h k = absurd k
both_sound shape p q h k = absurd h
