-- What a stream is fed depends on which recordings there are, where the stream is within its limit.
use Rattle.std.proofs.Common.{◌≡◌, ℕ, ℤ, ◌+◌, ◌<◌, ◌≤◌, Bool, true, false, cond, ◌||◌, List, [], ◌∷◌, filter, refl, sym, ap, subst, ◌∙◌, arith, true≢false, if◌then◌else◌}
use Rattle.std.proofs.lemmas.List.{take_all}
use Rattle.attr_kit.specs.declared.attr_set.AttrSet.{AttrSet}
use Rattle.agg_kit.specs.Entries.{Entry, Arrivals, arrivals_from, arrivals}
use Rattle.agg_kit.specs.Feeding.{set_eq, overflow_set, is_own, has_set, distinct, sets_of, own_sets, goes_to, placements, fed}
use Rattle.agg_kit.specs.Sound.{AreOnce}
use Rattle.agg_kit.proofs.Distinct.{same, itself, turn, has-distinct, once-distinct}
use Rattle.agg_kit.proofs.Limits.{not-false, firsts, has-firsts, moved, same-fed}
use Rattle.plan_kit.specs.Plans.{Planned, feeds_of}
use Rattle.schedule_kit.specs.Totals.{total}
use Rattle.rollup_kit.specs.Limits.{own_number, IsWithin}
use Rattle.schedule_kit.proofs.Mixed.{without, times, total-without, totals_mixed, mixed-map, mixed-filter, mixed-flat_map, mixed-length}
use Rattle.schedule_kit.proofs.Totals.{any_sum, count_sum}
use Rattle.schedule_kit.specs.Mixed.{AreMixed}

has-total : (a : AttrSet) (xs : List AttrSet) → has_set xs a ≡ total false ◌||◌ (set_eq a) xs
has-total a [] = refl
has-total a (x ∷ xs) = ap (λ b. set_eq a x || b) (has-total a xs)

-- a set stands in both of two mixed lists, or in none
pub has-mixed : (xs ys : List AttrSet) → AreMixed xs ys → (a : AttrSet) → has_set xs a ≡ has_set ys a
has-mixed xs ys m a = has-total a xs ∙ totals_mixed set_eq same itself false ◌||◌ any_sum (set_eq a) xs ys m ∙ sym (has-total a ys)

-- a list without one of its sets
abbrev less : AttrSet → List AttrSet → List AttrSet
less x ys = without set_eq x ys

has-less : (x a : AttrSet) (ys : List AttrSet) → set_eq x a ≡ false → has_set (less x ys) a ≡ has_set ys a
has-less x a [] h = refl
has-less x a (y ∷ ys) h = by (has-less x a ys h) (set_eq x y) refl
  where
    by : has_set (less x ys) a ≡ has_set ys a → (b : Bool) → set_eq x y ≡ b → has_set (cond b ys (y ∷ less x ys)) a ≡ (set_eq a y || has_set ys a)
    by rest true e = ap (λ b. b || has_set ys a) (sym (turn x a h) ∙ ap (set_eq a) (same x y e))
    by rest false e = ap (λ b. set_eq a y || b) rest

once-less : (x : AttrSet) (ys : List AttrSet) → AreOnce ys → AreOnce (less x ys)
once-less x [] u = tt
once-less x (y ∷ ys) u = by (once-less x ys u.1) (set_eq x y) refl
  where
    by : AreOnce (less x ys) → (b : Bool) → set_eq x y ≡ b → AreOnce (cond b ys (y ∷ less x ys))
    by rest true e = u.1
    by rest false e = (has-less x y ys e ∙ u.0, rest)

has-no-more : (x : AttrSet) (ys : List AttrSet) → AreOnce ys → has_set (less x ys) x ≡ false
has-no-more x [] u = refl
has-no-more x (y ∷ ys) u = by (has-no-more x ys u.1) (set_eq x y) refl
  where
    by : has_set (less x ys) x ≡ false → (b : Bool) → set_eq x y ≡ b → has_set (cond b ys (y ∷ less x ys)) x ≡ false
    by rest true e = subst (λ (z : AttrSet). has_set ys z ≡ false) (sym (same x y e)) u.0
    by rest false e = ap (λ b. b || has_set (less x ys) x) e ∙ rest

times-has : (x : AttrSet) (ys : List AttrSet) → has_set ys x ≡ true → 0 < times set_eq x ys
times-has x [] h = absurd (true≢false (sym h))
times-has x (y ∷ ys) h = by (times-has x ys) (set_eq x y) h
  where
    by : (has_set ys x ≡ true → 0 < times set_eq x ys) → (b : Bool) → (b || has_set ys x) ≡ true → 0 < cond {A = ℕ} b 1 0 + times set_eq x ys
    by rest true e = omega arith
    by rest false e = let k = rest e in omega (arith, k)

-- lists without repeats that have the same sets
pub mixed-sets : (xs ys : List AttrSet) → AreOnce xs → AreOnce ys → ((a : AttrSet) → has_set xs a ≡ has_set ys a) → AreMixed xs ys
mixed-sets [] [] u v h = λ f. refl
mixed-sets [] (y ∷ ys) u v h = absurd (true≢false (sym (h y ∙ ap (λ b. b || has_set ys y) (itself y))))
mixed-sets (x ∷ xs) ys u v h = λ f.
    ap (λ n. f x + n) (mixed-sets xs (less x ys) u.1 (once-less x ys v) others f) ∙ sym (total-without set_eq same 0 ◌+◌ count_sum f x ys (times-has x ys there))
  where
    there : has_set ys x ≡ true
    there = sym (h x) ∙ ap (λ b. b || has_set xs x) (itself x)

    others : (a : AttrSet) → has_set xs a ≡ has_set (less x ys) a
    others a = by (set_eq x a) refl
      where
        by : (b : Bool) → set_eq x a ≡ b → has_set xs a ≡ has_set (less x ys) a
        by true e = subst (λ (z : AttrSet). has_set xs z ≡ has_set (less x ys) z) (same x a e) (u.0 ∙ sym (has-no-more x ys v))
        by false e = ap (λ b. b || has_set xs a) (sym (turn x a e)) ∙ h a ∙ sym (has-less x a ys e)

-- the different sets of two mixed lists
pub distinct-mixed : (xs ys : List AttrSet) → AreMixed xs ys → AreMixed (distinct xs) (distinct ys)
distinct-mixed xs ys m =
    mixed-sets (distinct xs) (distinct ys) (once-distinct xs) (once-distinct ys) (λ a. has-distinct xs a ∙ has-mixed xs ys m a ∙ sym (has-distinct ys a))

pub sets-mixed : (xs ys : Arrivals) → AreMixed xs ys → AreMixed (sets_of xs) (sets_of ys)
sets-mixed xs ys m = mixed-map (λ (x : AttrSet × ℤ). x.0) xs ys m

pub own-number-mixed : (xs ys : Arrivals) → AreMixed xs ys → own_number xs ≡ own_number ys
own-number-mixed xs ys m =
    mixed-length (firsts xs) (firsts ys) (distinct-mixed (filter is_own (sets_of xs)) (filter is_own (sets_of ys)) (mixed-filter is_own (sets_of xs) (sets_of ys) (sets-mixed xs ys m)))

moved-itself : (xs : Arrivals) → moved (λ a. a) xs ≡ xs
moved-itself [] = refl
moved-itself (x ∷ xs) = ap (λ l. x ∷ l) (moved-itself xs)

-- within the limit each set feeds itself
pub within-placements : (limit : ℕ) (xs : Arrivals) → own_number xs ≤ limit → placements limit xs ≡ xs
within-placements limit xs w = same-fed xs (goes_to (own_sets limit xs)) (λ a. a) stays ∙ moved-itself xs
  where
    stays : (a : AttrSet) → has_set (sets_of xs) a ≡ true → goes_to (own_sets limit xs) a ≡ a
    stays a h = ap (λ own. goes_to own a) (take_all limit (firsts xs) w) ∙ by (is_own a) refl
      where
        by : (b : Bool) → is_own a ≡ b → goes_to (firsts xs) a ≡ a
        by true e = ap (λ b. if b then a else overflow_set) (has-firsts xs a e ∙ h)
        by false e = let is : a ≡ overflow_set = same a overflow_set (not-false (set_eq a overflow_set) e) in
            elim (has_set (firsts xs) a) as (λ b. (if b then a else overflow_set) ≡ a) [ true ↦ refl | false ↦ sym is ]

-- what arrives at a stream
pub arrivals-mixed : (p : Planned) (m : ℕ) (h k : List Entry) → AreMixed h k → AreMixed (arrivals p m h) (arrivals p m k)
arrivals-mixed p m h k s = mixed-flat_map (λ e. arrivals_from m (feeds_of p e.instrument) e.attrs e.value) h k s

pub within-mixed : (p : Planned) (m : ℕ) (h k : List Entry) → AreMixed h k → IsWithin p m h → IsWithin p m k
within-mixed p m h k s w = subst (λ (n : ℕ). n ≤ p.limit) (own-number-mixed (arrivals p m h) (arrivals p m k) (arrivals-mixed p m h k s)) w

-- what is fed, and which sets are fed
pub fed-mixed : (p : Planned) (m : ℕ) (h k : List Entry) → AreMixed h k → IsWithin p m h → AreMixed (fed p m h) (fed p m k)
unfolding fed
fed-mixed p m h k s w = λ f.
    ap (total 0 ◌+◌ f) (within-placements p.limit (arrivals p m h) w)
    ∙ arrivals-mixed p m h k s f
    ∙ ap (total 0 ◌+◌ f) (sym (within-placements p.limit (arrivals p m k) (within-mixed p m h k s w)))

pub fed-sets-mixed : (p : Planned) (m : ℕ) (h k : List Entry) → AreMixed h k → IsWithin p m h → AreMixed (distinct (sets_of (fed p m h))) (distinct (sets_of (fed p m k)))
fed-sets-mixed p m h k s w = distinct-mixed (sets_of (fed p m h)) (sets_of (fed p m k)) (sets-mixed (fed p m h) (fed p m k) (fed-mixed p m h k s w))
