-- How many sets a stream is fed, in whatever order its recordings stand.
use Rattle.std.proofs.Common.{◌≡◌, ℕ, ℤ, ◌+◌, ◌<◌, ◌≤◌, ◌⊎◌, inl, inr, zero, suc, Bool, true, false, cond, not, ◌||◌, List, [], ◌∷◌, map, filter, take, length, refl, sym, ap, subst, ◌∙◌, arith, true≢false, if◌then◌else◌}
use Rattle.std.proofs.lemmas.List.{length-take-le}
use Rattle.attr_kit.specs.declared.attr_set.AttrSet.{AttrSet}
use Rattle.agg_kit.specs.Entries.{Entry, Arrivals, arrivals}
use Rattle.agg_kit.specs.Feeding.{set_eq, overflow_set, is_own, has_set, distinct, sets_of, own_sets, goes_to, placements, fed}
use Rattle.agg_kit.specs.Sound.{AreOnce}
use Rattle.agg_kit.proofs.Distinct.{or-no, same, itself, turn, has-distinct, once-distinct}
use Rattle.agg_kit.proofs.Limits.{not-false, firsts, own-is, fed_own, filter-take, sets-fed}
use Rattle.plan_kit.specs.Plans.{Planned}
use Rattle.schedule_kit.specs.Totals.{total}
use Rattle.rollup_kit.proofs.FedMixed.{arrivals-mixed, own-number-mixed, fed-sets-mixed}
use Rattle.rollup_kit.specs.Limits.{own_number}
use Rattle.schedule_kit.proofs.Mixed.{mixed-length}
use Rattle.schedule_kit.proofs.Totals.{count_sum, total-map}
use Rattle.schedule_kit.specs.Mixed.{AreMixed}

below-or : (m n : ℕ) → (m < n) ⊎ (n ≤ m)
below-or zero zero = inr (omega arith)
below-or zero (suc n) = inl (omega arith)
below-or (suc m) zero = inr (omega arith)
below-or (suc m) (suc n) = elim (below-or m n) [ inl h ↦ inl (omega arith) | inr h ↦ inr (omega arith) ]

-- of sets that stand once all but the overflow set are their own
all-own : (ds : List AttrSet) → has_set ds overflow_set ≡ false → length ds ≡ length (filter is_own ds)
all-own [] h = refl
all-own (d ∷ ds) h =
    let n = or-no (set_eq overflow_set d) (has_set ds overflow_set) h in
    let o : is_own d ≡ true = ap not (turn overflow_set d n.0) in
    let rest : length ds ≡ length (filter is_own ds) = all-own ds n.1 in
    let both : length (d ∷ ds) ≡ length (d ∷ filter is_own ds) = omega (arith, rest) in
    both ∙ sym (ap (λ b. length (cond b (d ∷ filter is_own ds) (filter is_own ds))) o)

but-one : (ds : List AttrSet) → AreOnce ds → has_set ds overflow_set ≡ true → length ds ≡ length (filter is_own ds) + 1
but-one [] u h = absurd (true≢false (sym h))
but-one (d ∷ ds) u h = by (but-one ds u.1) (is_own d) refl
  where
    by : (has_set ds overflow_set ≡ true → length ds ≡ length (filter is_own ds) + 1) → (b : Bool) → is_own d ≡ b → length (d ∷ ds) ≡ length (cond b (d ∷ filter is_own ds) (filter is_own ds)) + 1
    by rest false e =
        let is : d ≡ overflow_set = same d overflow_set (not-false (set_eq d overflow_set) e) in
        let k = all-own ds (subst (λ (a : AttrSet). has_set ds a ≡ false) is u.0) in
        omega (arith, k)
    by rest true e =
        let apart : (b : Bool) → set_eq overflow_set d ≡ b → (b || has_set ds overflow_set) ≡ true → has_set ds overflow_set ≡ true = λ b.
        elim b as (λ b. set_eq overflow_set d ≡ b → (b || has_set ds overflow_set) ≡ true → has_set ds overflow_set ≡ true) [
          | true ↦ λ t _. absurd (true≢false (sym e ∙ ap is_own (sym (same overflow_set d t)) ∙ ap not (itself overflow_set)))
          | false ↦ λ _ g. g
        ] in
        let k = rest (apart (set_eq overflow_set d) refl h) in
        omega (arith, k)

has-filtered : (q : AttrSet → Bool) (xs : List AttrSet) (a : AttrSet) → has_set (filter q xs) a ≡ true → has_set xs a ≡ true
has-filtered q [] a h = h
has-filtered q (x ∷ xs) a h = by (has-filtered q xs a) (q x) h
  where
    at : (has_set (filter q xs) a ≡ true → has_set xs a ≡ true) → (t : Bool) → (t || has_set (filter q xs) a) ≡ true → (t || has_set xs a) ≡ true
    at go true k = refl
    at go false k = go k

    more : (t b : Bool) → b ≡ true → (t || b) ≡ true
    more true b k = refl
    more false b k = k

    by : (has_set (filter q xs) a ≡ true → has_set xs a ≡ true) → (b : Bool) → has_set (cond b (x ∷ filter q xs) (filter q xs)) a ≡ true → (set_eq a x || has_set xs a) ≡ true
    by go true k = at go (set_eq a x) k
    by go false k = more (set_eq a x) (has_set xs a) (go k)

filter-all : (q : AttrSet → Bool) (xs : List AttrSet) → ((a : AttrSet) → has_set xs a ≡ true → q a ≡ true) → filter q xs ≡ xs
filter-all q [] h = refl
filter-all q (x ∷ xs) h =
    ap (λ b. cond b (x ∷ filter q xs) (filter q xs)) (h x (ap (λ b. b || has_set xs x) (itself x)))
    ∙ ap (λ l. x ∷ l) (filter-all q xs (λ a k. h a (ap (λ b. set_eq a x || b) k ∙ more (set_eq a x))))
  where
    more : (t : Bool) → (t || true) ≡ true
    more true = refl
    more false = refl

-- where nothing goes to the overflow set, each set has a point of its own
none-over : (own xs : List AttrSet) → has_set (map (goes_to own) xs) overflow_set ≡ false → (a : AttrSet) → has_set xs a ≡ true → has_set own a ≡ true
none-over own [] h a k = absurd (true≢false (sym k))
none-over own (x ∷ xs) h a k =
    let n = or-no (set_eq overflow_set (goes_to own x)) (has_set (map (goes_to own) xs) overflow_set) h in
    by (none-over own xs n.1 a) (set_eq a x) refl k (has_set own x) refl n.0
  where
    by : (has_set xs a ≡ true → has_set own a ≡ true) → (t : Bool) → set_eq a x ≡ t → (t || has_set xs a) ≡ true → (o : Bool) → has_set own x ≡ o → set_eq overflow_set (if o then x else overflow_set) ≡ false → has_set own a ≡ true
    by go true e k true o n = ap (has_set own) (same a x e) ∙ o
    by go true e k false o n = absurd (true≢false (sym (itself overflow_set) ∙ n))
    by go false e k b o n = go k

-- past the limit a stream is fed as many sets of their own as the limit says, and the overflow set
past-number : (limit : ℕ) (xs : Arrivals) → limit < own_number xs → length (distinct (sets_of (placements limit xs))) ≡ limit + 1
past-number limit xs l = ap (λ s. length (distinct s)) (sets-fed own xs) ∙ but-one all (once-distinct (map (goes_to own) (sets_of xs))) over ∙ ap (λ n. n + 1) owned
  where
    own : List AttrSet
    own = own_sets limit xs

    all : List AttrSet
    all = distinct (map (goes_to own) (sets_of xs))

    owned : length (filter is_own all) ≡ limit
    owned = ap length (fed_own own (own-is limit xs) [] [] (sets_of xs) refl ∙ filter-take limit (firsts xs) (once-distinct (filter is_own (sets_of xs)))) ∙ length-take-le limit (firsts xs) (omega (arith, l))

    over : has_set all overflow_set ≡ true
    over = has-distinct (map (goes_to own) (sets_of xs)) overflow_set ∙ by (has_set (map (goes_to own) (sets_of xs)) overflow_set) refl
      where
        by : (b : Bool) → has_set (map (goes_to own) (sets_of xs)) overflow_set ≡ b → b ≡ true
        by true e = refl
        by false e =
            let every : (a : AttrSet) → has_set (firsts xs) a ≡ true → has_set own a ≡ true = λ a k.
            none-over own (sets_of xs) e a (has-filtered is_own (sets_of xs) a (sym (has-distinct (filter is_own (sets_of xs)) a) ∙ k)) in
            let is : firsts xs ≡ take limit (firsts xs) = sym (filter-all (has_set own) (firsts xs) every) ∙ filter-take limit (firsts xs) (once-distinct (filter is_own (sets_of xs))) in
            let long : length (firsts xs) ≡ limit = ap length is ∙ length-take-le limit (firsts xs) (omega (arith, l)) in
            absurd (omega (arith, l, long))

-- so many sets are fed, in whatever order the recordings stand
pub fed-number : (p : Planned) (m : ℕ) (h k : List Entry) → AreMixed h k → length (distinct (sets_of (fed p m h))) ≡ length (distinct (sets_of (fed p m k)))
unfolding fed
fed-number p m h k s = elim (below-or p.limit (own_number (arrivals p m h))) [
  | inl past ↦
      past-number p.limit (arrivals p m h) past
      ∙ sym (past-number p.limit (arrivals p m k) (subst (λ (n : ℕ). p.limit < n) (own-number-mixed (arrivals p m h) (arrivals p m k) (arrivals-mixed p m h k s)) past))
  | inr within ↦ mixed-length (distinct (sets_of (fed p m h))) (distinct (sets_of (fed p m k))) (fed-sets-mixed p m h k s within)
]

-- the values that are fed are those that arrive, under whatever sets
values-of-fed : (p : Planned) (m : ℕ) (h : List Entry) (f : ℤ → ℕ) → total 0 ◌+◌ (λ x. f x.1) (fed p m h) ≡ total 0 ◌+◌ (λ x. f x.1) (arrivals p m h)
unfolding fed
values-of-fed p m h f = total-map 0 ◌+◌ count_sum (λ (x : AttrSet × ℤ). f x.1) (λ (x : AttrSet × ℤ). (goes_to (own_sets p.limit (arrivals p m h)) x.0, x.1)) (arrivals p m h)

pub fed-values : (p : Planned) (m : ℕ) (h k : List Entry) → AreMixed h k → (f : ℤ → ℕ) → total 0 ◌+◌ (λ x. f x.1) (fed p m h) ≡ total 0 ◌+◌ (λ x. f x.1) (fed p m k)
fed-values p m h k s f = values-of-fed p m h f ∙ arrivals-mixed p m h k s (λ x. f x.1) ∙ sym (values-of-fed p m k f)
