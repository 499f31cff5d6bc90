-- The first of equal instruments, and what instruments that feed one stream have in common.
use Rattle.std.proofs.Common.{◌≡◌, ℕ, zero, suc, ◌+◌, ◌<◌, ◌≤◌, ◌==◌, ◌||◌, not, Bool, true, false, cond, List, [], ◌∷◌, Option, Some, None, slice_get, refl, sym, ap, ◌∙◌, subst, arith, true≢false, inl, inr}
use Rattle.std.specs.List.{position_or_len}
use Rattle.std.specs.Option.{option_map, option_map_or}
use Rattle.std.proofs.lemmas.Bool.{ne_eqb, cases_lt}
use Rattle.std.proofs.lemmas.Option.{slice_get-map}
use borrow.Author.Tests.{eqb-true}
use Rattle.plan_kit.specs.declared.feed.Feed.{Feed}
use Rattle.plan_kit.specs.declared.instrument.Instrument.{Instrument}
use Rattle.plan_kit.specs.declared.wanted.Wanted.{Wanted}
use Rattle.plan_kit.specs.Exact.{exact_instruments}
use Rattle.plan_kit.specs.Feeds.{feeds_from, plan_from}
use Rattle.plan_kit.specs.Owners.{is_same, owner_of}
use Rattle.plan_kit.specs.Plans.{Source, has_stream, IsShared}
use Rattle.plan_kit.proofs.Owning.{same_self}

lacks_earlier : (s owner n : ℕ) (ws : List Wanted) → s < n → has_stream s (feeds_from owner n ws) ≡ false
lacks_earlier s owner n [] h = refl
lacks_earlier s owner n (w ∷ ws) h = elim (w.owner == owner) as (λ b. has_stream s (cond b (record { stream = n; keep = w.keep } ∷ feeds_from owner (n + 1) ws) (feeds_from owner (n + 1) ws)) ≡ false) [
  | true ↦ ap (λ b. b || has_stream s (feeds_from owner (n + 1) ws)) (ne_eqb n s (omega arith)) ∙ lacks_earlier s owner (n + 1) ws (omega arith)
  | false ↦ lacks_earlier s owner (n + 1) ws (omega arith)
]

-- a stream that only the first feed can have
is_first : (s : ℕ) (b : Bool) (f : Feed) (fs : List Feed) → has_stream s fs ≡ false → has_stream s (cond b (f ∷ fs) fs) ≡ true → b ≡ true
is_first s true f fs none e = refl
is_first s false f fs none e = absurd (true≢false (sym e ∙ none))

-- a stream that the first feed does not have
is_later : (s : ℕ) (b : Bool) (f : Feed) (fs : List Feed) → (f.stream == s) ≡ false → has_stream s (cond b (f ∷ fs) fs) ≡ true → has_stream s fs ≡ true
is_later s true f fs other e = sym (ap (λ b. b || has_stream s fs) other) ∙ e
is_later s false f fs other e = e

one_owner : (s a b n : ℕ) (ws : List Wanted) → has_stream s (feeds_from a n ws) ≡ true → has_stream s (feeds_from b n ws) ≡ true → a ≡ b
one_owner s a b n [] x y = absurd (true≢false (sym x))
one_owner s a b n (w ∷ ws) x y =
    let f : Feed = record { stream = n; keep = w.keep } in
    let A = feeds_from a (n + 1) ws in
    let B = feeds_from b (n + 1) ws in
    elim (n == s) as (λ t. (n == s) ≡ t → a ≡ b) [
      | true ↦ λ t.
          let same : n ≡ s = eqb-true n s t in
          let mine : w.owner ≡ a = eqb-true w.owner a (is_first s (w.owner == a) f A (lacks_earlier s a (n + 1) ws (omega arith)) x) in
          let yours : w.owner ≡ b = eqb-true w.owner b (is_first s (w.owner == b) f B (lacks_earlier s b (n + 1) ws (omega arith)) y) in
          sym mine ∙ yours
      | false ↦ λ t. one_owner s a b (n + 1) ws (is_later s (w.owner == a) f A t x) (is_later s (w.owner == b) f B t y)
    ] refl

pub first_passes : {A : Type 0} (t : A → Bool) (xs : List A) (i : ℕ) (x : A) → slice_get xs i ≡ Some x → t x ≡ true → (z : A) × (slice_get xs (position_or_len t xs) ≡ Some z) × (t z ≡ true)
first_passes t [] i x e p = cc
first_passes t (y ∷ ys) zero x e p =
    let is : y ≡ x = cc in
    let passes : t y ≡ true = ap t is ∙ p in
    (y, ap (λ b. slice_get (y ∷ ys) (cond (not b) (1 + position_or_len t ys) 0)) passes, passes)
first_passes t (y ∷ ys) (suc i) x e p =
    let rest = first_passes t ys i x e p in
    elim (t y) as (λ b. t y ≡ b → (z : _) × (slice_get (y ∷ ys) (cond (not b) (1 + position_or_len t ys) 0) ≡ Some z) × (t z ≡ true)) [
      | true ↦ λ q. (y, refl, q)
      | false ↦ λ q. let step : suc (position_or_len t ys) ≡ 1 + position_or_len t ys = omega arith in (rest.0, subst (λ (n : ℕ). slice_get (y ∷ ys) n ≡ Some rest.0) step rest.1, rest.2)
    ] refl

-- instruments of one owner are equal
equal_owners : (is : List Instrument) (i j : ℕ) (x y : Instrument) → slice_get is i ≡ Some x → slice_get is j ≡ Some y → owner_of is x ≡ owner_of is y → x ≡ y
equal_owners is i j x y at_i at_j own =
    let mine = first_passes (is_same x) is i x at_i (same_self x) in
    let yours = first_passes (is_same y) is j y at_j (same_self y) in
    let z : Instrument = mine.0 in
    let u : Instrument = yours.0 in
    let both : Some z ≡ Some u = sym mine.1 ∙ ap (slice_get is) own ∙ yours.1 in
    let one : z ≡ u = cc in
    exact_instruments x z mine.2 ∙ one ∙ sym (exact_instruments y u yours.2)

abbrev pub source_of : List Instrument → List Wanted → Instrument → Source
source_of is ws i = record { kind = i.kind; feeds = feeds_from (owner_of is i) 0 ws }

alike : (is : List Instrument) (ws : List Wanted) (i j s : ℕ) (o q : Option Instrument) → slice_get is i ≡ o → slice_get is j ≡ q → has_stream s (option_map_or (λ t. t.feeds) (option_map (source_of is ws) o) []) ≡ true → has_stream s (option_map_or (λ t. t.feeds) (option_map (source_of is ws) q) []) ≡ true → option_map (source_of is ws) o ≡ option_map (source_of is ws) q
alike is ws i j s None q at_i at_j x y = absurd (true≢false (sym x))
alike is ws i j s (Some a) None at_i at_j x y = absurd (true≢false (sym y))
alike is ws i j s (Some a) (Some b) at_i at_j x y = ap (λ z. Some (source_of is ws z)) (equal_owners is i j a b at_i at_j (one_owner s (owner_of is a) (owner_of is b) 0 ws x y))

pub plan_shared : (is : List Instrument) (ws : List Wanted) (limit : ℕ) → IsShared (plan_from is ws limit)
plan_shared is ws limit i j s x y =
    let at_i = slice_get-map (source_of is ws) is i in
    let at_j = slice_get-map (source_of is ws) is j in
    let has : Option Source → Type 0 = λ o. has_stream s (option_map_or (λ t. t.feeds) o []) ≡ true in
    at_i ∙ alike is ws i j s (slice_get is i) (slice_get is j) refl refl (subst has at_i x) (subst has at_j y) ∙ sym at_j

first_at_most : {A : Type 0} (t : A → Bool) (xs : List A) (i : ℕ) (x : A) → slice_get xs i ≡ Some x → t x ≡ true → position_or_len t xs ≤ i
first_at_most t [] i x e p = cc
first_at_most t (y ∷ ys) zero x e p =
    let is : y ≡ x = cc in
    let none : cond (not (t y)) (1 + position_or_len t ys) 0 ≡ 0 = ap (λ b. cond (not b) (1 + position_or_len t ys) 0) (ap t is ∙ p) in
    omega arith
first_at_most t (y ∷ ys) (suc i) x e p =
    let rest = first_at_most t ys i x e p in
    elim (t y) as (λ b. cond (not b) (1 + position_or_len t ys) 0 ≤ suc i) [ true ↦ omega arith | false ↦ omega arith ]

-- what holds of all instruments before one that is not the first of its kind holds of it
pub of_owner : (P : Instrument → Type 0) (is : List Instrument) (i : ℕ) (x : Instrument) → slice_get is i ≡ Some x → (owner_of is x ≡ i → ⊥) → ((k : ℕ) (y : Instrument) → k < i → slice_get is k ≡ Some y → P y) → P x
of_owner P is i x at other before =
    let first = first_passes (is_same x) is i x at (same_self x) in
    let bound : owner_of is x ≤ i = first_at_most (is_same x) is i x at (same_self x) in
    let below : owner_of is x < i = omega arith in
    subst P (sym (exact_instruments x first.0 first.2)) (before (owner_of is x) first.0 below first.1)

-- what holds of all before a place, and there, holds of all before the next
pub before_next : (P : Instrument → Type 0) (is : List Instrument) (i : ℕ) (x : Instrument) → slice_get is i ≡ Some x → P x → ((k : ℕ) (y : Instrument) → k < i → slice_get is k ≡ Some y → P y) → (k : ℕ) (y : Instrument) → k < i + 1 → slice_get is k ≡ Some y → P y
before_next P is i x at here before k y h e = elim (cases_lt k i) [
  | inl below ↦ before k y below e
  | inr above ↦
      let same : i ≡ k = omega arith in
      let both : Some x ≡ Some y = sym at ∙ ap (slice_get is) same ∙ e in
      let one : x ≡ y = cc in
      subst P one here
]
