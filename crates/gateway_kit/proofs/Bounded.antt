-- Bounds of places, and the items that they are of.
use Rattle.std.proofs.Common.{◌≡◌, ◌<◌, ◌≤◌, ◌+◌, ℕ, zero, suc, true, false, inl, inr, cond, nat_lt, List, [], ◌∷◌, take, length, get_or, refl, sym, ap, subst, ◌∙◌, arith}
use Rattle.std.proofs.lemmas.Bool.Decides.{nat_tests}
use Rattle.std.proofs.lemmas.Bool.{cases_eq}
use Rattle.std.proofs.lemmas.List.{take_all, get_or-set_same, get_or-set_other}
use Rattle.std.proofs.Math.ListN.{length-set}
use Rattle.std.proofs.Math.Seq.{take-nil}
use Rattle.std.specs.Prelude.{slice_set}
use Rattle.gateway_kit.specs.Bounding.{AreBounds, Covers}
use Rattle.gateway_kit.specs.Numbers.{number_after}
use Rattle.gateway_kit.specs.Recent.{newer}
use Rattle.gateway_kit.specs.declared.bounds.Bounds.{Bounds}
use Rattle.gateway_kit.specs.declared.part_item.PartItem.{PartItem}
use Rattle.gateway_kit.proofs.Moved.{same_at}

-- ---- the items that are newer

not_newer : (n number : ℕ) → n ≤ number → nat_lt number n ≡ false
not_newer n number h = grind (arith, nat_tests)

-- places passed over have none
pub newer_passed : (number : ℕ) (xs : List PartItem) (i n : ℕ) → i ≤ n → ((j : ℕ) (x : PartItem) → i ≤ j → j < n → j < length xs → x ≡ get_or xs j x → x.number ≤ number) → newer number (take n xs) ≡ newer number (take i xs)
newer_passed number [] i n h few = ap (newer number) (take-nil n) ∙ ap (newer number) (sym (take-nil i))
newer_passed number (z ∷ xs) zero zero h few = refl
newer_passed number (z ∷ xs) (suc i) zero h few = absurd (omega (arith, h))
newer_passed number (z ∷ xs) zero (suc n) h few =
    ap (λ t. cond t (z ∷ newer number (take n xs)) (newer number (take n xs))) (not_newer z.number number (few 0 z (omega arith) (omega arith) (omega arith) refl))
    ∙ newer_passed number xs zero n (omega arith) (λ j x g l w is. few (suc j) x (omega arith) (omega (arith, l)) (omega (arith, w)) is)
newer_passed number (z ∷ xs) (suc i) (suc n) h few =
    ap (λ (l : List PartItem). cond (nat_lt number z.number) (z ∷ l) l) (newer_passed number xs i n (omega (arith, h)) (λ j x g l w is. few (suc j) x (omega (arith, g)) (omega (arith, l)) (omega (arith, w)) is))

pub newer_all : (number : ℕ) (xs : List PartItem) (n : ℕ) → length xs ≤ n → newer number (take n xs) ≡ newer number xs
newer_all number xs n h = ap (newer number) (take_all n xs h)

-- ---- the bounds of one place more

pub laid_more : (old new : Bounds) (items : List PartItem) (place : ℕ) (y : PartItem) → place < length items → y ≡ get_or items place y → ((i n : ℕ) → Covers old i n → Covers new i n) → Covers new place y.number → ((i : ℕ) (x : PartItem) → i < place → x ≡ get_or items i x → Covers old i x.number) → (i : ℕ) (x : PartItem) → i < place + 1 → x ≡ get_or items i x → Covers new i x.number
laid_more old new items place y within lent rise here before i x less is =
    elim (cases_eq i place) [
      | inl same ↦
          let one : x ≡ y = same_at items place x y within (is ∙ ap (λ (k : ℕ). get_or items k x) same) lent in
          subst (λ (k : ℕ). Covers new k x.number) (sym same) (subst (λ (z : PartItem). Covers new place z.number) (sym one) here)
      | inr other ↦ rise i x.number (before i x (omega (arith, less, other)) is)
    ]

-- ---- a cell put at a place

pub covers_given : (b : Bounds) (place number n : ℕ) → Covers b place number → Covers b place n → Covers b place (number_after number n)
covers_given b place number n h g = elim (nat_lt 0 number) as (λ t. Covers b place (cond t number n)) [ true ↦ h | false ↦ g ]

pub put_bounded : (old new : Bounds) (items : List PartItem) (place number : ℕ) (y now : PartItem) → place < length items → y ≡ get_or items place y → now.number ≡ number_after number y.number → ((i n : ℕ) → Covers old i n → Covers new i n) → Covers new place number → AreBounds old items → AreBounds new (slice_set items place now)
put_bounded old new items place number y now within lent told rise here bounded i x less is =
    elim (cases_eq i place) [
      | inl same ↦
          let x_is : x ≡ now = is ∙ ap (λ (k : ℕ). get_or (slice_set items place now) k x) same ∙ get_or-set_same items place now x within in
          subst (λ (k : ℕ). Covers new k x.number) (sym same)
          (subst (λ (m : ℕ). Covers new place m) (sym (ap (λ (p : PartItem). p.number) x_is ∙ told)) (covers_given new place number y.number here (rise place y.number (bounded place y within lent))))
      | inr other ↦ rise i x.number (bounded i x (subst (λ (l : ℕ). i < l) (length-set items place now) less) (is ∙ get_or-set_other items place i now x other))
    ]
