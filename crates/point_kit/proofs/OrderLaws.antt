-- The order of keys is total and tells all keys apart, and instance ids are ordered as numbers.
use Rattle.std.proofs.Common.{◌≡◌, ℕ, ◌+◌, ◌*◌, ◌<◌, ◌≤◌, All, List, [], ◌∷◌, length, ◌∙◌, ap, sym, refl, subst, inl, inr, arith}
use Rattle.std.proofs.Math.Nat.{mul-le-mul_right}
use Rattle.std.proofs.lemmas.Bool.{cases_order}
use Rattle.std.proofs.lemmas.List.Elements.{All-tail}
use Rattle.std.specs.Cmp.{IsTotalOrder, nat_cmp_is}
use Rattle.std.specs.Cmp.Lexicographic.{slice_cmp}
use Rattle.std.specs.FinMap.{IsAntisymmetric}
use Rattle.std.specs.Ordering.{is_eq, nat_cmp, ordering_then}
use Rattle.std.specs.declared.cmp.Ordering.TheVariants.{Less, Equal, Greater}
use Rattle.point_kit.specs.Exact.{exact_keys}
use Rattle.point_kit.specs.Orders.{key_cmp, instance_number, ByNumber}
use Rattle.point_kit.specs.contracts.key.KeyOrd.TheImpl.Laws as key_laws

pub key_total : IsTotalOrder key_cmp
key_total = key_laws.total-law

pub key_exact : IsAntisymmetric key_cmp
key_exact x y e = exact_keys x y (key_laws.matches_eq-law x y ∙ ap is_eq e)

-- what one more byte before these is worth
abbrev weight : List ℕ → ℕ
weight [] = 1
weight (x ∷ xs) = 256 * weight xs

-- bytes as one number, the first being the highest
abbrev number_of : List ℕ → ℕ
number_of [] = 0
number_of (x ∷ xs) = x * weight xs + number_of xs

-- so much is a byte before a number below its worth
byte_below : (x w v : ℕ) → x < 256 → v < w → x * w + v < 256 * w
byte_below x w v h k = let m : x * w ≤ 255 * w = mul-le-mul_right w (omega arith) in omega (arith, m)

-- a lesser byte gives a lesser number
lesser : (x y w v u : ℕ) → x < y → v < w → x * w + v < y * w + u
lesser x y w v u h k = let m : (x + 1) * w ≤ y * w = mul-le-mul_right w (omega arith) in omega (arith, m)

shifted : (k v u : ℕ) → nat_cmp v u ≡ nat_cmp (k + v) (k + u)
shifted k v u = elim (cases_order v u) [
  | inl same ↦ sym (nat_cmp_is v u Equal same) ∙ nat_cmp_is (k + v) (k + u) Equal (ap (λ n. k + n) same)
  | inr differ ↦ elim differ [
    | inl less ↦ sym (nat_cmp_is v u Less less) ∙ nat_cmp_is (k + v) (k + u) Less (omega arith)
    | inr more ↦ sym (nat_cmp_is v u Greater more) ∙ nat_cmp_is (k + v) (k + u) Greater (omega arith)
  ]
]

number_below : (xs : List ℕ) → All (λ b. b < 256) xs → number_of xs < weight xs
number_below [] h = omega arith
number_below (x ∷ xs) h = byte_below x (weight xs) (number_of xs) (h 0 0 (omega arith)) (number_below xs (All-tail (λ b. b < 256) x xs h))

same_weight : (xs ys : List ℕ) → length xs ≡ length ys → weight xs ≡ weight ys
same_weight [] [] e = refl
same_weight [] (y ∷ ys) e = absurd (omega arith)
same_weight (x ∷ xs) [] e = absurd (omega arith)
same_weight (x ∷ xs) (y ∷ ys) e = ap (λ w. 256 * w) (same_weight xs ys (omega arith))

numbers_ordered : (xs ys : List ℕ) → length xs ≡ length ys → All (λ b. b < 256) xs → All (λ b. b < 256) ys → slice_cmp nat_cmp xs ys ≡ nat_cmp (number_of xs) (number_of ys)
numbers_ordered [] [] e g h = refl
numbers_ordered [] (y ∷ ys) e g h = absurd (omega arith)
numbers_ordered (x ∷ xs) [] e g h = absurd (omega arith)
numbers_ordered (x ∷ xs) (y ∷ ys) e g h =
    let g_rest = All-tail (λ (b : ℕ). b < 256) x xs g in
    let h_rest = All-tail (λ (b : ℕ). b < 256) y ys h in
    let w = same_weight xs ys (omega arith) in
    let rest = numbers_ordered xs ys (omega arith) g_rest h_rest in
    let low = number_below xs g_rest in
    let other = subst (λ (n : ℕ). number_of ys < n) (sym w) (number_below ys h_rest) in
    subst (λ (n : ℕ). ordering_then (nat_cmp x y) (slice_cmp nat_cmp xs ys) ≡ nat_cmp (x * weight xs + number_of xs) (y * n + number_of ys)) w (step x y (weight xs) (number_of xs) (number_of ys) _ low other rest)
  where
    step : (x y w v u : ℕ) (o : _) → v < w → u < w → o ≡ nat_cmp v u → ordering_then (nat_cmp x y) o ≡ nat_cmp (x * w + v) (y * w + u)
    step x y w v u o low other rest = elim (cases_order x y) [
      | inl same ↦ ap (λ r. ordering_then r o) (sym (nat_cmp_is x y Equal same)) ∙ rest ∙ shifted (x * w) v u ∙ ap (λ n. nat_cmp (x * w + v) (n * w + u)) same
      | inr differ ↦ elim differ [
        | inl less ↦ ap (λ r. ordering_then r o) (sym (nat_cmp_is x y Less less)) ∙ nat_cmp_is (x * w + v) (y * w + u) Less (lesser x y w v u less low)
        | inr more ↦ ap (λ r. ordering_then r o) (sym (nat_cmp_is x y Greater more)) ∙ nat_cmp_is (x * w + v) (y * w + u) Greater (lesser y x w u v more other)
      ]
    ]

sixteen : (a : List ℕ) → length a ≡ 16 → instance_number a ≡ number_of a
sixteen (b0 ∷ b1 ∷ b2 ∷ b3 ∷ b4 ∷ b5 ∷ b6 ∷ b7 ∷ b8 ∷ b9 ∷ b10 ∷ b11 ∷ b12 ∷ b13 ∷ b14 ∷ b15 ∷ []) e = omega arith
sixteen a e = absurd (omega arith)

pub by_number : ByNumber
by_number a b g h = numbers_ordered a b (g.long ∙ sym h.long) g.bytes h.bytes ∙ (λ i. nat_cmp (sym (sixteen a g.long) i) (sym (sixteen b h.long) i))
