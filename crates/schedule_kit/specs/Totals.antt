-- Sums over lists, in any payload that can be added up.
use Rattle.std.specs.Prelude.{◌≡◌, Bool, cond, List, [], ◌∷◌}

-- adding up, with a least part: sums are numbers, histograms are counts side by side
pub record IsSum {V : Type 0} (zero : V) (plus : V → V → V) : Type 0 where
  pub assoc : (a b c : V) → plus (plus a b) c ≡ plus a (plus b c)
  pub comm : (a b : V) → plus a b ≡ plus b a
  pub zero_left : (a : V) → plus zero a ≡ a

module _ {V : Type 0} (zero : V) (plus : V → V → V) where
  -- f of each element, added up
  abbrev pub total : {A : Type 0} → (A → V) → List A → V
  total f [] = zero
  total f (x ∷ xs) = plus (f x) (total f xs)

  -- f of each element that passes, added up
  abbrev pub total_where : {A : Type 0} → (A → Bool) → (A → V) → List A → V
  total_where p f xs = total (λ x. cond (p x) (f x) zero) xs
