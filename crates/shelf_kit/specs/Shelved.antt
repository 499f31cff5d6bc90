-- What a contract sees of a list on shelves.
use Rattle.std.specs.Prelude.{ℕ, List, refl}
use Rattle.std.specs.Coded.{Coded, code_by, coded×, coded_list, coded_ℕ}

-- its values, and a bound for each of them
pub record Shelved (A : Type 0) : Type 0 where
  pub items : List A
  pub bounds : List ℕ

module _ {A : Type 0} where
  abbrev pub shelved_code : Coded A → Coded (Shelved A)
  shelved_code c =
      code_by (List A × List ℕ) (coded× (coded_list c) (coded_list coded_ℕ))
      (λ s. (s.items, s.bounds)) (λ p. record { items = p.0; bounds = p.1 }) (λ _. refl)
