-- What a reader has left.
use Rattle.std.specs.Prelude.{ℕ, List, refl}
use Rattle.std.specs.Coded.{Coded, code_by, coded×, coded_ℕ, coded_list}

-- how many bytes there are in all, and those that are left
pub record Left : Type 0 where
  pub end : ℕ
  pub rest : List ℕ

abbrev pub left_code : Coded Left
left_code = code_by (ℕ × List ℕ) (coded× coded_ℕ (coded_list coded_ℕ)) (λ l. (l.end, l.rest)) (λ p. record { end = p.0; rest = p.1 }) (λ _. refl)
