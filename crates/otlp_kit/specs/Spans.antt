-- Bytes of a request, and where they stand in it.
use Rattle.std.specs.Prelude.{ℕ, ◌+◌, List, take, drop, refl}
use Rattle.std.specs.Coded.{Coded, code_by, coded×, coded_ℕ, coded_list}

-- the place of the first byte, counted through the whole request, and the bytes
pub record Span : Type 0 where
  pub at : ℕ
  pub bytes : List ℕ

abbrev pub span_code : Coded Span
span_code = code_by (ℕ × List ℕ) (coded× coded_ℕ (coded_list coded_ℕ)) (λ s. (s.at, s.bytes)) (λ p. record { at = p.0; bytes = p.1 }) (λ _. refl)

-- the first bytes of a span, so many
abbrev pub front : ℕ → Span → Span
front n s = record { at = s.at; bytes = take n s.bytes }

-- what is left behind them
abbrev pub behind : ℕ → Span → Span
behind n s = record { at = s.at + n; bytes = drop n s.bytes }
