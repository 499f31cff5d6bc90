-- A message that is read field by field.
use Rattle.std.proofs.Common.{◌≡◌, ℕ, suc, Option, Some, Result, Ok, Err, sym, ap, ◌∙◌}
use Rattle.otlp_kit.specs.Spans.{Span}
use Rattle.otlp_kit.specs.Fields.{and_then, next_field, with_next, fields_from}
use Rattle.otlp_kit.specs.declared.field.Field.{Field}
use Rattle.otlp_kit.specs.declared.request_fault.RequestFault.{RequestFault}

module _ {M : Type 0} (step : M → Field → Result M RequestFault) where
  opened : (n k : ℕ) (m : M) (s rest : Span) (f : Field) → n ≡ suc k → next_field s ≡ Ok (Some f, rest) → fields_from step n m s ≡ and_then (step m f) (λ l. fields_from step k l rest)
  opened n k m s rest f e next =
      ap (λ (j : ℕ). fields_from step j m s) e
      ∙ ap (λ (r : Result (Option Field × Span) RequestFault). and_then r (λ (p : Option Field × Span). with_next step (fields_from step k) m p.0 p.1)) next

  -- a field changes what is said
  pub field_on : (whole : Result M RequestFault) (n k : ℕ) (m l : M) (s rest : Span) (f : Field) → n ≡ suc k → fields_from step n m s ≡ whole → next_field s ≡ Ok (Some f, rest) → step m f ≡ Ok l → fields_from step k l rest ≡ whole
  field_on whole n k m l s rest f e inv next stepped =
      sym (opened n k m s rest f e next ∙ ap (λ (r : Result M RequestFault). and_then r (λ (x : M). fields_from step k x rest)) stepped) ∙ inv

  -- a field is refused
  pub field_refused : (whole : Result M RequestFault) (n k : ℕ) (m : M) (x : RequestFault) (s rest : Span) (f : Field) → n ≡ suc k → fields_from step n m s ≡ whole → next_field s ≡ Ok (Some f, rest) → step m f ≡ Err x → whole ≡ Err x
  field_refused whole n k m x s rest f e inv next refused =
      sym inv ∙ opened n k m s rest f e next ∙ ap (λ (r : Result M RequestFault). and_then r (λ (l : M). fields_from step k l rest)) refused
