-- What a failing exporter does with an export.
use Rattle.std.specs.Prelude.{◌≡◌, ◌+◌, ◌==◌, ℕ, Bool, false, [], ◌∷◌, ◌++◌, length}
use Rattle.std.specs.List.{list_any}
use Rattle.point_kit.specs.declared.export.Export.{Export}
use Rattle.test_kit.specs.declared.failing.FailingExporter.{FailingExporter}

-- the number of its next call, from 1: it kept or refused each export before
abbrev pub next_call : FailingExporter → ℕ
next_call f = length f.copies.items + f.failures + 1

-- whether it was told to refuse its next call
abbrev pub is_chosen : FailingExporter → Bool
is_chosen f = list_any (λ call. call == next_call f) f.at.now

-- it was not told to refuse, and keeps a copy behind the others
pub record Takes (old : FailingExporter) (export : Export) (new : FailingExporter) : Type 0 where
  pub not_chosen : is_chosen old ≡ false
  pub copies : new.copies.items ≡ old.copies.items ++ export ∷ []
  pub same_calls : new.at ≡ old.at

-- it keeps what it had
pub record Refuses (old : FailingExporter) (new : FailingExporter) : Type 0 where
  pub copies : new.copies.items ≡ old.copies.items
  pub same_calls : new.at ≡ old.at
