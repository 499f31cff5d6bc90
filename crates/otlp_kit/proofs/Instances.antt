-- Texts that are UUIDs with hyphens.
use Rattle.std.proofs.Common.{◌≡◌, ℕ, List, Option, Some, None, length, refl, sym, ap, ◌∙◌, cond}
use Rattle.std.specs.Prelude.{◌==◌}
use Rattle.uuid.specs.Text.{parsed, parsed_simple, parsed_hyphenated, parsed_braced, parsed_urn}

-- of 36 bytes no other form is meant
pub with_hyphens : (s : List ℕ) → length s ≡ 36 → parsed s ≡ parsed_hyphenated s
with_hyphens s e = ap (λ (n : ℕ). cond (n == 32) (parsed_simple s) (cond (n == 36) (parsed_hyphenated s) (cond (n == 38) (parsed_braced s) (cond (n == 45) (parsed_urn s) None)))) e

nothing : (o : Option (List ℕ)) → ((u : List ℕ) → o ≡ Some u → ⊥) → o ≡ None
nothing None h = refl
nothing (Some u) h = absurd (h u refl)

pub no_instance : (s : List ℕ) → length s ≡ 36 → ((u : List ℕ) → parsed s ≡ Some u → ⊥) → parsed_hyphenated s ≡ None
no_instance s e h = sym (with_hyphens s e) ∙ nothing (parsed s) h
