-- Which refusal comes first.
use Rattle.std.proofs.Common.{◌≡◌, ℕ, ◌<◌, ◌≤◌, ◌||◌, Bool, true, false, [], ◌∷◌, length, Option, Some, None, position, sym, ap, ◌∙◌, arith}
use Rattle.std.specs.Prelude.{nat_lt}
use Rattle.std.specs.Option.{option_or, option_map}
use Rattle.std.proofs.lemmas.Bool.Decides.{nat_tests}
use Rattle.std.specs.List.{list_any}
use Rattle.attr_kit.specs.Refusing.{first, when}
use Rattle.point_kit.specs.declared.export.Export.{Export}
use Rattle.otlp_kit.specs.Limits.{is_long}
use Rattle.otlp_kit.specs.Refusals.{has_bad_bounds, has_long_text, has_many_attributes, most_bytes, early_fault, length_fault, otlp_fault}
use Rattle.otlp_kit.specs.Request.{request}
use Rattle.otlp_kit.specs.declared.fault.OtlpFault.{OtlpFault}
use Rattle.otlp_kit.specs.declared.fault.OtlpFault.TheVariants as faults

above : (a b : ℕ) → a < b → nat_lt a b ≡ true
above a b h = grind (arith, nat_tests)

not_above : (a b : ℕ) → b ≤ a → nat_lt a b ≡ false
not_above a b h = grind (arith, nat_tests)

pub refused_early : (e : Export) (f : OtlpFault) → Some f ≡ early_fault e → otlp_fault e ≡ Some f
unfolding otlp_fault
refused_early e f at = ap (λ (o : Option OtlpFault). option_or o (first (length_fault e ∷ []))) (sym at)

no_memory_early : (o p : Option ℕ) (b : Bool) → first (option_map (λ i. faults.BadBounds i) o ∷ when b faults.TooLongText ∷ option_map (λ i. faults.TooManyAttributes i) p ∷ []) ≡ Some faults.NoMemory → ⊥
no_memory_early (Some i) p b e = cc
no_memory_early None p true e = cc
no_memory_early None (Some i) false e = cc
no_memory_early None None false e = cc

-- want of memory is no such refusal
pub never_memory : (e : Export) (f : OtlpFault) → Some f ≡ early_fault e → f ≡ faults.NoMemory → ⊥
unfolding early_fault
never_memory e f at is =
    no_memory_early (position has_bad_bounds e.points) (position has_many_attributes e.points) (is_long e.writer.service || list_any has_long_text e.points) (sym at ∙ ap (λ (x : OtlpFault). Some x) is)

pub too_long : (e : Export) → early_fault e ≡ None → most_bytes < length (request e) → otlp_fault e ≡ Some faults.TooLong
unfolding otlp_fault
too_long e none long =
    ap (λ (o : Option OtlpFault). option_or o (first (length_fault e ∷ []))) none
    ∙ ap (λ (b : Bool). option_or (when b faults.TooLong) None) (above most_bytes (length (request e)) long)

pub no_fault : (e : Export) → early_fault e ≡ None → length (request e) ≤ most_bytes → otlp_fault e ≡ None
unfolding otlp_fault
no_fault e none short =
    ap (λ (o : Option OtlpFault). option_or o (first (length_fault e ∷ []))) none
    ∙ ap (λ (b : Bool). option_or (when b faults.TooLong) None) (not_above most_bytes (length (request e)) short)
