-- A list that is gone through, one element after another.
use Rattle.std.proofs.Common.{◌≡◌, ℕ, ◌+◌, ◌<◌, ◌≤◌, List, length, drop, get_or, Result, Ok, Err, refl, sym, ap, ◌∙◌}
use Rattle.std.proofs.lemmas.List.{drop_more, drop_all}
use Rattle.otlp_kit.specs.Fields.{and_then}
use Rattle.otlp_kit.specs.Walks.{walk_from}
use Rattle.otlp_kit.specs.declared.request_fault.RequestFault.{RequestFault}

module _ {S A : Type 0} (step : ℕ → S → A → Result S RequestFault) where
  opened : (i : ℕ) (s : S) (xs : List A) (d : A) → i < length xs → walk_from step i s (drop i xs) ≡ and_then (step i s (get_or xs i d)) (λ t. walk_from step (i + 1) t (drop (i + 1) xs))
  opened i s xs d h = rw (drop_more xs i d h) refl

  -- an element changes what is held
  pub walk_on : (whole : Result S RequestFault) (i : ℕ) (s t : S) (xs : List A) (d : A) → i < length xs → walk_from step i s (drop i xs) ≡ whole → step i s (get_or xs i d) ≡ Ok t → walk_from step (i + 1) t (drop (i + 1) xs) ≡ whole
  walk_on whole i s t xs d h inv is =
      sym (opened i s xs d h ∙ ap (λ (r : Result S RequestFault). and_then r (λ u. walk_from step (i + 1) u (drop (i + 1) xs))) is) ∙ inv

  -- an element is refused
  pub walk_refused : (whole : Result S RequestFault) (i : ℕ) (s : S) (f : RequestFault) (xs : List A) (d : A) → i < length xs → walk_from step i s (drop i xs) ≡ whole → step i s (get_or xs i d) ≡ Err f → whole ≡ Err f
  walk_refused whole i s f xs d h inv is =
      sym inv ∙ opened i s xs d h ∙ ap (λ (r : Result S RequestFault). and_then r (λ u. walk_from step (i + 1) u (drop (i + 1) xs))) is

  -- none is left
  pub walk_done : (whole : Result S RequestFault) (i : ℕ) (s : S) (xs : List A) → length xs ≤ i → walk_from step i s (drop i xs) ≡ whole → whole ≡ Ok s
  walk_done whole i s xs h inv = sym inv ∙ ap (walk_from step i s) (drop_all i xs h)
