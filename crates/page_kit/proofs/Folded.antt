-- Walks over points, as walks over their cells.
use Rattle.std.proofs.Common.{◌≡◌, ℕ, ◌≤◌, ◌||◌, Bool, List, [], ◌∷◌, length, map, fold, take, refl, sym, ap, ◌∙◌}
use Rattle.std.specs.List.{list_any}
use Rattle.std.proofs.lemmas.List.{take_all}
use Rattle.std.proofs.lemmas.List.Folds.{fold-map}
use Rattle.gateway_kit.specs.Walks.{keyed_cell_of_ref}
use Rattle.gateway_kit.specs.declared.points.PointRef.{PointRef}
use Rattle.page_kit.specs.Totals.{KeyedCell}
use Rattle.page_kit.specs.Views.{cells}

-- a walk that has come to the end
pub folded_all : {B : Type 0} (f : B → KeyedCell → B) (a : B) (ps : List PointRef) (n : ℕ) (r : B) → length ps ≤ n → r ≡ fold (λ b p. f b (keyed_cell_of_ref p)) a (take n ps) → r ≡ fold f a (cells ps)
folded_all f a ps n r past is = is ∙ ap (fold (λ b p. f b (keyed_cell_of_ref p)) a) (take_all n ps past) ∙ sym (fold-map f keyed_cell_of_ref a ps)

pub any_read : {A B : Type 0} (view : A → B) (p : B → Bool) (xs : List A) → list_any p (map view xs) ≡ list_any (λ x. p (view x)) xs
any_read view p [] = refl
any_read view p (x ∷ xs) = ap (λ b. p (view x) || b) (any_read view p xs)
