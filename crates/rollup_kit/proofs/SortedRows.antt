-- Rows of which no two have one set, put in order.
use Rattle.std.proofs.Common.{◌≡◌, Bool, true, List, [], ◌∷◌, map, refl, sym, ap, ◌∙◌}
use Rattle.std.specs.FinMap.Entries.{find, is_sorted}
use Rattle.std.specs.List.{IsDistinct}
use Rattle.std.specs.List.Sorted.{IsPermutation, IsSortedBy, IsStableBy}
use Rattle.std.specs.Map.{keys_of}
use Rattle.std.specs.Ordering.{eq_by_cmp}
use Rattle.gateway_kit.proofs.Sorting as sorting
use Rattle.rollup_kit.specs.Asks.{Attributes, attributes_cmp}
use Rattle.rollup_kit.specs.Groups.{Grouped}
use Rattle.rollup_kit.specs.Walks.{Rows, group_at}
use Rattle.rollup_kit.proofs.Answered.{find-lookup, so}
use Rattle.rollup_kit.proofs.SetOrders.{sets_total, sets_exact}

abbrev row : Attributes × Grouped → Attributes × Grouped
row e = e

-- the order of rows, as a test
abbrev pub lower : Attributes × Grouped → Attributes × Grouped → Bool
lower = sorting.lower sets_total row

all_same : {A : Type 0} (xs : List A) → map (λ x. x) xs ≡ xs
all_same [] = refl
all_same (x ∷ xs) = ap (λ l. x ∷ l) (all_same xs)

pub rows_sorted : (xs ys : Rows) → IsPermutation xs ys → IsDistinct (eq_by_cmp attributes_cmp) (keys_of xs) → IsSortedBy lower ys → is_sorted attributes_cmp ys ≡ true
rows_sorted xs ys moved distinct up = ap (is_sorted attributes_cmp) (sym (all_same ys)) ∙ so _ (sorting.sorted_strictly sets_total row xs ys moved distinct up)

pub rows_found : (xs ys : Rows) → IsStableBy lower xs ys → (q : Attributes) → group_at ys q ≡ group_at xs q
rows_found xs ys stable q =
    sym (find-lookup attributes_cmp q ys) ∙ ap (find attributes_cmp q) (sym (all_same ys))
    ∙ sorting.same_found sets_total row sets_exact q xs ys stable
    ∙ ap (find attributes_cmp q) (all_same xs) ∙ find-lookup attributes_cmp q xs
