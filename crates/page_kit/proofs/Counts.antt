-- How many cells metrics have.
use Rattle.std.proofs.Common.{◌≡◌, ℕ, List, [], ◌∷◌, map, length, refl, ap, ◌∙◌}
use Rattle.std.proofs.lemmas.List.{length-map}
use Rattle.gateway_kit.specs.Walks.{keyed_cell_of_ref}
use Rattle.page_kit.specs.Families as families
use Rattle.page_kit.specs.Labels.{metric_labels}
use Rattle.page_kit.specs.Views.{all_measured}
use Rattle.page_kit.specs.declared.families.Measured.{Measured}
use Rattle.page_kit.specs.declared.labels.Label.{Label}

abbrev count : families.Measured → List Label × ℕ
count m = (metric_labels m.0, length m.1)

abbrev own_count : Measured → List Label × ℕ
own_count m = (metric_labels m.metric, length m.points.items)

-- metrics, each with how many cells it has
abbrev pub counts : List families.Measured → List (List Label × ℕ)
counts ms = map count ms

-- the same of the code's own
abbrev pub own_counts : List Measured → List (List Label × ℕ)
own_counts ms = map own_count ms

pub counts_read : (ms : List Measured) → counts (all_measured ms) ≡ own_counts ms
counts_read [] = refl
counts_read (m ∷ ms) =
    ap (λ (n : ℕ). (metric_labels m.metric, n) ∷ counts (all_measured ms)) (length-map m.points.items keyed_cell_of_ref)
    ∙ ap (λ (l : List (List Label × ℕ)). (metric_labels m.metric, length m.points.items) ∷ l) (counts_read ms)
