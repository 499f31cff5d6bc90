-- Texts that grow by two parts, and rows as they are read.
use Rattle.std.proofs.Common.{◌≡◌, ℕ, List, [], ◌∷◌, ◌++◌, Vec, Global, length, refl, sym, ap, ◌∙◌, append_assoc}
use Rattle.std.specs.Fmt.{decimal}
use Rattle.std.specs.List.{flat_map}
use Rattle.std.proofs.lemmas.List.{length-map}
use Rattle.gateway_kit.specs.Walks.{keyed_cell_of_ref}
use Rattle.gateway_kit.specs.declared.points.PointRef.{PointRef}
use Rattle.page_kit.specs.Lines.{sample}
use Rattle.page_kit.specs.Totals.{KeyedCell}
use Rattle.page_kit.specs.Views.{cells, cell_lists}
use Rattle.page_kit.specs.declared.labels.Label.{Label}

pub two_parts : (t h r q a b : List ℕ) → a ≡ t ++ h → b ≡ a ++ q → q ≡ r → b ≡ t ++ (h ++ r)
two_parts t h r q a b first second same = second ∙ ap (λ (l : List ℕ). l ++ q) first ∙ append_assoc t h q ∙ ap (λ (l : List ℕ). t ++ (h ++ l)) same

-- how long the lists of rows are
abbrev pub own_length : List ℕ → List Label × Vec PointRef Global → List ℕ
own_length name g = sample name g.0 (decimal (length g.1.items))

abbrev pub cell_length : List ℕ → List Label × List KeyedCell → List ℕ
cell_length name g = sample name g.0 (decimal (length g.1))

pub lengths_read : (name : List ℕ) (rs : List (List Label × Vec PointRef Global)) → flat_map (own_length name) rs ≡ flat_map (cell_length name) (cell_lists rs)
lengths_read name [] = refl
lengths_read name (r ∷ rs) =
    ap (λ (n : ℕ). sample name r.0 (decimal n) ++ flat_map (own_length name) rs) (sym (length-map r.1.items keyed_cell_of_ref))
    ∙ ap (λ (l : List ℕ). sample name r.0 (decimal (length (cells r.1.items))) ++ l) (lengths_read name rs)
