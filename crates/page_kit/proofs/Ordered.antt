-- Metrics that are put in order one after the other.
use Rattle.std.proofs.Common.{◌≡◌, ℕ, ◌+◌, List, [], ◌∷◌, ◌++◌, length, map, fold, sym, ap, ◌∙◌, append_assoc}
use Rattle.std.specs.List.{flat_map}
use Rattle.std.specs.declared.cmp.Ordering.{Ordering}
use Rattle.std.proofs.lemmas.List.{append-nil}
use Rattle.page_kit.specs.Families as families
use Rattle.page_kit.specs.Groups.{keyed, put, in_order}
use Rattle.page_kit.specs.Views.{with_cells, all_measured}
use Rattle.page_kit.specs.declared.families.Measured.{Measured}
use Rattle.page_kit.proofs.Ended.{ended, went_on}
use Rattle.page_kit.proofs.Grouped.{ordered_all, one_after, read}

module _ {K : Type 0} (R : K → K → Ordering) (key : families.Measured → K) where
  abbrev entry : Measured → K × Measured
  entry m = (key (with_cells m), m)

  -- the metrics so far are grouped by their keys, and the others are left
  pub record AreGrouped (all taken left : List Measured) (len : ℕ) (groups : List (K × List Measured)) : Type 0 where
    pub whole : all ≡ taken ++ left
    pub many : len ≡ length left
    pub grouped : groups ≡ fold (put R) [] (map entry taken)

  pub none_grouped : (all left : List Measured) (len : ℕ) (groups : List (K × List Measured)) → left ≡ all → len ≡ length all → groups ≡ [] → AreGrouped all [] left len groups
  none_grouped all left len groups same long none = record { whole = sym same; many = long ∙ ap length (sym same); grouped = none }

  -- a metric more
  pub grouped_more : (all taken items left : List Measured) (x : Measured) (len next : ℕ) (old new : List (K × List Measured)) → AreGrouped all taken items len old → items ≡ x ∷ left → next + 1 ≡ len → new ≡ put R old (entry x)
      → AreGrouped all (taken ++ x ∷ []) left next new
  grouped_more all taken items left x len next old new g first more puts = record {
    whole = g.whole ∙ ap (λ (l : List Measured). taken ++ l) first ∙ sym (append_assoc taken (x ∷ []) left);
    many = went_on items left x len next g.many first more;
    grouped = one_after R entry taken x [] old new g.grouped puts;
  }

  -- at the end they are in order
  pub all_ordered : {X : Type 0} (f : X → List Measured) (all taken items list : List Measured) (len : ℕ) (es : List (K × X)) → AreGrouped all taken items len (read f es) → len ≡ 0 → list ≡ flat_map (λ (e : K × X). f e.1) es
      → all_measured list ≡ in_order R (keyed key (all_measured all))
  all_ordered f all taken items list len es g none is =
      let same : all ≡ taken = g.whole ∙ ap (λ (l : List Measured). taken ++ l) (ended items len g.many none) ∙ append-nil taken in
      ordered_all R with_cells key f list es all is (g.grouped ∙ ap (λ (ms : List Measured). fold (put R) [] (map entry ms)) (sym same))
