-- The incarnations of a service stand between where they begin and where they end.
use Rattle.std.proofs.Common.{◌≡◌, ◌<◌, ◌≤◌, ℕ, zero, suc, true, false, cond, nat_eq, List, [], ◌∷◌, ◌++◌, map, filter, take, drop, length, get_or, Err, true≢false, refl, sym, ap, ◌∙◌, arith, add-one}
use Rattle.std.proofs.lemmas.Cmp.{tied_itself}
use Rattle.std.proofs.lemmas.List.Sorted.{searchable_from_sorted}
use Rattle.std.proofs.lemmas.Slice.Eq.{bytes_eq-Decides}
use Rattle.std.proofs.Math.Seq.{take-nil, drop-nil}
use Rattle.std.specs.Prelude.{T}
use Rattle.std.specs.Cmp.Lexicographic.{pointwise}
use Rattle.std.specs.FinMap.{entries}
use Rattle.std.specs.FinMap.Entries.{by_order, is_sorted}
use Rattle.std.specs.List.Sorted.{IsBinarySearchResult, IsNonDecreasingBy}
use Rattle.std.specs.Ordering.{is_eq, is_lt, ordering_index, ordering_then}
use Rattle.std.specs.declared.cmp.Ordering.{Ordering}
use Rattle.std.specs.declared.cmp.Ordering.TheVariants.{Less, Equal, Greater}
use Rattle.attr_kit.specs.OrderLaws.{text_total}
use Rattle.attr_kit.specs.Orders.{text_cmp}
use Rattle.gateway_kit.specs.Keys.{IncarnationKey, incarnation_cmp}
use Rattle.gateway_kit.specs.KeyOrders.{incarnation_total, incarnation_exact}
use Rattle.gateway_kit.specs.IncarnationState.{IncarnationState}
use Rattle.gateway_kit.specs.Incarnations.{all_points, keyed_cells}
use Rattle.gateway_kit.specs.Serving.{begins, ends}
use Rattle.gateway_kit.specs.Walks.{is_of}
use Rattle.gateway_kit.proofs.Joining.{under}
use Rattle.gateway_kit.proofs.Places.{rises}
use Rattle.gateway_kit.proofs.Served.{filter_incarnation}

-- ---- the order of services

first_falls : (r s : Ordering) → is_lt (ordering_then r s) ≡ false → is_lt r ≡ false
first_falls Less s h = h
first_falls Equal s h = refl
first_falls Greater s h = refl

services_fall : (a b : IncarnationKey) → is_lt (incarnation_cmp a b) ≡ false → is_lt (text_cmp a.0.service b.0.service) ≡ false
services_fall a b h = first_falls _ _ (first_falls _ _ h)

begins_up : (r s : Ordering) → ordering_index r ≤ ordering_index s → ordering_index (by_order r Less Greater Greater) ≤ ordering_index (by_order s Less Greater Greater)
begins_up Less s h = omega arith
begins_up Equal Less h = absurd (omega (arith, h))
begins_up Equal Equal h = omega arith
begins_up Equal Greater h = omega arith
begins_up Greater Less h = absurd (omega (arith, h))
begins_up Greater Equal h = absurd (omega (arith, h))
begins_up Greater Greater h = omega arith

ends_up : (r s : Ordering) → ordering_index r ≤ ordering_index s → ordering_index (by_order r Less Less Greater) ≤ ordering_index (by_order s Less Less Greater)
ends_up Less s h = omega arith
ends_up Equal s h = omega arith
ends_up Greater Less h = absurd (omega (arith, h))
ends_up Greater Equal h = absurd (omega (arith, h))
ends_up Greater Greater h = omega arith

module _ (service : List ℕ) where
  -- texts that differ in the order differ
  apart : (a : List ℕ) → (text_cmp a service ≡ Equal → ⊥) → pointwise nat_eq a service ≡ false
  apart a other = elim (pointwise nat_eq a service) as (λ b. pointwise nat_eq a service ≡ b → b ≡ false) [
    | true ↦ λ same. absurd (other (ap (λ (s : List ℕ). text_cmp s service) ((bytes_eq-Decides a service).0 same) ∙ tied_itself text_total service))
    | false ↦ λ _. refl
  ] refl

  -- ---- what the searches say

  services_rise : (ps : List IncarnationState) → T (is_sorted incarnation_cmp (map keyed_cells ps)) → IsNonDecreasingBy (λ p. ordering_index (text_cmp p.writer.service service)) ps
  services_rise ps sorted = searchable_from_sorted text_total (λ (p : IncarnationState). p.writer.service) ps service (λ k d g l. rw (add-one k) (services_fall (keyed_cells (get_or ps (suc k) d)).0 (keyed_cells (get_or ps k d)).0 (rises incarnation_total incarnation_exact keyed_cells ps k d sorted l)))

  -- where they begin: none before is of it
  pub begun : (ps : List IncarnationState) → T (is_sorted incarnation_cmp (map keyed_cells ps)) → (i : ℕ) → IsBinarySearchResult (begins service) ps (Err i) → (k : ℕ) (d : IncarnationState) → k < i → is_of service (get_or ps k d).writer ≡ false
  begun ps sorted i is k d h = apart _ (below _ ((is (λ a b e f g. begins_up _ _ (services_rise ps sorted a b e f g))).0 k d (omega arith) h))
    where
      below : (r : Ordering) → by_order r Less Greater Greater ≡ Less → r ≡ Equal → ⊥
      below Less g e = true≢false (sym (ap is_eq e))
      below Equal g e = true≢false (sym (ap is_lt g))
      below Greater g e = true≢false (sym (ap is_eq e))

  -- and where they end: none from there on is
  pub ended : (ps : List IncarnationState) → T (is_sorted incarnation_cmp (map keyed_cells ps)) → (i : ℕ) → IsBinarySearchResult (ends service) ps (Err i) → (k : ℕ) (d : IncarnationState) → i ≤ k → k < length ps → is_of service (get_or ps k d).writer ≡ false
  ended ps sorted i is k d g h = apart _ (above _ ((is (λ a b e f m. ends_up _ _ (services_rise ps sorted a b e f m))).1 k d g h))
    where
      above : (r : Ordering) → by_order r Less Less Greater ≡ Greater → r ≡ Equal → ⊥
      above Less m e = true≢false (sym (ap is_eq e))
      above Equal m e = true≢false (ap is_lt m)
      above Greater m e = true≢false (sym (ap is_eq e))

  -- ---- their points

  -- the points of an incarnation that is not of it
  other : (p : IncarnationState) (ps : List IncarnationState) → is_of service p.writer ≡ false → filter (λ e. is_of service e.0.writer) (all_points (p ∷ ps)) ≡ filter (λ e. is_of service e.0.writer) (all_points ps)
  other p ps not =
      filter_incarnation (is_of service) (p.writer, p.start) (entries p.cells) (all_points ps)
      ∙ ap (λ b. cond b (under (p.writer, p.start) (entries p.cells)) [] ++ filter (λ e. is_of service e.0.writer) (all_points ps)) not

  pub cut_front : (ps : List IncarnationState) (i : ℕ) → ((k : ℕ) (d : IncarnationState) → k < i → k < length ps → is_of service (get_or ps k d).writer ≡ false) → filter (λ e. is_of service e.0.writer) (all_points (drop i ps)) ≡ filter (λ e. is_of service e.0.writer) (all_points ps)
  cut_front [] i none = ap (λ l. filter (λ e. is_of service e.0.writer) (all_points l)) (drop-nil i)
  cut_front (p ∷ ps) zero none = refl
  cut_front (p ∷ ps) (suc i) none = cut_front ps i (λ k d h w. none (suc k) d (omega (arith, h)) (omega (arith, w))) ∙ sym (other p ps (none 0 p (omega arith) (omega arith)))

  pub cut_back : (ps : List IncarnationState) (i : ℕ) → ((k : ℕ) (d : IncarnationState) → i ≤ k → k < length ps → is_of service (get_or ps k d).writer ≡ false) → filter (λ e. is_of service e.0.writer) (all_points (take i ps)) ≡ filter (λ e. is_of service e.0.writer) (all_points ps)
  cut_back [] i none = ap (λ l. filter (λ e. is_of service e.0.writer) (all_points l)) (take-nil i)
  cut_back (p ∷ ps) zero none =
      cut_back ps 0 (λ k d h w. none (suc k) d (omega arith) (omega (arith, w)))
      ∙ sym (other p ps (none 0 p (omega arith) (omega arith)))
  cut_back (p ∷ ps) (suc i) none =
      filter_incarnation (is_of service) (p.writer, p.start) (entries p.cells) (all_points (take i ps))
      ∙ ap (λ l. cond (is_of service p.writer) (under (p.writer, p.start) (entries p.cells)) [] ++ l) (cut_back ps i (λ k d h w. none (suc k) d (omega (arith, h)) (omega (arith, w))))
      ∙ sym (filter_incarnation (is_of service) (p.writer, p.start) (entries p.cells) (all_points ps))
