use Rattle.std.proofs.Common.{◌≡◌, ◌+◌, ◌<◌, ◌≤◌, ℕ, List, ◌++◌, map, take, drop, get_or, length, sym, ap, ◌∙◌, arith}
use Rattle.std.proofs.lemmas.List.{map-append}
use Rattle.std.proofs.lemmas.List.Elements.{filter-append}
use Rattle.std.proofs.Math.Seq.{take-add}
use Rattle.std.specs.Prelude.{filter}
use Rattle.gateway_kit.specs.Covering.{AreCovered}
use Rattle.gateway_kit.specs.Incarnations.{has_cells, keyed_cells}
use Rattle.gateway_kit.specs.IncarnationState.{IncarnationState}
use Rattle.gateway_kit.specs.Recent.{recent_incarnation, recent_incarnations}
use Rattle.gateway_kit.proofs.Covered.{recent_passed}
use Rattle.gateway_kit.proofs.incarnations.all_since.Goals as goal

-- what of two lists is newer
recent_both : (number : ℕ) (xs ys : List IncarnationState) → map keyed_cells (recent_incarnations number (xs ++ ys)) ≡ map keyed_cells (recent_incarnations number xs) ++ map keyed_cells (recent_incarnations number ys)
recent_both number xs ys =
    ap (λ (l : List IncarnationState). map keyed_cells (filter has_cells l)) (map-append (recent_incarnation number) xs ys)
    ∙ ap (map keyed_cells) (filter-append has_cells (map (recent_incarnation number) xs) (map (recent_incarnation number) ys))
    ∙ map-append keyed_cells (recent_incarnations number xs) (recent_incarnations number ys)

-- bounds that do not exceed a number
passed_over : (number : ℕ) (bounds : List ℕ) (xs : List IncarnationState) (i n : ℕ) → AreCovered bounds xs → i ≤ n → ((k : ℕ) → i ≤ k → k < n → get_or bounds k 0 ≤ number) → map keyed_cells (recent_incarnations number (take i xs)) ≡ map keyed_cells (recent_incarnations number (take n xs))
passed_over number bounds xs i n covered h few = ap (map keyed_cells) (sym (recent_passed number xs i n h (λ j x from to within is q. let most = covered j x within is q in let low = few j from to in omega (arith, most, low))))

pub loop-place-init : goal.loop-place-init
loop-place-init c = record {
  within = c.next_above-place.ensures.within;
  kept = ap (map keyed_cells) c.new-kept.ensures.items ∙ passed_over c.args.number c.args.incarnations.now.bounds c.args.incarnations.now.items 0 c.next_above-place.result c.requires (omega arith) c.next_above-place.ensures.passed;
}

pub loop-place-preserved : goal.loop-place-preserved
loop-place-preserved c =
    let xs = c.args.incarnations.now.items in
    let i = c.loop-place.place in
    let n = length c.run-run.result.now in
    record {
      within = c.next_above-place-in-loop-place.ensures.within;
      kept = c.in_ok-keep_run.ensures
          ∙ (λ j. c.loop-place.invariant.kept j ++ map keyed_cells (recent_incarnations c.args.number (c.run-run.ensures.value j)))
          ∙ sym (recent_both c.args.number (take i xs) (take n (drop i xs)))
          ∙ ap (λ (l : List IncarnationState). map keyed_cells (recent_incarnations c.args.number l)) (sym (take-add i n xs))
          ∙ passed_over c.args.number c.args.incarnations.now.bounds xs (i + n) c.next_above-place-in-loop-place.result c.requires c.next_above-place-in-loop-place.ensures.on c.next_above-place-in-loop-place.ensures.passed;
    }
