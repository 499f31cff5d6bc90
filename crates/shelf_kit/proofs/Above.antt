-- The next index whose bound is high, sought from shelf to shelf.
use Rattle.std.proofs.Common.{◌≡◌, ℕ, suc, ◌+◌, ◌<◌, ◌≤◌, inl, inr, List, length, get_or, refl, ap, ◌∙◌, arith}
use Rattle.std.proofs.lemmas.Bool.{cases_lt}
use Rattle.std.proofs.lemmas.List.{get_or_default}
use Rattle.std.proofs.lemmas.Slice.Zip.{AllZip-long}
use Rattle.shelf_kit.specs.Shelving.{AreTops, IsNextAbove, IsShelved, IsTop, Locates, begin_of, bounds_of, bounds_on}
use Rattle.shelf_kit.specs.declared.shelf.Shelf.{Shelf}
use Rattle.shelf_kit.proofs.Begins.{begin_all, begin_next, begins_rise, start_at, start_read}
use Rattle.shelf_kit.proofs.Bounds.{bound_at, bounds_here, bounds_passed, filled_at, length_bounds}
use Rattle.shelf_kit.proofs.Tops.{top_at, top_more}

-- all bounds from an index up to a place of a shelf are low
pub record ArePassed {A : Type 0} (xs : List (Shelf A)) (index number s from : ℕ) : Type 0 where
  pub within : s ≤ length xs
  pub fits : s < length xs → (x : Shelf A) → x ≡ get_or xs s x → from ≤ length (bounds_of x)
  pub end : length xs ≤ s → from ≡ 0
  pub on : index ≤ begin_of xs s + from
  pub passed : (k : ℕ) → index ≤ k → k < begin_of xs s + from → get_or (bounds_on xs) k 0 ≤ number

module _ {A : Type 0} {xs : List (Shelf A)} {starts : List ℕ} {len : ℕ} (is : IsShelved xs starts len) {index number : ℕ} where
  pub passed_none : {s at : ℕ} → Locates xs len index s at → ArePassed xs index number s at
  passed_none {s} {at} l =
      let inside = l.within in
      let place = l.place in
      record {
        within = omega (arith, inside);
        fits = λ h x e. let m = (filled_at xs s x is.filled inside e).matched in let f = l.fits x e in omega (arith, m, f);
        end = λ h. absurd (omega (arith, inside, h));
        on = omega (arith, place);
        passed = λ k from until. absurd (omega (arith, place, from, until));
      }

  module _ {s from place : ℕ} (p : ArePassed xs index number s from) (h : s < length xs) {x : Shelf A} (at : x ≡ get_or xs s x)
      (on : from ≤ place) (most : place ≤ length (bounds_of x)) (low : (k : ℕ) → from ≤ k → k < place → get_or (bounds_of x) k 0 ≤ number) where
    passed_here : (k : ℕ) → index ≤ k → k < begin_of xs s + place → get_or (bounds_on xs) k 0 ≤ number
    passed_here k f u = elim (cases_lt k (begin_of xs s + from)) [
      | inl before ↦ p.passed k f before
      | inr behind ↦ bounds_here xs s from place number x is.filled h at most low k behind u
    ]

    end_here : begin_of xs (suc s) ≡ begin_of xs s + length (bounds_of x)
    end_here = let next = begin_next xs s x h at in let m = (filled_at xs s x is.filled h at).matched in omega (arith, next, m)

    -- on this shelf there is one
    pub found_here : {start : ℕ} → start ≡ get_or starts s start → place < length (bounds_of x) → number < get_or (bounds_of x) place 0 → IsNextAbove (bounds_on xs) index number (start + place)
    found_here {start} read less high =
        let e = start_read xs starts s start is.begins h read ∙ start_at xs s h in
        let first = p.on in
        let end = end_here in
        let rise = begins_rise xs (suc s) (length xs) h in
        let all = begin_all xs (length xs) refl in
        let many = length_bounds xs is.filled in
        let here = bound_at xs s place x is.filled h at less in
        let same : get_or (bounds_on xs) (start + place) 0 ≡ get_or (bounds_on xs) (begin_of xs s + place) 0 = ap (λ k. get_or (bounds_on xs) (k + place) 0) e in
        record {
          on = omega (arith, first, on, e);
          within = omega (arith, end, rise, all, many, e, less);
          passed = λ k f u. passed_here k f (omega (arith, e, u));
          above = λ _. omega (arith, here, same, high);
        }

    -- there is none, and those of some shelves behind have low tops
    pub none_here : (tops : List ℕ) → AreTops xs tops → length (bounds_of x) ≤ place → {t : ℕ} → s + 1 ≤ t → t ≤ length tops → ((k : ℕ) → s + 1 ≤ k → k < t → get_or tops k 0 ≤ number) → ArePassed xs index number t 0
    none_here tops up all {t} behind until low_tops =
        let long = AllZip-long IsTop xs tops up in
        let first = p.on in
        let end = end_here in
        let rise = begins_rise xs (suc s) t (omega (arith, behind)) in
        record {
          within = omega (arith, long, until);
          fits = λ _ y e. omega arith;
          end = λ _. refl;
          on = omega (arith, first, on, most, end, rise);
          passed = λ k f u. elim (cases_lt k (begin_of xs (suc s))) [
            | inl before ↦ passed_here k f (omega (arith, before, end, all))
            | inr there ↦ bounds_passed xs (suc s) t number is.filled (omega (arith, long, until)) passed_tops k there (omega (arith, u))
          ];
        }
      where
        own : (ys : List (Shelf A)) (j : ℕ) (d : Shelf A) → j < length ys → get_or ys j d ≡ get_or ys j (get_or ys j d)
        own ys j d less = get_or_default ys j d (get_or ys j d) less

        passed_tops : (j : ℕ) (d : Shelf A) → suc s ≤ j → j < t → IsTop (get_or xs j d) number
        passed_tops j d g l =
            let long = AllZip-long IsTop xs tops up in
            let less : j < length xs = omega (arith, l, until, long) in
            top_more (get_or xs j d) (get_or tops j 0) number (top_at xs tops j (get_or xs j d) up less (own xs j d less)) (low_tops j (omega (arith, g)) l)

  -- no shelf is left
  pub all_passed : {s from : ℕ} → ArePassed xs index number s from → length xs ≤ s → IsNextAbove (bounds_on xs) index number len
  all_passed {s} {from} p more =
      let first = p.on in
      let none = p.end more in
      let within = p.within in
      let all = begin_all xs s (omega (arith, more, within)) in
      let count = is.counted in
      let many = length_bounds xs is.filled in
      record {
        on = omega (arith, first, none, all, count);
        within = omega (arith, count, many);
        passed = λ k f u. p.passed k f (omega (arith, u, none, all, count));
        above = λ h. absurd (omega (arith, h, count, many));
      }
