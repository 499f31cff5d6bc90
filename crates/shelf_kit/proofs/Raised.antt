-- A bound that was raised.
use Rattle.std.proofs.Common.{◌≡◌, ℕ, ◌+◌, ◌<◌, ◌≤◌, List, length, get_or, max, sym, ap, subst, ◌∙◌, arith}
use Rattle.std.specs.Prelude.{slice_set}
use Rattle.std.proofs.lemmas.List.{get_or-set_same, length-set}
use Rattle.std.proofs.lemmas.List.Elements.{All-same, All-set}
use Rattle.shelf_kit.specs.Shelving.{AreAtMost, AreTops, IsFilled, IsShelved, Locates, Raises, bounds_of, bounds_on, items_of, items_on}
use Rattle.shelf_kit.specs.declared.shelf.Shelf.{Shelf}
use Rattle.shelf_kit.proofs.Bounds.{begin_bounds, bound_at, filled_at, length_bounds}
use Rattle.shelf_kit.proofs.Most.{at_most_raised}
use Rattle.shelf_kit.proofs.Pieces.{piece_same, set_in}
use Rattle.shelf_kit.proofs.Same.{shelved_same}
use Rattle.shelf_kit.proofs.Tops.{tops_raised}

module _ {A : Type 0} {xs ys : List (Shelf A)} {starts : List ℕ} {len index s at bound : ℕ} (is : IsShelved xs starts len) (h : index < len) (l : Locates xs len index s at) (r : Raises xs ys s at bound) where
  inside : at < length (items_of r.old)
  inside = l.inside r.old r.changes.at h

  own : IsFilled r.old
  own = filled_at xs s r.old is.filled l.within r.changes.at

  inside_bounds : at < length (bounds_of r.old)
  inside_bounds = let m = own.matched in let i = inside in omega (arith, m, i)

  long : length (bounds_of r.new) ≡ length (items_of r.new)
  long =
      let set = ap length r.bounds in
      let was = own.matched in
      let same = ap length r.items in
      let kept = length-set (bounds_of r.old) at (max (get_or (bounds_of r.old) at 0) bound) in
      omega (arith, set, was, same, kept)

  pub raised_shelved : IsShelved ys starts len
  raised_shelved = subst (λ (zs : List (Shelf A)). IsShelved zs starts len) (sym r.changes.is) (shelved_same xs starts len s r.old r.new is l.within r.changes.at (ap length r.items) long)

  pub raised_items : items_on ys ≡ items_on xs
  raised_items = ap items_on r.changes.is ∙ piece_same items_of xs s r.old r.new l.within r.changes.at r.items

  here : get_or (bounds_on xs) index 0 ≡ get_or (bounds_of r.old) at 0
  here = ap (λ k. get_or (bounds_on xs) k 0) (sym l.place) ∙ bound_at xs s at r.old is.filled l.within r.changes.at inside_bounds

  raised_bounds : bounds_on ys ≡ slice_set (bounds_on xs) index (max (get_or (bounds_on xs) index 0) bound)
  raised_bounds =
      ap bounds_on r.changes.is
      ∙ set_in bounds_of xs s at r.old l.within r.changes.at r.new (max (get_or (bounds_of r.old) at 0) bound) inside_bounds r.bounds
      ∙ (λ i. slice_set (bounds_on xs) ((ap (λ k. k + at) (begin_bounds xs s is.filled) ∙ l.place) i) (max (sym here i) bound))

  pub raised_kept : AreAtMost (bounds_on xs) (bounds_on ys)
  raised_kept = subst (λ ns. AreAtMost (bounds_on xs) ns) (sym raised_bounds) (at_most_raised (bounds_on xs) index bound)

  pub raised_here : bound ≤ get_or (bounds_on ys) index 0
  raised_here =
      let inside_all : index < length (bounds_on xs) = let many = length_bounds xs is.filled in let all = is.counted in omega (arith, many, all, h) in
      let new : get_or (bounds_on ys) index 0 ≡ max (get_or (bounds_on xs) index 0) bound = ap (λ ns. get_or ns index 0) raised_bounds ∙ get_or-set_same (bounds_on xs) index (max (get_or (bounds_on xs) index 0) bound) 0 inside_all in
      omega (arith, new)

  pub raised_tops : (tops : List ℕ) → AreTops xs tops → AreTops ys (slice_set tops s (max (get_or tops s 0) bound))
  raised_tops tops up =
      let most = max (get_or tops s 0) bound in
      let here = max (get_or (bounds_of r.old) at 0) bound in
      let P = λ (n : ℕ). n ≤ most in
      tops_raised l.within r.changes tops up most (omega arith)
      (λ was. All-same P (bounds_of r.new) (slice_set (bounds_of r.old) at here) r.bounds
      (All-set P (bounds_of r.old) at here (let low = was at 0 inside_bounds in omega (arith, low)) was))
