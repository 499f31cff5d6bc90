-- A value that is put onto its shelf.
use Rattle.std.proofs.Common.{◌≡◌, ℕ, ◌+◌, ◌≤◌, List, ◌++◌, length, get_or, take, drop, map, max, Result, Ok, Err, sym, ap, subst, ◌∙◌, arith, add-one}
use Rattle.std.specs.Prelude.{slice_set}
use Rattle.std.specs.List.{All, insert}
use Rattle.std.specs.Result.{OnErr}
use Rattle.std.proofs.lemmas.List.Edits.{length-insert}
use Rattle.std.proofs.lemmas.List.Elements.{All-same, All-set}
use Rattle.shelf_kit.specs.Shelving.{AreTops, IsFilled, IsShelved, Locates, Puts, bounds_of, bounds_on, items_of, items_on, starts_from}
use Rattle.shelf_kit.specs.declared.shelf.Shelf.{Shelf}
use Rattle.shelf_kit.proofs.Begins.{starts_put}
use Rattle.shelf_kit.proofs.Bounds.{begin_bounds, filled_at}
use Rattle.shelf_kit.proofs.Most.{all_insert}
use Rattle.shelf_kit.proofs.Pieces.{back, front, insert_in, piece_set}
use Rattle.shelf_kit.proofs.Tops.{tops_raised}

module _ {A : Type 0} {xs ys : List (Shelf A)} {len index s at : ℕ} {value : A} {bound : ℕ} (l : Locates xs len index s at) (p : Puts xs ys s at value bound) where
  fits : at ≤ length (items_of p.old)
  fits = l.fits p.old p.changes.at

  pub put_items : items_on ys ≡ insert (items_on xs) index value
  put_items =
      ap items_on p.changes.is ∙ piece_set items_of xs s p.new l.within
      ∙ ap (λ k. front items_of xs s ++ (k ++ back items_of xs s)) p.items
      ∙ sym (insert_in items_of xs s at p.old l.within p.changes.at value fits) ∙ ap (λ k. insert (items_on xs) k value) l.place

  long : length (items_of p.new) ≡ length (items_of p.old) + 1
  long = ap length p.items ∙ length-insert (items_of p.old) at value fits

  pub put_tops : (tops : List ℕ) → AreTops xs tops → AreTops ys (slice_set tops s (max (get_or tops s 0) bound))
  put_tops tops up =
      let most = max (get_or tops s 0) bound in
      let P = λ (n : ℕ). n ≤ most in
      tops_raised l.within p.changes tops up most (omega arith)
      (λ was. All-same P (bounds_of p.new) (insert (bounds_of p.old) at bound) p.bounds (all_insert P (bounds_of p.old) at was bound (omega arith)))

  module _ {starts : List ℕ} (is : IsShelved xs starts len) where
    own : IsFilled p.old
    own = filled_at xs s p.old is.filled l.within p.changes.at

    fits_bounds : at ≤ length (bounds_of p.old)
    fits_bounds = let m = own.matched in let f = fits in omega (arith, m, f)

    pub put_bounds : bounds_on ys ≡ insert (bounds_on xs) index bound
    put_bounds =
        ap bounds_on p.changes.is ∙ piece_set bounds_of xs s p.new l.within
        ∙ ap (λ k. front bounds_of xs s ++ (k ++ back bounds_of xs s)) p.bounds
        ∙ sym (insert_in bounds_of xs s at p.old l.within p.changes.at bound fits_bounds)
        ∙ ap (λ k. insert (bounds_on xs) (k + at) bound) (begin_bounds xs s is.filled) ∙ ap (λ k. insert (bounds_on xs) k bound) l.place

    filled : IsFilled p.new
    filled =
        let many = long in
        let more = ap length p.bounds ∙ length-insert (bounds_of p.old) at bound fits_bounds in
        let m = own.matched in
        record { some = omega (arith, many); matched = omega (arith, many, more, m) }

    pub put_shelved : {news : List ℕ} → news ≡ take (s + 1) starts ++ map (λ n. n + 1) (drop (s + 1) starts) → index ≤ len → IsShelved ys news (len + 1)
    put_shelved e up_to =
        let all = is.counted in
        record {
          begins = e ∙ (λ i. take (add-one s i) (is.begins i) ++ map (λ n. n + 1) (drop (add-one s i) (is.begins i)))
              ∙ sym (starts_put 0 xs s p.old p.new l.within p.changes.at long) ∙ ap (λ (zs : List (Shelf A)). starts_from 0 zs) (sym p.changes.is);
          filled = subst (λ (zs : List (Shelf A)). All IsFilled zs) (sym p.changes.is) (All-set IsFilled xs s p.new filled is.filled);
          counted = ap (λ n. n + 1) all ∙ sym (ap length put_items ∙ length-insert (items_on xs) index value (omega (arith, all, up_to)));
        }

pub held_at_err : {T E P : Type 0} (r : Result T E) → P → OnErr r P
held_at_err (Ok x) p = tt
held_at_err (Err e) p = p
