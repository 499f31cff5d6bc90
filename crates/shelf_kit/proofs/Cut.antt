-- A shelf that becomes two.
use Rattle.std.proofs.Common.{◌≡◌, ℕ, suc, ◌+◌, ◌<◌, ◌≤◌, List, ◌++◌, length, get_or, take, drop, refl, sym, ap, subst, ◌∙◌, arith, add-one}
use Rattle.std.specs.Prelude.{slice_set}
use Rattle.std.specs.List.{All, insert}
use Rattle.std.proofs.lemmas.List.{length-append, length-drop, length-take-le, take-append-drop}
use Rattle.std.proofs.lemmas.List.Elements.{All-drop, All-same, All-set, All-take}
use Rattle.shelf_kit.specs.Shelving.{AreTops, Changes, Cuts, IsFilled, IsTop, bounds_of, bounds_on, items_of, items_on, starts_from}
use Rattle.shelf_kit.specs.declared.shelf.Shelf.{Shelf}
use Rattle.shelf_kit.proofs.Begins.{starts_split}
use Rattle.shelf_kit.proofs.Bounds.{filled_at}
use Rattle.shelf_kit.proofs.Most.{all_insert}
use Rattle.shelf_kit.proofs.Pieces.{split_on}
use Rattle.shelf_kit.proofs.Tops.{top_at, tops_insert, tops_kept}

module _ {A : Type 0} where
  module _ {xs ys : List (Shelf A)} {s at : ℕ} (h : s < length xs) (c : Cuts xs ys s at) where
    is_split : ys ≡ insert (slice_set xs s c.one) (suc s) c.two
    is_split = c.is ∙ ap (λ k. insert (slice_set xs s c.one) k c.two) (add-one s)

    items_parts : items_of c.one ++ items_of c.two ≡ items_of c.old
    items_parts = (λ i. c.items_one i ++ c.items_two i) ∙ take-append-drop at (items_of c.old)

    lengths : length (items_of c.one) + length (items_of c.two) ≡ length (items_of c.old)
    lengths = sym (length-append (items_of c.one) (items_of c.two)) ∙ ap length items_parts

    pub cut_items : items_on ys ≡ items_on xs
    cut_items = ap items_on is_split ∙ split_on items_of xs s c.old c.one c.two h c.was items_parts

    pub cut_bounds : bounds_on ys ≡ bounds_on xs
    cut_bounds = ap bounds_on is_split ∙ split_on bounds_of xs s c.old c.one c.two h c.was ((λ i. c.bounds_one i ++ c.bounds_two i) ∙ take-append-drop at (bounds_of c.old))

    first : length (items_of c.one) ≡ at
    first = let fits = c.fits in ap length c.items_one ∙ length-take-le at (items_of c.old) (omega (arith, fits))

    pub cut_starts : starts_from 0 ys ≡ insert (starts_from 0 xs) (s + 1) (get_or (starts_from 0 xs) s 0 + at)
    cut_starts =
        ap (λ (l : List (Shelf A)). starts_from 0 l) is_split ∙ starts_split 0 xs s c.old c.one c.two h c.was lengths
        ∙ (λ i. insert (starts_from 0 xs) (sym (add-one s) i) (get_or (starts_from 0 xs) s 0 + first i))

    pub cut_filled : 0 < at → All IsFilled xs → All IsFilled ys
    cut_filled some all =
        let own = (filled_at xs s c.old all h c.was).matched in
        let fits = c.fits in
        let one = first in
        let two = lengths in
        let many_one = ap length c.bounds_one ∙ length-take-le at (bounds_of c.old) (omega (arith, own, fits)) in
        let many_two = ap length c.bounds_two ∙ length-drop at (bounds_of c.old) in
        subst (λ (l : List (Shelf A)). All IsFilled l) (sym is_split)
        (all_insert IsFilled (slice_set xs s c.one) (suc s)
        (All-set IsFilled xs s c.one (record { some = omega (arith, one, some); matched = omega (arith, many_one, one) }) all)
        c.two (record { some = omega (arith, one, two, fits); matched = omega (arith, many_two, one, two, own) }))

    pub cut_tops : (tops : List ℕ) → AreTops xs tops → AreTops ys (insert tops (s + 1) (get_or tops s 0))
    cut_tops tops up =
        let top = get_or tops s 0 in
        let P = λ (n : ℕ). n ≤ top in
        let bounds = bounds_of c.old in
        let one : AreTops (slice_set xs s c.one) tops =
        tops_kept h (let changes : Changes xs (slice_set xs s c.one) s c.old c.one = record { at = c.was; is = refl } in changes) tops up (λ was. All-same P (bounds_of c.one) (take at bounds) c.bounds_one (All-take P at bounds was)) in
        let two : IsTop c.two top = All-same P (bounds_of c.two) (drop at bounds) c.bounds_two (All-drop P at bounds (top_at xs tops s c.old up h c.was)) in
        subst (λ (l : List (Shelf A)). AreTops l (insert tops (s + 1) top)) (sym is_split)
        (subst (λ k. AreTops (insert (slice_set xs s c.one) (suc s) c.two) (insert tops k top)) (sym (add-one s))
        (tops_insert (slice_set xs s c.one) tops (suc s) c.two top one two))
