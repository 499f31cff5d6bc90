-- A shelf in the place of another that has as many values.
use Rattle.std.proofs.Common.{◌≡◌, ℕ, ◌<◌, ◌≤◌, List, ◌++◌, length, get_or, sym, ap, subst, ◌∙◌, arith}
use Rattle.std.specs.Prelude.{slice_set}
use Rattle.std.proofs.lemmas.List.{length-append}
use Rattle.std.proofs.lemmas.List.Elements.{All-same, All-set}
use Rattle.shelf_kit.specs.Shelving.{AreTops, IsFilled, IsShelved, Keeps, bounds_of, bounds_on, items_of, items_on}
use Rattle.shelf_kit.specs.declared.shelf.Shelf.{Shelf}
use Rattle.shelf_kit.proofs.Begins.{starts_same}
use Rattle.shelf_kit.proofs.Bounds.{filled_at}
use Rattle.shelf_kit.proofs.Pieces.{back, front, piece, piece_same, piece_set}
use Rattle.shelf_kit.proofs.Tops.{tops_kept}

module _ {A : Type 0} where
  -- a shelf of one length in the place of another
  pub shelved_same : (xs : List (Shelf A)) (starts : List ℕ) (len s : ℕ) (old new : Shelf A) → IsShelved xs starts len → s < length xs → old ≡ get_or xs s old → length (items_of new) ≡ length (items_of old) → length (bounds_of new) ≡ length (items_of new) → IsShelved (slice_set xs s new) starts len
  shelved_same xs starts len s old new is h at same matched = record {
    begins = is.begins ∙ sym (starts_same 0 xs s old new h at same);
    filled = All-set IsFilled xs s new (record { some = let own = (filled_at xs s old is.filled h at).some in omega (arith, own, same); matched = matched }) is.filled;
    counted = is.counted ∙ (
        let one = length-append (front items_of xs s) (items_of old ++ back items_of xs s) in
        let two = length-append (items_of old) (back items_of xs s) in
        let three = length-append (front items_of xs s) (items_of new ++ back items_of xs s) in
        let four = length-append (items_of new) (back items_of xs s) in
        let olds = ap length (piece items_of xs s old h at) in
        let news = ap length (piece_set items_of xs s new h) in
        omega (arith, one, two, three, four, olds, news, same)
        );
  }

  -- nothing changed on a shelf
  module _ {xs ys : List (Shelf A)} {s : ℕ} (h : s < length xs) (k : Keeps xs ys s) where
    pub kept_shelved : {starts : List ℕ} {len : ℕ} → IsShelved xs starts len → IsShelved ys starts len
    kept_shelved {starts} {len} is =
        subst (λ (l : List (Shelf A)). IsShelved l starts len) (sym k.changes.is)
        (shelved_same xs starts len s k.old k.new is h k.changes.at (ap length k.items)
        (ap length k.bounds ∙ (filled_at xs s k.old is.filled h k.changes.at).matched ∙ sym (ap length k.items)))

    pub kept_items : items_on ys ≡ items_on xs
    kept_items = ap items_on k.changes.is ∙ piece_same items_of xs s k.old k.new h k.changes.at k.items

    pub kept_bounds : bounds_on ys ≡ bounds_on xs
    kept_bounds = ap bounds_on k.changes.is ∙ piece_same bounds_of xs s k.old k.new h k.changes.at k.bounds

    pub kept_tops : (tops : List ℕ) → AreTops xs tops → AreTops ys tops
    kept_tops tops up =
        tops_kept h k.changes tops up (All-same (λ n. n ≤ get_or tops s 0) (bounds_of k.new) (bounds_of k.old) k.bounds)
