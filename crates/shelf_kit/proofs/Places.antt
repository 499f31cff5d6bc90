-- What is at a place on a shelf, as a contract sees it.
use Rattle.std.proofs.Common.{◌≡◌, ℕ, ◌+◌, ◌<◌, ◌≤◌, List, ◌++◌, length, get_or, take, drop, refl, sym, ap, subst, ◌∙◌, arith}
use Rattle.std.proofs.lemmas.List.{length-append, length-drop, take_at}
use Rattle.std.proofs.lemmas.List.Concat.{get_or-flat_map}
use Rattle.shelf_kit.specs.Shelved.{Shelved}
use Rattle.shelf_kit.specs.Shelving.{IsShelved, Locates, bounds_on, items_of, items_on, starts_from}
use Rattle.shelf_kit.specs.declared.shelf.Shelf.{Shelf}
use Rattle.shelf_kit.proofs.Begins.{start_is}
use Rattle.shelf_kit.proofs.Pieces.{back, drop_in, front, piece}

module _ {A : Type 0} where
  -- what is seen of shelves
  abbrev pub seen : List (Shelf A) → Shelved A
  seen xs = record { items = items_on xs; bounds = bounds_on xs }

  pub seen_len : (xs : List (Shelf A)) (starts : List ℕ) (len : ℕ) → IsShelved xs starts len → (v : Shelved A) → seen xs ≡ v → len ≡ length v.items
  seen_len xs starts len is v e = is.counted ∙ ap (λ (w : Shelved A). length w.items) e

  -- the value at an index is that at its place
  pub got : (xs : List (Shelf A)) (len index s at : ℕ) → Locates xs len index s at → index < len → (x : Shelf A) → x ≡ get_or xs s x → (d : A) → get_or (items_on xs) index d ≡ get_or (items_of x) at d
  got xs len index s at l h x e d =
      ap (λ k. get_or (items_on xs) k d) (sym l.place)
      ∙ get_or-flat_map items_of xs s at x d l.within (subst (λ (y : Shelf A). at < length (items_of y)) e (l.inside x e h))
      ∙ ap (λ (y : Shelf A). get_or (items_of y) at d) (sym e)

  -- what is left from an index on
  pub left : (xs : List (Shelf A)) (len index s at : ℕ) → Locates xs len index s at → (x : Shelf A) → x ≡ get_or xs s x → drop index (items_on xs) ≡ drop at (items_of x) ++ back items_of xs s
  left xs len index s at l x e = ap (λ k. drop k (items_on xs)) (sym l.place) ∙ drop_in items_of xs s at x l.within e (l.fits x e)

  -- what is left on the shelf is what is left of the list, as far as it goes
  pub run_within : (xs run behind : List A) (index : ℕ) → index < length xs → drop index xs ≡ run ++ behind → index + length run ≤ length xs
  run_within xs run behind index h e = let long = ap length e in let some = length-drop index xs in let both = length-append run behind in omega (arith, h, long, some, both)

  pub run_taken : (xs run behind : List A) (index : ℕ) → drop index xs ≡ run ++ behind → run ≡ take (length run) (drop index xs)
  run_taken xs run behind index e = sym (take_at run behind (length run) refl) ∙ ap (λ l. take (length run) l) (sym e)

  pub ends_within : (xs : List (Shelf A)) (s : ℕ) (x : Shelf A) → s < length xs → x ≡ get_or xs s x → get_or (starts_from 0 xs) s 0 + length (items_of x) ≤ length (items_on xs)
  ends_within xs s x h at =
      let start = start_is 0 xs s h in
      let one = length-append (front items_of xs s) (items_of x ++ back items_of xs s) in
      let two = length-append (items_of x) (back items_of xs s) in
      let all = ap length (piece items_of xs s x h at) in
      omega (arith, start, one, two, all)
