-- A list that is made of pieces, one of which is changed.
use Rattle.std.proofs.Common.{◌≡◌, ℕ, zero, suc, ◌+◌, ◌<◌, ◌≤◌, List, [], ◌∷◌, ◌++◌, length, get_or, take, drop, refl, sym, ap, ◌∙◌, arith, append_assoc}
use Rattle.std.proofs.Math.Nat.{add-sub_cancel_left}
use Rattle.std.specs.Prelude.{slice_set}
use Rattle.std.specs.List.{flat_map, insert, remove}
use Rattle.std.proofs.lemmas.List.{drop-append-le, get_or_default, set-append_left, set-append_right}
use Rattle.std.proofs.lemmas.List.Edits.{insert-append_left, insert-append_right, remove-append_left, remove-append_right}

none_more : (i : ℕ) → 0 + i ≡ i
none_more i = omega arith

one_more : (n i : ℕ) → suc n + i ≡ suc (n + i)
one_more n i = omega arith

module _ {A : Type 0} where
  set_behind : (xs ys : List A) (i : ℕ) (y : A) → slice_set (xs ++ ys) (length xs + i) y ≡ xs ++ slice_set ys i y
  set_behind xs ys i y = set-append_right xs ys (length xs) (length xs + i) y refl (omega arith) ∙ ap (λ k. xs ++ slice_set ys k y) (add-sub_cancel_left (length xs) i)

  insert_behind : (xs ys : List A) (i : ℕ) (y : A) → insert (xs ++ ys) (length xs + i) y ≡ xs ++ insert ys i y
  insert_behind xs ys i y = insert-append_right xs ys (length xs) (length xs + i) y refl (omega arith) ∙ ap (λ k. xs ++ insert ys k y) (add-sub_cancel_left (length xs) i)

  remove_behind : (xs ys : List A) (i : ℕ) → remove (xs ++ ys) (length xs + i) ≡ xs ++ remove ys i
  remove_behind xs ys i = remove-append_right xs ys (length xs) (length xs + i) refl (omega arith) ∙ ap (λ k. xs ++ remove ys k) (add-sub_cancel_left (length xs) i)

  drop_behind : (xs ys : List A) (i : ℕ) → drop (length xs + i) (xs ++ ys) ≡ drop i ys
  drop_behind [] ys i = ap (λ k. drop k ys) (none_more i)
  drop_behind (x ∷ xs) ys i = ap (λ k. drop k (x ∷ (xs ++ ys))) (one_more (length xs) i) ∙ drop_behind xs ys i

-- two that were read at one place
pub same_at : {X : Type 0} (xs : List X) (s : ℕ) (x y : X) → s < length xs → x ≡ get_or xs s x → y ≡ get_or xs s y → x ≡ y
same_at xs s x y h one two = one ∙ get_or_default xs s x y h ∙ sym two

module _ {X A : Type 0} (f : X → List A) where
  -- what stands before a piece, and behind it
  abbrev pub front : List X → ℕ → List A
  front xs s = flat_map f (take s xs)

  abbrev pub back : List X → ℕ → List A
  back xs s = flat_map f (drop (suc s) xs)

  pub piece : (xs : List X) (s : ℕ) (x : X) → s < length xs → x ≡ get_or xs s x → flat_map f xs ≡ front xs s ++ (f x ++ back xs s)
  piece [] s x h at = absurd (omega arith)
  piece (y ∷ xs) zero x h at = ap (λ z. f z ++ flat_map f xs) (sym at)
  piece (y ∷ xs) (suc s) x h at = ap (λ l. f y ++ l) (piece xs s x (omega arith) at) ∙ sym (append_assoc (f y) (front xs s) (f x ++ back xs s))

  pub piece_set : (xs : List X) (s : ℕ) (x : X) → s < length xs → flat_map f (slice_set xs s x) ≡ front xs s ++ (f x ++ back xs s)
  piece_set [] s x h = absurd (omega arith)
  piece_set (y ∷ xs) zero x h = refl
  piece_set (y ∷ xs) (suc s) x h = ap (λ l. f y ++ l) (piece_set xs s x (omega arith)) ∙ sym (append_assoc (f y) (front xs s) (f x ++ back xs s))

  -- an equal one in the place of another
  pub piece_same : (xs : List X) (s : ℕ) (old new : X) → s < length xs → old ≡ get_or xs s old → f new ≡ f old → flat_map f (slice_set xs s new) ≡ flat_map f xs
  piece_same xs s old new h at e = piece_set xs s new h ∙ ap (λ l. front xs s ++ (l ++ back xs s)) e ∙ sym (piece xs s old h at)

  -- one becomes two
  piece_split : (xs : List X) (s : ℕ) (x y : X) → s < length xs → flat_map f (insert (slice_set xs s x) (suc s) y) ≡ front xs s ++ (f x ++ (f y ++ back xs s))
  piece_split [] s x y h = absurd (omega arith)
  piece_split (z ∷ xs) zero x y h = refl
  piece_split (z ∷ xs) (suc s) x y h = ap (λ l. f z ++ l) (piece_split xs s x y (omega arith)) ∙ sym (append_assoc (f z) (front xs s) (f x ++ (f y ++ back xs s)))

  -- and the two together are what the one was
  pub split_on : (xs : List X) (s : ℕ) (old one two : X) → s < length xs → old ≡ get_or xs s old → f one ++ f two ≡ f old → flat_map f (insert (slice_set xs s one) (suc s) two) ≡ flat_map f xs
  split_on xs s old one two h at e =
      piece_split xs s one two h
      ∙ ap (λ l. front xs s ++ l) (sym (append_assoc (f one) (f two) (back xs s)))
      ∙ ap (λ l. front xs s ++ (l ++ back xs s)) e
      ∙ sym (piece xs s old h at)

  -- one that is set and taken out
  piece_gone : (xs : List X) (s : ℕ) (x : X) → s < length xs → flat_map f (remove (slice_set xs s x) s) ≡ front xs s ++ back xs s
  piece_gone [] s x h = absurd (omega arith)
  piece_gone (y ∷ xs) zero x h = refl
  piece_gone (y ∷ xs) (suc s) x h = ap (λ l. f y ++ l) (piece_gone xs s x (omega arith)) ∙ sym (append_assoc (f y) (front xs s) (back xs s))

  pub piece_none : (xs : List X) (s : ℕ) (x : X) → s < length xs → f x ≡ [] → flat_map f (remove (slice_set xs s x) s) ≡ flat_map f (slice_set xs s x)
  piece_none xs s x h e = piece_gone xs s x h ∙ sym (piece_set xs s x h ∙ ap (λ l. front xs s ++ (l ++ back xs s)) e)

  module _ (xs : List X) (s i : ℕ) (x : X) (h : s < length xs) (at : x ≡ get_or xs s x) where
    -- an edit in the piece is one in the list
    pub set_in : (new : X) (v : A) → i < length (f x) → f new ≡ slice_set (f x) i v → flat_map f (slice_set xs s new) ≡ slice_set (flat_map f xs) (length (front xs s) + i) v
    set_in new v within e =
        piece_set xs s new h ∙ ap (λ l. front xs s ++ (l ++ back xs s)) e
        ∙ ap (λ l. front xs s ++ l) (sym (set-append_left (f x) (back xs s) i v within))
        ∙ sym (set_behind (front xs s) (f x ++ back xs s) i v)
        ∙ ap (λ l. slice_set l (length (front xs s) + i) v) (sym (piece xs s x h at))

    pub insert_in : (v : A) → i ≤ length (f x) → insert (flat_map f xs) (length (front xs s) + i) v ≡ front xs s ++ (insert (f x) i v ++ back xs s)
    insert_in v within =
        ap (λ l. insert l (length (front xs s) + i) v) (piece xs s x h at)
        ∙ insert_behind (front xs s) (f x ++ back xs s) i v
        ∙ ap (λ l. front xs s ++ l) (insert-append_left (f x) (back xs s) i v within)

    pub remove_in : i < length (f x) → remove (flat_map f xs) (length (front xs s) + i) ≡ front xs s ++ (remove (f x) i ++ back xs s)
    remove_in within =
        ap (λ l. remove l (length (front xs s) + i)) (piece xs s x h at)
        ∙ remove_behind (front xs s) (f x ++ back xs s) i
        ∙ ap (λ l. front xs s ++ l) (remove-append_left (f x) (back xs s) i within)

    -- what is left from a place of the piece on
    pub drop_in : i ≤ length (f x) → drop (length (front xs s) + i) (flat_map f xs) ≡ drop i (f x) ++ back xs s
    drop_in within =
        ap (λ l. drop (length (front xs s) + i) l) (piece xs s x h at)
        ∙ drop_behind (front xs s) (f x ++ back xs s) i
        ∙ drop-append-le i (f x) (back xs s) within
