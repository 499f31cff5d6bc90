-- How shelves make a list.
use Rattle.std.specs.Prelude.{◌≡◌, ◌+◌, ◌-◌, ◌<◌, ◌≤◌, ℕ, Bool, Result, Ok, Err, List, [], ◌∷◌, length, take, drop, max, slice_index, slice_index_or, slice_set}
use Rattle.std.specs.List.{All, AllZip, flat_map, insert, remove}
use Rattle.std.specs.Ordering.{is_gt}
use Rattle.std.specs.declared.cmp.Ordering.{Ordering}
use Rattle.shelf_kit.specs.declared.shelf.Shelf.{Shelf}

module _ {A : Type 0} where
  abbrev pub items_of : Shelf A → List A
  items_of shelf = shelf.items.items

  abbrev pub bounds_of : Shelf A → List ℕ
  bounds_of shelf = shelf.bounds.items

  -- the values of all shelves, one shelf after the other
  abbrev pub items_on : List (Shelf A) → List A
  items_on shelves = flat_map items_of shelves

  abbrev pub bounds_on : List (Shelf A) → List ℕ
  bounds_on shelves = flat_map bounds_of shelves

  -- how many values stand before a shelf
  abbrev pub begin_of : List (Shelf A) → ℕ → ℕ
  begin_of shelves s = length (items_on (take s shelves))

  -- where each shelf begins, if the first begins at n
  abbrev pub starts_from : ℕ → List (Shelf A) → List ℕ
  starts_from n [] = []
  starts_from n (x ∷ xs) = n ∷ starts_from (n + length (items_of x)) xs

  -- a shelf has a value, and a bound for each of them
  pub record IsFilled (shelf : Shelf A) : Type 0 where
    pub some : 0 < length (items_of shelf)
    pub matched : length (bounds_of shelf) ≡ length (items_of shelf)

  -- no bound on a shelf exceeds a number
  abbrev pub IsTop : Shelf A → ℕ → Type 0
  IsTop shelf top = All (λ n. n ≤ top) (bounds_of shelf)

  -- there is such a number for each shelf
  abbrev pub AreTops : List (Shelf A) → List ℕ → Type 0
  AreTops shelves tops = AllZip IsTop shelves tops

  -- shelves, none of them empty, where they begin, and how many values they have
  pub record IsShelved (shelves : List (Shelf A)) (starts : List ℕ) (len : ℕ) : Type 0 where
    pub begins : starts ≡ starts_from 0 shelves
    pub filled : All IsFilled shelves
    pub counted : len ≡ length (items_on shelves)

  -- whether the first value of a shelf stands behind what is looked for
  abbrev pub BeginsBehind : (A → Ordering) → List (Shelf A) → ℕ → Bool → Type 0
  BeginsBehind ord shelves s b =
      (x : Shelf A) (d : A) → x ≡ slice_index_or shelves s x → is_gt (ord (slice_index_or (items_of x) 0 d)) ≡ b

  -- a shelf has so many values
  abbrev pub FitsOn : List (Shelf A) → ℕ → ℕ → Type 0
  FitsOn shelves s at = (x : Shelf A) → x ≡ slice_index_or shelves s x → at ≤ length (items_of x)

  -- an index is at a place of a shelf, or at the end of the last
  pub record Locates (shelves : List (Shelf A)) (len index s at : ℕ) : Type 0 where
    pub within : s < length shelves
    pub place : begin_of shelves s + at ≡ index
    pub inside : (x : Shelf A) → x ≡ slice_index_or shelves s x → index < len → at < length (items_of x)
    pub fits : FitsOn shelves s at

  -- one shelf is changed
  pub record Changes (olds news : List (Shelf A)) (s : ℕ) (old new : Shelf A) : Type 0 where
    pub at : old ≡ slice_index_or olds s old
    pub is : news ≡ slice_set olds s new

  -- one of its bounds is raised
  pub record Raises (olds news : List (Shelf A)) (s at bound : ℕ) : Type 0 where
    pub old : Shelf A
    pub new : Shelf A
    pub changes : Changes olds news s old new
    pub items : items_of new ≡ items_of old
    pub bounds : bounds_of new ≡ slice_set (bounds_of old) at (max (slice_index (bounds_of old) at) bound)

  -- none of its values is
  pub record Keeps (olds news : List (Shelf A)) (s : ℕ) : Type 0 where
    pub old : Shelf A
    pub new : Shelf A
    pub changes : Changes olds news s old new
    pub items : items_of new ≡ items_of old
    pub bounds : bounds_of new ≡ bounds_of old

  -- a value is put onto it
  pub record Puts (olds news : List (Shelf A)) (s at : ℕ) (value : A) (bound : ℕ) : Type 0 where
    pub old : Shelf A
    pub new : Shelf A
    pub changes : Changes olds news s old new
    pub items : items_of new ≡ insert (items_of old) at value
    pub bounds : bounds_of new ≡ insert (bounds_of old) at bound

  -- it becomes two, the first of which has so many values
  pub record Cuts (olds news : List (Shelf A)) (s at : ℕ) : Type 0 where
    pub old : Shelf A
    pub one : Shelf A
    pub two : Shelf A
    pub was : old ≡ slice_index_or olds s old
    pub fits : at < length (items_of old)
    pub is : news ≡ insert (slice_set olds s one) (s + 1) two
    pub items_one : items_of one ≡ take at (items_of old)
    pub items_two : items_of two ≡ drop at (items_of old)
    pub bounds_one : bounds_of one ≡ take at (bounds_of old)
    pub bounds_two : bounds_of two ≡ drop at (bounds_of old)

  -- a value is taken off it
  pub record Takes (olds news : List (Shelf A)) (s at : ℕ) (value : A) : Type 0 where
    pub old : Shelf A
    pub new : Shelf A
    pub changes : Changes olds news s old new
    pub items : items_of new ≡ remove (items_of old) at
    pub bounds : bounds_of new ≡ remove (bounds_of old) at
    pub was : value ≡ slice_index_or (items_of old) at value

  -- a value is taken out of the list, and the shelves that are left begin elsewhere
  pub record Removes (olds news : List (Shelf A)) (starts : List ℕ) (len index : ℕ) (value : A) : Type 0 where
    pub was : value ≡ slice_index_or (items_on olds) index value
    pub shelved : IsShelved news starts (len - 1)
    pub items : items_on news ≡ remove (items_on olds) index
    pub bounds : bounds_on news ≡ remove (bounds_on olds) index

-- an answer of a search on a shelf, told as of the list, with so many values before the shelf
abbrev pub found_behind : ℕ → Result ℕ ℕ → Result ℕ ℕ
found_behind n (Ok i) = Ok (n + i)
found_behind n (Err i) = Err (n + i)

-- each number of one list is at most that at its place in another
abbrev pub AreAtMost : List ℕ → List ℕ → Type 0
AreAtMost ms ns = (k : ℕ) → slice_index_or ms k 0 ≤ slice_index_or ns k 0

-- the first index from one on whose bound exceeds a number, or how many bounds there are
pub record IsNextAbove (bounds : List ℕ) (index number result : ℕ) : Type 0 where
  pub on : index ≤ result
  pub within : result ≤ length bounds
  pub passed : (k : ℕ) → index ≤ k → k < result → slice_index bounds k ≤ number
  pub above : result < length bounds → number < slice_index bounds result
