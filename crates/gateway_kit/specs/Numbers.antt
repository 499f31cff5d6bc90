-- The numbers of keys, and how they move with the cells.
use Rattle.std.specs.Prelude.{◌≡◌, ◌<◌, ◌⊎◌, ℕ, suc, cond, nat_lt, is_some, slice_index_or, List, map, length, Option, Some, None}
use Rattle.std.specs.FinMap.{entries}
use Rattle.std.specs.FinMap.Entries.{find}
use Rattle.std.specs.Option.{unwrap_or}
use Rattle.std.specs.declared.cmp.Ordering.{Ordering}
use Rattle.point_kit.specs.declared.cell.Cell.{Cell}
use Rattle.point_kit.specs.declared.payload.Payload.{Payload}
use Rattle.gateway_kit.specs.Growth.{cells_at}
use Rattle.gateway_kit.specs.Keys.{IncarnationKey, ItemKey, incarnation_cmp, item_cmp, keyed_cell_of, key_and_number}
use Rattle.gateway_kit.specs.IncarnationState.{IncarnationState}
use Rattle.gateway_kit.specs.Incarnations.{entries_at, keyed_numbers}
use Rattle.gateway_kit.specs.Tallies.{rank}
use Rattle.gateway_kit.specs.declared.part_item.PartItem.{PartItem}

-- how far a cell has come, none the least
abbrev pub rank_of : Option (Cell Payload) → ℕ
rank_of None = 0
rank_of (Some c) = suc (rank c)

-- what a key is numbered after a change of a number: of 0 it keeps its own
abbrev pub number_after : ℕ → ℕ → ℕ
number_after number n = cond (nat_lt 0 number) number n

-- the number of a key, 0 where it has none
abbrev pub number_in : {K : Type 0} → (K → K → Ordering) → List (K × ℕ) → K → ℕ
number_in R ns q = unwrap_or (find R q ns) 0

-- a key keeps its cell and its number, or its cell goes further and it gets the number of the change
abbrev pub Moves : ℕ → Option (Cell Payload) → Option (Cell Payload) → ℕ → ℕ → Type 0
Moves number a b n m = ((b ≡ a) × (m ≡ n)) ⊎ ((rank_of a < rank_of b) × (m ≡ number_after number n))

-- all keys of items
abbrev pub ItemsMove : ℕ → List PartItem → List PartItem → Type 0
ItemsMove number olds news = (q : ItemKey) → Moves number (find item_cmp q (map keyed_cell_of olds)) (find item_cmp q (map keyed_cell_of news)) (number_in item_cmp (map key_and_number olds) q) (number_in item_cmp (map key_and_number news) q)

-- all keys of an incarnation
abbrev pub IncarnationMoves : ℕ → IncarnationState → IncarnationState → Type 0
IncarnationMoves number old new = (q : ItemKey) → Moves number (find item_cmp q (entries old.cells)) (find item_cmp q (entries new.cells)) (number_in item_cmp (entries old.numbers) q) (number_in item_cmp (entries new.numbers) q)

-- the numbers of the incarnation under a key
abbrev pub numbers_at : IncarnationKey → List IncarnationState → List (ItemKey × ℕ)
numbers_at key incarnations = entries_at (find incarnation_cmp key (map keyed_numbers incarnations))

-- all keys of incarnations
abbrev pub IncarnationsMove : ℕ → List IncarnationState → List IncarnationState → Type 0
IncarnationsMove number olds news = (k : IncarnationKey) (q : ItemKey) → Moves number (find item_cmp q (cells_at k olds)) (find item_cmp q (cells_at k news)) (number_in item_cmp (numbers_at k olds) q) (number_in item_cmp (numbers_at k news) q)

-- all keys of an incarnation that are held have one number
abbrev pub IsNumbered : ℕ → IncarnationState → Type 0
IsNumbered number p = (q : ItemKey) → number_in item_cmp (entries p.numbers) q ≡ cond (is_some (find item_cmp q (entries p.cells))) number 0

-- all before a place are so
abbrev pub AllBefore : {A : Type 0} → (A → Type 0) → ℕ → List A → Type 0
AllBefore {A} Q n xs = (i : ℕ) (x : A) → i < n → x ≡ slice_index_or xs i x → Q x

-- all are so
abbrev pub AllAre : {A : Type 0} → (A → Type 0) → List A → Type 0
AllAre Q xs = AllBefore Q (length xs) xs
