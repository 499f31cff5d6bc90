-- A walk over cells in the order of their keys.
use Rattle.std.proofs.Common.{◌≡◌, ℕ, ◌+◌, ◌<◌, ◌≤◌, ◌^◌, Bool, true, false, cond, List, [], ◌∷◌, ◌++◌, length, map, append_assoc, length-append, Option, Some, None, unwrap_or, sym, ap, subst, ◌∙◌, arith}
use Rattle.std.proofs.lemmas.Bool.{and_parts}
use Rattle.std.proofs.lemmas.List.{map-append}
use Rattle.std.specs.Prelude.{IfSome}
use Rattle.std.specs.Ordering.{is_lt}
use Rattle.std.specs.FinMap.Entries.{is_sorted, below_all}
use Rattle.point_kit.specs.Orders.{key_cmp}
use Rattle.point_kit.specs.declared.cell.Cell.{Cell}
use Rattle.point_kit.specs.declared.cell.Held.{Held}
use Rattle.point_kit.specs.declared.cell.Held.TheVariants.{One, Conflict}
use Rattle.point_kit.specs.declared.key.Key.{Key}
use Rattle.point_kit.specs.declared.payload.Payload.{Payload}
use Rattle.schedule_kit.specs.Rows.{is_one, is_conflict}
use Rattle.rollup_kit.specs.Asks.{Attributes}
use Rattle.rollup_kit.specs.Groups.{Grouped, no_group, with_held}
use Rattle.rollup_kit.specs.Rollups.{newest}
use Rattle.rollup_kit.specs.Standing.{group_of, row_among, is_row, group_after, Stands}
use Rattle.rollup_kit.specs.Walks.{Rows, group_at, HasRoom, Adds}
use Rattle.rollup_kit.specs.declared.ask.Ask.{Ask}
use Rattle.gateway_kit.proofs.Entries.{as_T, less}
use Rattle.rollup_kit.proofs.Snoc.{counts, KeysBelow}
use Rattle.rollup_kit.proofs.Steps.{group_after-snoc}

below_mid : (k : Key) (es : List (Key × Cell Payload)) (e : Key × Cell Payload) (rest : List (Key × Cell Payload)) → below_all key_cmp k (es ++ e ∷ rest) ≡ true → is_lt (key_cmp k e.0) ≡ true
below_mid k [] e rest h = (and_parts _ _ h).0
below_mid k (x ∷ es) e rest h = below_mid k es e rest ((and_parts _ _ h).1)

-- what comes before a cell in order has lesser keys
pub sorted_below : (es : List (Key × Cell Payload)) (e : Key × Cell Payload) (rest : List (Key × Cell Payload)) → is_sorted key_cmp (es ++ e ∷ rest) ≡ true → KeysBelow e.0 es
sorted_below [] e rest h = tt
sorted_below (x ∷ es) e rest h = (less _ (as_T (below_mid x.0 es e rest ((and_parts _ _ h).0))), sorted_below es e rest ((and_parts _ _ h).1))

ones : (b : Bool) (h : Held Payload) → cond b (is_one h) 0 ≤ 1
ones true (One p) = omega arith
ones true Conflict = omega arith
ones false h = omega arith

clashes : (b : Bool) (h : Held Payload) → cond b (is_conflict h) 0 ≤ 1
clashes true (One p) = omega arith
clashes true Conflict = omega arith
clashes false h = omega arith

module _ (ask : Ask) (q : Attributes) where
  points_few : (es : List (Key × Cell Payload)) → (row_among ask es q).points ≤ length es
  points_few [] = omega arith
  points_few (x ∷ es) = let one : cond (counts ask q x) (is_one x.1.held) 0 ≤ 1 = ones (counts ask q x) x.1.held in let rest : (row_among ask es q).points ≤ length es = points_few es in omega arith

  conflicts_few : (es : List (Key × Cell Payload)) → (row_among ask es q).conflicts ≤ length es
  conflicts_few [] = omega arith
  conflicts_few (x ∷ es) = let one : cond (counts ask q x) (is_conflict x.1.held) 0 ≤ 1 = clashes (counts ask q x) x.1.held in let rest : (row_among ask es q).conflicts ≤ length es = conflicts_few es in omega arith

  room_at : (n : ℕ) (es : List (Key × Cell Payload)) → length es + 1 < 2 ^ 64 → IfSome (group_after ask n es q) (λ g. (g.points + 1 < 2 ^ 64) × (g.conflicts + 1 < 2 ^ 64))
  room_at n es few =
      let some : (row_among ask es q).points ≤ length es = points_few es in
      let other : (row_among ask es q).conflicts ≤ length es = conflicts_few es in
      elim (is_row ask es q) as (λ b. IfSome (cond b (Some (group_of n (row_among ask es q) (newest ask es q))) None) (λ g. (g.points + 1 < 2 ^ 64) × (g.conflicts + 1 < 2 ^ 64))) [
        | true ↦ (omega arith, omega arith)
        | false ↦ tt
      ]

-- a cell more can be counted
has_room : (ask : Ask) (n : ℕ) (es : List (Key × Cell Payload)) (groups : Rows) → Stands ask n es groups → length es + 1 < 2 ^ 64 → HasRoom groups
has_room ask n es groups stands few q = subst (λ (o : Option Grouped). IfSome o (λ g. (g.points + 1 < 2 ^ 64) × (g.conflicts + 1 < 2 ^ 64))) (sym (stands q)) (room_at ask q n es few)

-- also in the group of one set
pub room_of : (rows : Rows) (q : Attributes) (g : Grouped) → HasRoom rows → Some g ≡ group_at rows q → (g.points + 1 < 2 ^ 64) × (g.conflicts + 1 < 2 ^ 64)
room_of rows q g room is = subst (λ (o : Option Grouped). IfSome o (λ g. (g.points + 1 < 2 ^ 64) × (g.conflicts + 1 < 2 ^ 64))) (sym is) (room q)

-- and then stands with the others
pub stands_more : (ask : Ask) (n : ℕ) (es : List (Key × Cell Payload)) (e : Key × Cell Payload) (old new : Rows) → KeysBelow e.0 es → Stands ask n es old → Adds ask n e old new → Stands ask n (es ++ e ∷ []) new
stands_more ask n es e old new below stands adds q =
    adds q ∙ ap (λ (o : Option Grouped). cond (counts ask q e) (Some (with_held (unwrap_or o (no_group n)) e.1.time e.1.held)) o) (stands q) ∙ sym (group_after-snoc ask n q es e below)

-- how a walk goes on
module _ {A B : Type 0} (f : A → B) where
  one_mapped : (ys : List A) (y : A) → map f (ys ++ y ∷ []) ≡ map f ys ++ f y ∷ []
  one_mapped ys y = map-append f ys (y ∷ [])

  more_seen : (all : List B) (ys : List A) (y : A) (left rest : List B) → all ≡ map f ys ++ left → left ≡ f y ∷ rest → all ≡ map f (ys ++ y ∷ []) ++ rest
  more_seen all ys y left rest whole next = whole ∙ ap (λ l. map f ys ++ l) next ∙ sym (append_assoc (map f ys) (f y ∷ []) rest) ∙ ap (λ l. l ++ rest) (sym (one_mapped ys y))

  few_seen : (all : List B) (ys : List A) (y : A) (left rest : List B) → all ≡ map f ys ++ left → left ≡ f y ∷ rest → length all < 2 ^ 64 → length (map f ys) + 1 < 2 ^ 64
  few_seen all ys y left rest whole next few =
      let long : length all ≡ length (map f ys) + length (f y ∷ rest) = ap length (whole ∙ ap (λ l. map f ys ++ l) next) ∙ length-append (map f ys) (f y ∷ rest) in
      omega arith

-- the point that comes next: there is room for it, and it stands with those before
module _ {A : Type 0} (f : A → Key × Cell Payload) (ask : Ask) (n : ℕ) (all : List (Key × Cell Payload)) (ys : List A) (y : A) (left rest : List (Key × Cell Payload)) (old : Rows)
    (whole : all ≡ map f ys ++ left) (next : left ≡ f y ∷ rest) (stands : Stands ask n (map f ys) old) where
  pub room_next : length all < 2 ^ 64 → HasRoom old
  room_next few = has_room ask n (map f ys) old stands (few_seen f all ys y left rest whole next few)

  pub stands_next : (new : Rows) → is_sorted key_cmp all ≡ true → Adds ask n (f y) old new → (all ≡ map f (ys ++ y ∷ []) ++ rest) × Stands ask n (map f (ys ++ y ∷ [])) new
  stands_next new sorted adds =
      let below = sorted_below (map f ys) (f y) rest (ap (is_sorted key_cmp) (sym (whole ∙ ap (λ l. map f ys ++ l) next)) ∙ sorted) in (
        more_seen f all ys y left rest whole next,
        subst (λ (es : List (Key × Cell Payload)). Stands ask n es new) (sym (one_mapped f ys y)) (stands_more ask n (map f ys) (f y) old new below stands adds),
      )
