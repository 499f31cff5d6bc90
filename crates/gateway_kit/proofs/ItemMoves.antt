-- How the numbers of items move, and of the incarnation that has them.
use Rattle.std.proofs.Common.{◌≡◌, ◌<◌, ◌≤◌, inr, ℕ, suc, true, false, cond, nat_le, List, [], ◌∷◌, map, length, get_or, is_some, Option, Some, None, refl, sym, ap, subst, ◌∙◌, arith}
use Rattle.std.proofs.lemmas.Bool.{and_from, and_parts}
use Rattle.std.proofs.lemmas.Bool.Decides.{nat_tests}
use Rattle.std.specs.Prelude.{slice_set}
use Rattle.std.specs.FinMap.{entries, entries-from_sorted}
use Rattle.std.specs.FinMap.Entries.{find, is_sorted}
use Rattle.std.specs.List.{insert}
use Rattle.std.specs.Option.{unwrap_or}
use Rattle.std.specs.Ordering.{eq_by_cmp}
use Rattle.point_kit.specs.declared.cell.Cell.{Cell}
use Rattle.point_kit.specs.declared.payload.Payload.{Payload}
use Rattle.point_kit.specs.declared.writer_id.WriterId.{WriterId}
use Rattle.gateway_kit.specs.Changing.{KeyedCell}
use Rattle.gateway_kit.specs.Keys.{ItemKey, item_cmp, keyed_cell_of, key_and_number}
use Rattle.gateway_kit.specs.Numbers.{Moves, ItemsMove, IncarnationMoves, AllAre, IsNumbered, number_after, number_in}
use Rattle.gateway_kit.specs.IncarnationState.{IncarnationState}
use Rattle.gateway_kit.specs.Tallies.{are_up_to, rank}
use Rattle.gateway_kit.specs.Weave.{weave}
use Rattle.gateway_kit.specs.declared.part_item.PartItem.{PartItem}
use Rattle.gateway_kit.proofs.Entries.{as_T}
use Rattle.gateway_kit.proofs.Growing.{all_set}
use Rattle.gateway_kit.specs.KeyOrders.{item_total, item_exact}
use Rattle.gateway_kit.proofs.Moved.{same_at, passes_at}
use Rattle.gateway_kit.proofs.Movement.{Held, stays, then_moves, comes_in, number_after_within, sorted_too, set_related, insert_related, weave_related}
use Rattle.gateway_kit.proofs.OneCell.{cells_of, shows}

abbrev key_of : PartItem → ItemKey
key_of i = (i.stream, i.attrs)

abbrev At : ℕ → Held → Option ℕ → Held → Option ℕ → Type 0
At number a n b m = Moves number a b (unwrap_or n 0) (unwrap_or m 0)

at_stays : (number : ℕ) (a : Held) (n : Option ℕ) → At number a n a n
at_stays number a n = stays number a (unwrap_or n 0)

pub items_stay : (number : ℕ) (items : List PartItem) → ItemsMove number items items
items_stay number items q = stays number _ _

pub items_then : (number : ℕ) (a b c : List PartItem) → ItemsMove number a b → ItemsMove number b c → ItemsMove number a c
items_then number a b c f g q = then_moves number _ _ _ _ _ _ (f q) (g q)

-- ---- a cell put at a place

pub put_moves : (number : ℕ) (items : List PartItem) (place : ℕ) (x y new : PartItem) (cell : Cell Payload) → place < length items → x ≡ get_or items place x → y ≡ get_or items place y → rank x.cell < rank cell → new ≡ record y { cell = cell; number = number_after number y.number } → ItemsMove number items (slice_set items place new)
put_moves number items place x y new cell within read lent up is =
    let above : rank y.cell < rank cell = subst (λ (z : PartItem). rank z.cell < rank cell) (same_at items place x y within read lent) up in
    subst (λ (z : PartItem). ItemsMove number items (slice_set items place z)) (sym is)
    (set_related item_cmp key_of (λ (i : PartItem). i.cell) (λ (i : PartItem). i.number) (At number) (at_stays number) items place y (record y { cell = cell; number = number_after number y.number }) lent refl (inr (omega (arith, above), refl)))

le_of : (a b : ℕ) → nat_le a b ≡ true → a ≤ b
le_of a b h = grind (arith, nat_tests)

pub le_to : (a b : ℕ) → a ≤ b → nat_le a b ≡ true
le_to a b h = grind (arith, nat_tests)

pub put_up_to : (number : ℕ) (items : List PartItem) (place : ℕ) (y new : PartItem) (cell : Cell Payload) → place < length items → y ≡ get_or items place y → new ≡ record y { cell = cell; number = number_after number y.number } → (n : ℕ) → number ≤ n → are_up_to n items ≡ true → are_up_to n (slice_set items place new) ≡ true
put_up_to number items place y new cell within lent is n g h =
    all_set (λ (i : PartItem). nat_le i.number n) items place new h
    (ap (λ (i : PartItem). nat_le i.number n) is ∙ le_to (number_after number y.number) n (number_after_within number y.number n g (le_of y.number n (passes_at (λ (i : PartItem). nat_le i.number n) items place y h within lent))))

pub up_to_more : (items : List PartItem) (m n : ℕ) → m ≤ n → are_up_to m items ≡ true → are_up_to n items ≡ true
up_to_more [] m n h t = refl
up_to_more (z ∷ items) m n h t =
    let here : z.number ≤ m = le_of z.number m ((and_parts (nat_le z.number m) (are_up_to m items) t).0) in
    and_from (nat_le z.number n) (are_up_to n items) (le_to z.number n (omega (arith, h, here))) (up_to_more items m n h ((and_parts (nat_le z.number m) (are_up_to m items) t).1))

-- ---- items of one number

abbrev pub Has : ℕ → PartItem → Type 0
Has number i = i.number ≡ number

later : (number : ℕ) (z : PartItem) (xs : List PartItem) → AllAre (Has number) (z ∷ xs) → AllAre (Has number) xs
later number z xs all i x l is = all (suc i) x (omega (arith, l)) is

pub key_and_number_all : (number : ℕ) (xs : List PartItem) → AllAre (Has number) xs → (q : ItemKey) → number_in item_cmp (map key_and_number xs) q ≡ cond (is_some (find item_cmp q (map keyed_cell_of xs))) number 0
key_and_number_all number [] all q = refl
key_and_number_all number (z ∷ xs) all q =
    let here : z.number ≡ number = all 0 z (omega arith) refl in
    let rest = key_and_number_all number xs (later number z xs all) q in
    elim (eq_by_cmp item_cmp q (key_of z)) as (λ b. unwrap_or (cond b (Some z.number) (find item_cmp q (map key_and_number xs))) 0 ≡ cond (is_some (cond b (Some z.cell) (find item_cmp q (map keyed_cell_of xs)))) number 0) [
      | true ↦ here
      | false ↦ rest
    ]

pub all_up_to : (number : ℕ) (xs : List PartItem) → AllAre (Has number) xs → (n : ℕ) → number ≤ n → are_up_to n xs ≡ true
all_up_to number [] all n h = refl
all_up_to number (z ∷ xs) all n h =
    let here : z.number ≡ number = all 0 z (omega arith) refl in
    and_from (nat_le z.number n) (are_up_to n xs) (ap (λ (m : ℕ). nat_le m n) here ∙ le_to number n h) (all_up_to number xs (later number z xs all) n h)

-- ---- new items

pub woven_move : (number : ℕ) (items fresh : List PartItem) → is_sorted item_cmp (map keyed_cell_of items) ≡ true → is_sorted item_cmp (map keyed_cell_of fresh) ≡ true → AllAre (Has number) fresh → ItemsMove number items (weave (λ x y. item_cmp (keyed_cell_of x).0 (keyed_cell_of y).0) items fresh)
woven_move number items fresh g h all q =
    weave_related item_cmp key_of (λ (i : PartItem). i.cell) (λ (i : PartItem). i.number) (At number) (at_stays number) item_total items fresh (as_T g) (as_T h)
    (λ k. comes_in number (find item_cmp k (map keyed_cell_of fresh)) (number_in item_cmp (map key_and_number fresh) k) (key_and_number_all number fresh all k)) q

pub insert_moves : (items : List PartItem) (item : PartItem) (place : ℕ) → item.number ≡ 0 → find item_cmp (keyed_cell_of item).0 (map keyed_cell_of items) ≡ None → ItemsMove 0 items (insert items place item)
insert_moves items item place none gone q =
    insert_related item_cmp key_of (λ (i : PartItem). i.cell) (λ (i : PartItem). i.number) (At 0) (at_stays 0) item_exact item (comes_in 0 (Some item.cell) item.number none) items place q gone

-- ---- the incarnation

pub numbers_sorted : (items : List PartItem) → is_sorted item_cmp (map keyed_cell_of items) ≡ true → is_sorted item_cmp (map key_and_number items) ≡ true
numbers_sorted items s = sym (sorted_too item_cmp key_of (λ (i : PartItem). i.cell) (λ (i : PartItem). i.number) items) ∙ s

-- the numbers that it shows
pub numbers_in : (p : IncarnationState) (writer : WriterId) (start : ℕ) (items : List PartItem) → is_sorted item_cmp (map keyed_cell_of items) ≡ true → shows writer start items ≡ p → entries p.numbers ≡ map key_and_number items
numbers_in p writer start items sorted is = ap (λ (q : IncarnationState). entries q.numbers) (sym is) ∙ entries-from_sorted item_cmp (map key_and_number items) (as_T (numbers_sorted items sorted))

pub incarnation_moves : (number : ℕ) (old new : IncarnationState) (writer start_writer : WriterId) (start now : ℕ) (items news : List PartItem) → is_sorted item_cmp (map keyed_cell_of items) ≡ true → is_sorted item_cmp (map keyed_cell_of news) ≡ true → shows writer start items ≡ old → shows start_writer now news ≡ new → ItemsMove number items news → IncarnationMoves number old new
incarnation_moves number old new writer other start now items news s t is new_is moves q =
    subst (λ (es : List KeyedCell). Moves number (find item_cmp q es) (find item_cmp q (entries new.cells)) (number_in item_cmp (entries old.numbers) q) (number_in item_cmp (entries new.numbers) q)) (sym (cells_of old writer start items s is))
    (subst (λ (es : List KeyedCell). Moves number (find item_cmp q (map keyed_cell_of items)) (find item_cmp q es) (number_in item_cmp (entries old.numbers) q) (number_in item_cmp (entries new.numbers) q)) (sym (cells_of new other now news t new_is))
    (subst (λ (ns : List (ItemKey × ℕ)). Moves number (find item_cmp q (map keyed_cell_of items)) (find item_cmp q (map keyed_cell_of news)) (number_in item_cmp ns q) (number_in item_cmp (entries new.numbers) q)) (sym (numbers_in old writer start items s is))
    (subst (λ (ns : List (ItemKey × ℕ)). Moves number (find item_cmp q (map keyed_cell_of items)) (find item_cmp q (map keyed_cell_of news)) (number_in item_cmp (map key_and_number items) q) (number_in item_cmp ns q)) (sym (numbers_in new other now news t new_is)) (moves q))))

-- all of one number, it shows that number of each key
pub shows_numbered : (number : ℕ) (writer : WriterId) (start : ℕ) (items : List PartItem) → is_sorted item_cmp (map keyed_cell_of items) ≡ true → AllAre (Has number) items → IsNumbered number (shows writer start items)
shows_numbered number writer start items s all q =
    ap (λ (ns : List (ItemKey × ℕ)). number_in item_cmp ns q) (numbers_in (shows writer start items) writer start items s refl)
    ∙ key_and_number_all number items all q
    ∙ ap (λ (es : List KeyedCell). cond (is_some (find item_cmp q es)) number 0) (sym (cells_of (shows writer start items) writer start items s refl))

-- no key of items has a number above that of all
pub up_to_in : (n : ℕ) (items : List PartItem) → are_up_to n items ≡ true → (q : ItemKey) → number_in item_cmp (map key_and_number items) q ≤ n
up_to_in n [] h q = omega arith
up_to_in n (z ∷ items) h q =
    let parts = and_parts (nat_le z.number n) (are_up_to n items) h in
    elim (eq_by_cmp item_cmp q (key_of z)) as (λ b. unwrap_or (cond b (Some z.number) (find item_cmp q (map key_and_number items))) 0 ≤ n) [
      | true ↦ least z.number n parts.0
      | false ↦ up_to_in n items parts.1 q
    ]
  where
    least : (a b : ℕ) → nat_le a b ≡ true → a ≤ b
    least a b g = grind (arith, nat_tests)
