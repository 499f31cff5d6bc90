-- How many conflicts there are, as items and incarnations change.
use Rattle.std.proofs.Common.{◌≡◌, ℕ, zero, suc, ◌+◌, ◌-◌, ◌%◌, ◌<◌, ◌≤◌, ◌^◌, true, cond, Result, Ok, Err, IfOk, List, [], ◌∷◌, ◌++◌, map, take, length, get_or, refl, sym, ap, subst, ◌∙◌, arith, count_by}
use Rattle.std.specs.Prelude.{slice_set}
use Rattle.std.specs.List.{insert, sum_by}
use Rattle.std.specs.FinMap.{entries}
use Rattle.std.specs.FinMap.Entries.{is_sorted}
use Rattle.std.proofs.lemmas.List.{take_more}
use Rattle.std.proofs.lemmas.List.Sums.{sum_by-append, sum_by-cons, sum_by-set, sum_by-insert, count_by-le-length}
use Rattle.point_kit.specs.declared.cell.Cell.{Cell}
use Rattle.point_kit.specs.declared.key.Key.{Key}
use Rattle.point_kit.specs.declared.payload.Payload.{Payload}
use Rattle.point_kit.specs.declared.writer_id.WriterId.{WriterId}
use Rattle.gateway_kit.specs.Amending.{with_change}
use Rattle.gateway_kit.specs.Changing.{KeyedCell, replacement}
use Rattle.gateway_kit.specs.Keys.{keyed_cell_of, item_cmp, whole_key}
use Rattle.gateway_kit.specs.IncarnationState.{IncarnationState}
use Rattle.gateway_kit.specs.Incarnations.{IsWhole, all_points}
use Rattle.gateway_kit.specs.Queries.{has_conflict}
use Rattle.gateway_kit.specs.Tallies.{Tells, conflict, rank, conflicts_in, conflicts_of, incarnation_conflicts}
use Rattle.gateway_kit.specs.declared.growth.Growth.{Growth}
use Rattle.gateway_kit.specs.declared.part_item.PartItem.{PartItem}
use Rattle.gateway_kit.proofs.Counting.{count_cons, count_map}
use Rattle.gateway_kit.proofs.OneCell.{cells_of, shows}
use Rattle.gateway_kit.proofs.Times.{below, written}

counted : (e : KeyedCell) (es : List KeyedCell) → conflicts_in (e ∷ es) ≡ conflict e.1 + conflicts_in es
counted e es = count_cons (λ (d : KeyedCell). has_conflict d.1) e es

-- a later cell put at a place
pub conflicts_put : (xs : List PartItem) (i : ℕ) (x : PartItem) (c : Cell Payload) → i < length xs → x ≡ get_or xs i x → rank x.cell < rank c → conflicts_in (with_change replacement (map keyed_cell_of xs) i c) + conflict x.cell ≡ conflicts_in (map keyed_cell_of xs) + conflict c
conflicts_put [] i x c h is up = absurd (omega arith)
conflicts_put (z ∷ xs) zero x c h is up =
    let comes : replacement z.cell c ≡ c = ap (λ b. cond b c z.cell) (below (rank z.cell) (rank c) (subst (λ (y : PartItem). rank y.cell < rank c) is up)) in
    let now : conflicts_in (((keyed_cell_of z).0, replacement z.cell c) ∷ map keyed_cell_of xs) ≡ conflict c + conflicts_in (map keyed_cell_of xs) = counted ((keyed_cell_of z).0, replacement z.cell c) (map keyed_cell_of xs) ∙ ap (λ (d : Cell Payload). conflict d + conflicts_in (map keyed_cell_of xs)) comes in
    let was : conflicts_in (keyed_cell_of z ∷ map keyed_cell_of xs) ≡ conflict x.cell + conflicts_in (map keyed_cell_of xs) = counted (keyed_cell_of z) (map keyed_cell_of xs) ∙ ap (λ (y : PartItem). conflict y.cell + conflicts_in (map keyed_cell_of xs)) (sym is) in
    summed (conflict x.cell) (conflict c) (conflicts_in (map keyed_cell_of xs)) _ _ now was
  where
    summed : (a b n now was : ℕ) → now ≡ b + n → was ≡ a + n → now + a ≡ was + b
    summed a b n now was p q = omega arith
conflicts_put (z ∷ xs) (suc i) x c h is up =
    let rest : conflicts_in (with_change replacement (map keyed_cell_of xs) i c) + conflict x.cell ≡ conflicts_in (map keyed_cell_of xs) + conflict c = conflicts_put xs i x c (omega arith) is up in
    more (conflict z.cell) (conflict x.cell) (conflict c) _ _ _ _ (counted (keyed_cell_of z) (with_change replacement (map keyed_cell_of xs) i c)) (counted (keyed_cell_of z) (map keyed_cell_of xs)) rest
  where
    more : (z a b m n now was : ℕ) → now ≡ z + m → was ≡ z + n → m + a ≡ n + b → now + a ≡ was + b
    more z a b m n now was p q r = omega arith

pub conflicts_few : (es : List KeyedCell) → conflicts_in es ≤ length es
conflicts_few es = count_by-le-length (λ (d : KeyedCell). has_conflict d.1) es

-- a cell that is not earlier, in place of another: what is taken off is there
module _ (xs : List PartItem) (i : ℕ) (x : PartItem) (c : Cell Payload) (within : i < length xs) (is : x ≡ get_or xs i x) (up : rank x.cell < rank c) (before now was : ℕ) (told : before ≡ conflicts_in (map keyed_cell_of xs)) (n : now ≡ conflict c) (w : was ≡ conflict x.cell) where
  pub put_under : was ≤ before + now
  put_under = let put = conflicts_put xs i x c within is up in omega (arith, put, told, n, w)

  put_counts : before + now - was ≡ conflicts_in (with_change replacement (map keyed_cell_of xs) i c)
  put_counts = let put = conflicts_put xs i x c within is up in omega (arith, put, told, n, w)

pub written_conflicts : (xs : List PartItem) (i : ℕ) (x y : PartItem) (c : Cell Payload) (within : i < length xs) (is : x ≡ get_or xs i x) (lent : y ≡ get_or xs i y) (up : rank x.cell < rank c) (number before now was : ℕ) → before ≡ conflicts_in (map keyed_cell_of xs) → now ≡ conflict c → was ≡ conflict x.cell → before + now - was ≡ conflicts_in (map keyed_cell_of (slice_set xs i (record { stream = y.stream; attrs = y.attrs; cell = c; number = number; hint = y.hint })))
written_conflicts xs i x y c within is lent up number before now was told n w = put_counts xs i x c within is up before now was told n w ∙ ap (λ (es : List KeyedCell). conflicts_in es) (sym (written xs i x y c within is lent up number))

-- one more entry
pub conflicts_more : (es : List KeyedCell) (e : KeyedCell) → conflicts_in (es ++ e ∷ []) ≡ conflicts_in es + conflict e.1
conflicts_more es e = sum_by-append (λ (d : KeyedCell). conflict d.1) es (e ∷ []) ∙ ap (λ (n : ℕ). conflicts_in es + n) (alone (conflict e.1))
  where
    alone : (n : ℕ) → 0 + n ≡ n
    alone n = omega arith

pub conflicts_insert : (items : List PartItem) (item : PartItem) (place : ℕ) → conflicts_in (map keyed_cell_of (insert items place item)) ≡ conflicts_in (map keyed_cell_of items) + conflict item.cell
conflicts_insert items item place = of_items (insert items place item) ∙ sum_by-insert (λ (i : PartItem). conflict i.cell) items place item ∙ ap (λ (n : ℕ). n + conflict item.cell) (sym (of_items items))
  where
    of_items : (xs : List PartItem) → conflicts_in (map keyed_cell_of xs) ≡ sum_by (λ (i : PartItem). conflict i.cell) xs
    of_items xs = count_map (λ (d : KeyedCell). has_conflict d.1) (λ (i : PartItem). has_conflict i.cell) keyed_cell_of (λ i. refl) xs

-- the conflicts of all incarnations are those of all points
abbrev points_of : IncarnationState → List (Key × Cell Payload)
points_of p = map (λ (t : KeyedCell). (whole_key (p.writer, p.start) t.0, t.1)) (entries p.cells)

pub conflicts_listed : (incarnations : List IncarnationState) → conflicts_of incarnations ≡ count_by (λ (e : Key × Cell Payload). has_conflict e.1) (all_points incarnations)
conflicts_listed [] = refl
conflicts_listed (p ∷ incarnations) =
    let own : count_by (λ (e : Key × Cell Payload). has_conflict e.1) (points_of p) ≡ incarnation_conflicts p = count_map (λ (e : Key × Cell Payload). has_conflict e.1) (λ (d : KeyedCell). has_conflict d.1) (λ (t : KeyedCell). (whole_key (p.writer, p.start) t.0, t.1)) (λ t. refl) (entries p.cells) in
    let both : count_by (λ (e : Key × Cell Payload). has_conflict e.1) (all_points (p ∷ incarnations)) ≡ count_by (λ (e : Key × Cell Payload). has_conflict e.1) (points_of p) + count_by (λ (e : Key × Cell Payload). has_conflict e.1) (all_points incarnations) = sum_by-append (λ (e : Key × Cell Payload). cond (has_conflict e.1) 1 0) (points_of p) (all_points incarnations) in
    let here : conflicts_of (p ∷ incarnations) ≡ incarnation_conflicts p + conflicts_of incarnations = sum_by-cons incarnation_conflicts p incarnations in
    let rest = conflicts_listed incarnations in
    omega (arith, own, both, here, rest)

pub conflicts_bounded : (incarnations : List IncarnationState) → conflicts_of incarnations ≤ length (all_points incarnations)
conflicts_bounded incarnations = let is = conflicts_listed incarnations in let few = count_by-le-length (λ (e : Key × Cell Payload). has_conflict e.1) (all_points incarnations) in omega (arith, is, few)

-- one more incarnation
pub incarnations_more : (incarnations : List IncarnationState) (i : ℕ) (p : IncarnationState) → i < length incarnations → p ≡ get_or incarnations i p → conflicts_of (take (i + 1) incarnations) ≡ conflicts_of (take i incarnations) + incarnation_conflicts p
incarnations_more incarnations i p within is =
    ap (λ (ps : List IncarnationState). conflicts_of ps) (take_more incarnations i p within ∙ ap (λ (q : IncarnationState). take i incarnations ++ q ∷ []) (sym is))
    ∙ sum_by-append incarnation_conflicts (take i incarnations) (p ∷ []) ∙ ap (λ (n : ℕ). conflicts_of (take i incarnations) + n) (alone (incarnation_conflicts p))
  where
    alone : (n : ℕ) → 0 + n ≡ n
    alone n = omega arith

-- one incarnation in place of another
pub tells_set : (olds : List IncarnationState) (place : ℕ) (incarnation new : IncarnationState) (before after : ℕ) → place < length olds → incarnation ≡ get_or olds place incarnation → before ≡ incarnation_conflicts incarnation → after ≡ incarnation_conflicts new → Tells olds (slice_set olds place new) before after
tells_set olds place incarnation new before after within is b a =
    let all : conflicts_of (slice_set olds place new) + incarnation_conflicts incarnation ≡ conflicts_of olds + incarnation_conflicts new = ap (λ (p : IncarnationState). conflicts_of (slice_set olds place new) + incarnation_conflicts p) is ∙ sum_by-set incarnation_conflicts olds place new incarnation within in
    record { all = omega (arith, all, b, a); among = ap_le (at_most olds place incarnation within is) }
  where
    at_most : (ps : List IncarnationState) (i : ℕ) (p : IncarnationState) → i < length ps → p ≡ get_or ps i p → incarnation_conflicts p ≤ conflicts_of ps
    at_most [] i p h e = absurd (omega arith)
    at_most (q ∷ ps) zero p h e =
        let here : incarnation_conflicts p ≡ incarnation_conflicts q = ap incarnation_conflicts e in
        let c = sum_by-cons incarnation_conflicts q ps in
        omega (arith, here, c)
    at_most (q ∷ ps) (suc i) p h e =
        let rest = at_most ps i p (omega arith) e in
        let c = sum_by-cons incarnation_conflicts q ps in
        omega (arith, rest, c)

    ap_le : incarnation_conflicts incarnation ≤ conflicts_of olds → before ≤ conflicts_of olds
    ap_le h = omega (arith, h, b)

-- a count of all conflicts, in 64 bits, as one incarnation changes
pub among_set : (olds : List IncarnationState) (place : ℕ) (incarnation new : IncarnationState) → place < length olds → incarnation ≡ get_or olds place incarnation → (told now : ℕ) → told ≡ conflicts_of olds % 2 ^ 64 → (now + incarnation_conflicts incarnation) % 2 ^ 64 ≡ (told + incarnation_conflicts new) % 2 ^ 64 → now < 2 ^ 64 → now ≡ conflicts_of (slice_set olds place new) % 2 ^ 64
among_set olds place incarnation new within is told now was moved small =
    let all = (tells_set olds place incarnation new (incarnation_conflicts incarnation) (incarnation_conflicts new) within is refl refl).all in
    omega (arith, all, was, moved, small)

-- one incarnation more
pub tells_insert : (olds : List IncarnationState) (place : ℕ) (new : IncarnationState) (after : ℕ) → after ≡ incarnation_conflicts new → Tells olds (insert olds place new) 0 after
tells_insert olds place new after a = record {
  all = let s = sum_by-insert incarnation_conflicts olds place new in omega (arith, s, a);
  among = omega arith;
}

-- an incarnation into which a cell was joined
pub held_tells : {E : Type 0} (olds : List IncarnationState) (place : ℕ) (incarnation new : IncarnationState) → place < length olds → incarnation ≡ get_or olds place incarnation → (r : Result Growth E) → IfOk r (λ g. g.before ≡ incarnation_conflicts incarnation) → IfOk r (λ g. g.after ≡ incarnation_conflicts new) → IfOk r (λ g. Tells olds (slice_set olds place new) g.before g.after)
held_tells olds place incarnation new within is (Err e) b a = tt
held_tells olds place incarnation new within is (Ok g) b a = tells_set olds place incarnation new g.before g.after within is b a

-- the total after a change
module _ (olds news : List IncarnationState) (before after total : ℕ) (was : total ≡ conflicts_of olds) (tells : Tells olds news before after) where
  pub told_under : before ≤ total
  told_under = let h = tells.among in omega (arith, was, h)

  pub told_total : total - before + after ≡ conflicts_of news
  told_total = let all = tells.all in let among = tells.among in omega (arith, was, all, among)

  pub told_few : (len : ℕ) → IsWhole news len → total - before + after ≤ 2 ^ 62
  told_few len whole =
      let few = conflicts_bounded news in
      let long = whole.counted in
      let short = whole.bounded in
      let is = told_total in
      omega (arith, few, long, short, is)

-- the conflicts of an incarnation as its items show them
pub shown : (p : IncarnationState) (writer : WriterId) (start : ℕ) (items : List PartItem) (n : ℕ) → is_sorted item_cmp (map keyed_cell_of items) ≡ true → shows writer start items ≡ p → n ≡ conflicts_in (map keyed_cell_of items) → n ≡ incarnation_conflicts p
shown p writer start items n sorted is told = told ∙ ap (λ (es : List KeyedCell). conflicts_in es) (sym (cells_of p writer start items sorted is))

pub whole_few : (incarnations : List IncarnationState) (len : ℕ) → IsWhole incarnations len → conflicts_of incarnations ≤ 2 ^ 62
whole_few incarnations len whole =
    let few = conflicts_bounded incarnations in
    let long = whole.counted in
    let short = whole.bounded in
    omega (arith, few, long, short)
