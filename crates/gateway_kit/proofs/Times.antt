-- The greatest time of items, as they change.
use Rattle.std.proofs.Common.{◌≡◌, ℕ, zero, suc, ◌+◌, ◌<◌, ◌≤◌, max, Bool, true, false, cond, nat_lt, List, [], ◌∷◌, ◌++◌, map, length, get_or, Some, refl, sym, ap, subst, ◌∙◌, arith}
use Rattle.std.proofs.lemmas.Bool.Decides.{nat_tests}
use Rattle.std.specs.Prelude.{slice_set}
use Rattle.point_kit.specs.Equality.{payload_eq}
use Rattle.point_kit.specs.Join.{join_cells, join_held}
use Rattle.point_kit.specs.declared.cell.Held.{Held}
use Rattle.point_kit.specs.declared.cell.Held.TheVariants.{One, Conflict}
use Rattle.point_kit.specs.declared.cell.Cell.{Cell}
use Rattle.point_kit.specs.declared.payload.Payload.{Payload}
use Rattle.gateway_kit.specs.Amending.{with_change}
use Rattle.gateway_kit.specs.Changing.{replacement}
use Rattle.gateway_kit.specs.Keys.{keyed_cell_of}
use Rattle.gateway_kit.specs.Incarnations.{has_some}
use Rattle.gateway_kit.specs.Queries.{has_conflict}
use Rattle.gateway_kit.specs.Tallies.{conflict, rank}
use Rattle.gateway_kit.specs.Times.{greatest, latest}
use Rattle.gateway_kit.specs.declared.part_item.PartItem.{PartItem}
use Rattle.gateway_kit.proofs.Moved.{set_with_change, same_at}

turned : (a b : ℕ) → nat_lt a b ≡ true → nat_lt b a ≡ false
turned a b h = grind (arith, nat_tests)

itself : (a : ℕ) → nat_lt a a ≡ false
itself a = grind (arith, nat_tests)

pub not_below : (a b : ℕ) → b ≤ a → nat_lt a b ≡ false
not_below a b h = grind (arith, nat_tests)

pub below : (a b : ℕ) → a < b → nat_lt a b ≡ true
below a b h = grind (arith, nat_tests)

few : (b : Bool) → cond b 1 0 ≤ 1
few true = omega arith
few false = omega arith

pub conflict_few : (c : Cell Payload) → conflict c ≤ 1
conflict_few c = few (has_conflict c)

pub less_of : (a b : ℕ) → nat_lt a b ≡ true → a < b
less_of a b h = grind (arith, nat_tests)

-- a later cell is further
later : (v w : Cell Payload) → nat_lt v.time w.time ≡ true → nat_lt (rank v) (rank w) ≡ true
later v w h =
    let is : v.time < w.time = less_of v.time w.time h in
    let one = conflict_few v in
    below (rank v) (rank w) (omega (arith, is, one))

-- one that is further is not earlier
pub further_time : (v w : Cell Payload) → rank v < rank w → v.time ≤ w.time
further_time v w h = let one = conflict_few w in omega (arith, h, one)

same_or : (b : Bool) (x : Cell Payload) → cond b x x ≡ x
same_or true x = refl
same_or false x = refl

-- what comes of a join comes in the place of the cell
pub joined_stays : (v w : Cell Payload) → replacement v (join_cells payload_eq v w) ≡ join_cells payload_eq v w
joined_stays v w =
    elim (nat_lt v.time w.time) as (λ b. nat_lt v.time w.time ≡ b → replacement v (cond b w (cond (nat_lt w.time v.time) v (record { time = v.time; held = join_held payload_eq v.held w.held }))) ≡ cond b w (cond (nat_lt w.time v.time) v (record { time = v.time; held = join_held payload_eq v.held w.held }))) [
      | true ↦ λ t. ap (λ b. cond b w v) (later v w t)
      | false ↦ λ _. elim (nat_lt w.time v.time) as (λ b. replacement v (cond b v (record { time = v.time; held = join_held payload_eq v.held w.held })) ≡ cond b v (record { time = v.time; held = join_held payload_eq v.held w.held })) [
        | true ↦ same_or (nat_lt (rank v) (rank v)) v
        | false ↦ tied v.time v.held w.held
      ]
    ] refl
  where
    tied : (t : ℕ) (h k : Held Payload) → replacement (record { time = t; held = h }) (record { time = t; held = join_held payload_eq h k }) ≡ record { time = t; held = join_held payload_eq h k }
    tied t (One p) (One q) = elim (payload_eq p q) as (λ b. replacement (record { time = t; held = One p }) (record { time = t; held = cond b (One p) Conflict }) ≡ record { time = t; held = cond b (One p) Conflict }) [
      | true ↦ same_or (nat_lt (t + t + 0) (t + t + 0)) (record { time = t; held = One p })
      | false ↦ ap (λ b. cond b (record { time = t; held = Conflict }) (record { time = t; held = One p })) (below (t + t + 0) (t + t + 1) (omega arith))
    ]
    tied t (One p) Conflict = ap (λ b. cond b (record { time = t; held = Conflict }) (record { time = t; held = One p })) (below (t + t + 0) (t + t + 1) (omega arith))
    tied t Conflict k = same_or (nat_lt (t + t + 1) (t + t + 1)) (record { time = t; held = Conflict })

-- a later cell put at a place
pub latest_put : (xs : List PartItem) (i : ℕ) (x : PartItem) (c : Cell Payload) → i < length xs → x ≡ get_or xs i x → rank x.cell < rank c → latest (with_change replacement (map keyed_cell_of xs) i c) ≡ max (latest (map keyed_cell_of xs)) c.time
latest_put [] i x c h is up = absurd (omega arith)
latest_put (z ∷ xs) zero x c h is up =
    let up : rank z.cell < rank c = subst (λ (y : PartItem). rank y.cell < rank c) is up in
    let late = further_time z.cell c up in
    ap (λ b. max (cond b c z.cell).time (latest (map keyed_cell_of xs))) (below (rank z.cell) (rank c) up) ∙ omega (arith, late)
latest_put (z ∷ xs) (suc i) x c h is up =
    let rest : latest (with_change replacement (map keyed_cell_of xs) i c) ≡ max (latest (map keyed_cell_of xs)) c.time = latest_put xs i x c (omega arith) is up in
    ap (max z.cell.time) rest ∙ omega arith

-- one more entry
pub latest_more : {K : Type 0} (es : List (K × Cell Payload)) (e : K × Cell Payload) → latest (es ++ e ∷ []) ≡ max (latest es) e.1.time
latest_more [] e = omega arith
latest_more (d ∷ es) e =
    let rest : latest (es ++ e ∷ []) ≡ max (latest es) e.1.time = latest_more es e in
    ap (max d.1.time) rest ∙ omega arith

-- where there are some, the greatest time is one
pub some_latest : {K : Type 0} (es : List (K × Cell Payload)) → has_some es ≡ true → greatest (map (λ e. e.1.time) es) ≡ Some (latest es)
some_latest [] h = cc
some_latest (e ∷ es) h = refl

-- a cell that is not earlier, written at a place
module _ (xs : List PartItem) (i : ℕ) (x y : PartItem) (c : Cell Payload) (within : i < length xs) (read : x ≡ get_or xs i x) (lent : y ≡ get_or xs i y) (up : rank x.cell < rank c) (number : ℕ) where
  pub written : map keyed_cell_of (slice_set xs i (record { stream = y.stream; attrs = y.attrs; cell = c; number = number; hint = y.hint })) ≡ with_change replacement (map keyed_cell_of xs) i c
  written =
      let held : x ≡ y = same_at xs i x y within read lent in
      let above : rank y.cell < rank c = subst (λ (z : PartItem). rank z.cell < rank c) held up in
      let comes : c ≡ replacement y.cell c = ap (λ b. cond b c y.cell) (sym (below (rank y.cell) (rank c) above)) in
      set_with_change keyed_cell_of replacement xs i y (record { stream = y.stream; attrs = y.attrs; cell = c; number = number; hint = y.hint }) c within lent (λ j. ((y.stream, y.attrs), comes j))

  pub written_latest : (before after : ℕ) → after ≡ max before c.time → before ≡ latest (map keyed_cell_of xs) → after ≡ latest (map keyed_cell_of (slice_set xs i (record { stream = y.stream; attrs = y.attrs; cell = c; number = number; hint = y.hint })))
  written_latest before after is was = is ∙ ap (λ (n : ℕ). max n c.time) was ∙ sym (latest_put xs i x c within read up) ∙ ap latest (sym written)
