-- One more cell.
use Rattle.std.proofs.Common.{◌≡◌, ℕ, ◌+◌, Bool, true, false, cond, ◌&&◌, ◌||◌, List, [], ◌∷◌, ◌++◌, map, filter, None, refl, ap, ◌∙◌}
use Rattle.std.proofs.lemmas.Bool.{or_parts}
use Rattle.std.specs.List.{list_any, cons_option}
use Rattle.std.proofs.lemmas.List.Elements.{filter_map-append}
use Rattle.std.specs.declared.cmp.Ordering.TheVariants.{Less}
use Rattle.point_kit.specs.Orders.{key_cmp}
use Rattle.point_kit.specs.declared.payload.Payload.TheVariants as payloads
use Rattle.rollup_kit.specs.Newest.{Dated}
use Rattle.rollup_kit.proofs.Newest.{AllBelow}
use Rattle.std.specs.Ordering.{eq_by_cmp}
use Rattle.point_kit.specs.declared.cell.Cell.{Cell}
use Rattle.point_kit.specs.declared.cell.Held.{Held}
use Rattle.point_kit.specs.declared.cell.Held.TheVariants.{One, Conflict}
use Rattle.point_kit.specs.declared.key.Key.{Key}
use Rattle.point_kit.specs.declared.payload.Payload.{Payload}
use Rattle.schedule_kit.specs.Totals.{IsSum, total}
use Rattle.schedule_kit.specs.Rows as rows
use Rattle.schedule_kit.specs.Rows.{in_row, value_of, is_one, is_conflict}
use Rattle.schedule_kit.proofs.Totals.{total-append}
use Rattle.rollup_kit.specs.Asks.{Attributes, attributes_cmp, asks, group}
use Rattle.rollup_kit.specs.Parts.{Parts, no_parts, plus_parts, parts_of}
use Rattle.rollup_kit.specs.declared.ask.Ask.{Ask}
use Rattle.rollup_kit.specs.Standing.{row_among, is_row}
use Rattle.rollup_kit.specs.Rollups.{gauge_of, gauges_in}
use Rattle.rollup_kit.proofs.PartLaws.{parts_add_up, counts_add_up}

-- adding one more
module _ {V A : Type 0} (zero : V) (plus : V → V → V) (sum : IsSum zero plus) (f : A → V) where
  zero_right : (a : V) → plus a zero ≡ a
  zero_right a = sum.comm a zero ∙ sum.zero_left a

  pub total-snoc : (xs : List A) (x : A) → total zero plus f (xs ++ x ∷ []) ≡ plus (total zero plus f xs) (f x)
  total-snoc xs x = total-append zero plus sum f xs (x ∷ []) ∙ ap (plus (total zero plus f xs)) (zero_right (f x))

  pub total_none : (xs : List A) (x : A) → f x ≡ zero → total zero plus f (xs ++ x ∷ []) ≡ total zero plus f xs
  total_none xs x e = total-snoc xs x ∙ ap (plus (total zero plus f xs)) e ∙ zero_right _

-- the keys of cells are below a key
abbrev pub KeysBelow : Key → List (Key × Cell Payload) → Type 0
KeysBelow k [] = Unit {0}
KeysBelow k (x ∷ es) = (key_cmp x.0 k ≡ Less) × KeysBelow k es

module _ (ask : Ask) (q : Attributes) where
  -- whether a cell is in the row
  abbrev pub counts : Key × Cell Payload → Bool
  counts e = in_row attributes_cmp no_parts plus_parts (asks ask) (group ask) q e.0

  abbrev part : Key × Cell Payload → Parts
  part e = cond (counts e) (value_of no_parts parts_of e.1.held) no_parts

  abbrev one : Key × Cell Payload → ℕ
  one e = cond (counts e) (is_one e.1.held) 0

  abbrev conflict : Key × Cell Payload → ℕ
  conflict e = cond (counts e) (is_conflict e.1.held) 0

  -- a row with a cell that it counts
  pub row-counted : (es : List (Key × Cell Payload)) (e : Key × Cell Payload) → counts e ≡ true
      → row_among ask (es ++ e ∷ []) q ≡ record {
        total = plus_parts (row_among ask es q).total (value_of no_parts parts_of e.1.held);
        points = (row_among ask es q).points + is_one e.1.held;
        conflicts = (row_among ask es q).conflicts + is_conflict e.1.held;
      }
  row-counted es e is = λ i. record {
    total = (total-snoc no_parts plus_parts parts_add_up part es e ∙ ap (λ b. plus_parts (row_among ask es q).total (cond b (value_of no_parts parts_of e.1.held) no_parts)) is) i;
    points = (total-snoc 0 ◌+◌ counts_add_up one es e ∙ ap (λ b. (row_among ask es q).points + cond b (is_one e.1.held) 0) is) i;
    conflicts = (total-snoc 0 ◌+◌ counts_add_up conflict es e ∙ ap (λ b. (row_among ask es q).conflicts + cond b (is_conflict e.1.held) 0) is) i;
  }

  -- and with one that it does not
  pub row-skipped : (es : List (Key × Cell Payload)) (e : Key × Cell Payload) → counts e ≡ false → row_among ask (es ++ e ∷ []) q ≡ row_among ask es q
  row-skipped es e is = λ i. record {
    total = total_none no_parts plus_parts parts_add_up part es e (ap (λ b. cond b (value_of no_parts parts_of e.1.held) no_parts) is) i;
    points = total_none 0 ◌+◌ counts_add_up one es e (ap (λ b. cond b (is_one e.1.held) 0) is) i;
    conflicts = total_none 0 ◌+◌ counts_add_up conflict es e (ap (λ b. cond b (is_conflict e.1.held) 0) is) i;
  }

  -- whether there is a row
  pub is_row-snoc : (es : List (Key × Cell Payload)) (e : Key × Cell Payload) → is_row ask (es ++ e ∷ []) q ≡ (is_row ask es q || counts e)
  is_row-snoc [] e =
      elim (asks ask e.0) as (λ a. list_any (eq_by_cmp attributes_cmp q) (map (λ e. group ask e.0) (cond a (e ∷ []) [])) ≡ (a && eq_by_cmp attributes_cmp q (group ask e.0))) [
        | true ↦ elim (eq_by_cmp attributes_cmp q (group ask e.0)) as (λ b. (b || false) ≡ b) [ true ↦ refl | false ↦ refl ]
        | false ↦ refl
      ]
  is_row-snoc (x ∷ es) e =
      elim (asks ask x.0) as (λ a. list_any (eq_by_cmp attributes_cmp q) (map (λ e. group ask e.0) (cond a (x ∷ filter (λ e. asks ask e.0) (es ++ e ∷ [])) (filter (λ e. asks ask e.0) (es ++ e ∷ []))))
      ≡ (list_any (eq_by_cmp attributes_cmp q) (map (λ e. group ask e.0) (cond a (x ∷ filter (λ e. asks ask e.0) es) (filter (λ e. asks ask e.0) es))) || counts e)) [
        | true ↦ elim (eq_by_cmp attributes_cmp q (group ask x.0)) as (λ b. (b || is_row ask (es ++ e ∷ []) q) ≡ ((b || is_row ask es q) || counts e)) [ true ↦ refl | false ↦ is_row-snoc es e ]
        | false ↦ is_row-snoc es e
      ]

  no_row_parts : (x : Key × Cell Payload) (es : List (Key × Cell Payload)) → is_row ask (x ∷ es) q ≡ false → (counts x ≡ false) × (is_row ask es q ≡ false)
  no_row_parts x es h =
      elim (asks ask x.0) as (λ a. list_any (eq_by_cmp attributes_cmp q) (map (λ e. group ask e.0) (cond a (x ∷ filter (λ e. asks ask e.0) es) (filter (λ e. asks ask e.0) es))) ≡ false
      → ((a && eq_by_cmp attributes_cmp q (group ask x.0)) ≡ false) × (is_row ask es q ≡ false)) [
        | true ↦ λ h. or_parts (eq_by_cmp attributes_cmp q (group ask x.0)) (is_row ask es q) h
        | false ↦ λ h. (refl, h)
      ] h

  -- where there is no row, nothing is counted
  pub no_row : (es : List (Key × Cell Payload)) → is_row ask es q ≡ false → (row_among ask es q ≡ record { total = no_parts; points = 0; conflicts = 0 }) × (gauges_in ask es q ≡ [])
  no_row [] h = (refl, refl)
  no_row (x ∷ es) h =
      let parts = no_row_parts x es h in
      let rest = no_row es parts.1 in
      let total_is : plus_parts (part x) (row_among ask es q).total ≡ no_parts = ap (λ b. plus_parts (cond b (value_of no_parts parts_of x.1.held) no_parts) (row_among ask es q).total) parts.0 ∙ parts_add_up.zero_left _ ∙ ap (λ (r : rows.Row Parts). r.total) rest.0 in
      let points_are : one x + (row_among ask es q).points ≡ 0 = ap (λ b. cond b (is_one x.1.held) 0 + (row_among ask es q).points) parts.0 ∙ counts_add_up.zero_left _ ∙ ap (λ (r : rows.Row Parts). r.points) rest.0 in
      let conflicts_are : conflict x + (row_among ask es q).conflicts ≡ 0 = ap (λ b. cond b (is_conflict x.1.held) 0 + (row_among ask es q).conflicts) parts.0 ∙ counts_add_up.zero_left _ ∙ ap (λ (r : rows.Row Parts). r.conflicts) rest.0 in (
        λ i. record { total = total_is i; points = points_are i; conflicts = conflicts_are i },
        ap (λ b. cons_option (cond b (gauge_of x.0 x.1.time x.1.held) None) (gauges_in ask es q)) parts.0 ∙ rest.1,
      )

  -- the gauges with one more cell
  pub gauges-snoc : (es : List (Key × Cell Payload)) (e : Key × Cell Payload) → gauges_in ask (es ++ e ∷ []) q ≡ gauges_in ask es q ++ cons_option (cond (counts e) (gauge_of e.0 e.1.time e.1.held) None) []
  gauges-snoc es e = filter_map-append (λ e. cond (counts e) (gauge_of e.0 e.1.time e.1.held) None) es (e ∷ [])

  gauge_below : (k key : Key) (time : ℕ) (held : Held Payload) (b : Bool) (ds : List (Dated Key)) → key_cmp key k ≡ Less → AllBelow key_cmp k ds → AllBelow key_cmp k (cons_option (cond b (gauge_of key time held) None) ds)
  gauge_below k key time held false ds l a = a
  gauge_below k key time (One (payloads.Gauge value)) true ds l a = (l, a)
  gauge_below k key time (One (payloads.Sum sum)) true ds l a = a
  gauge_below k key time (One (payloads.Hist count sum buckets range)) true ds l a = a
  gauge_below k key time Conflict true ds l a = a

  -- and so are those of the gauges among them
  pub gauges_below : (k : Key) (es : List (Key × Cell Payload)) → KeysBelow k es → AllBelow key_cmp k (gauges_in ask es q)
  gauges_below k [] h = tt
  gauges_below k (x ∷ es) h = gauge_below k x.0 x.1.time x.1.held (counts x) (gauges_in ask es q) h.0 (gauges_below k es h.1)
