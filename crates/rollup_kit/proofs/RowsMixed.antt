-- Rows of recordings depend on which values and keys there are.
use Rattle.std.proofs.Common.{◌≡◌, ℤ, Bool, true, false, cond, ◌&&◌, ◌||◌, List, map, filter, Some, None, refl, sym, ap, ◌∙◌}
use Rattle.std.specs.List.{list_any}
use Rattle.std.specs.Ordering.{eq_by_cmp, int_eq}
use Rattle.std.specs.Cmp.{signed_Decides}
use Rattle.std.specs.FinMap.{FinMap, get, same_map, entries, get-from_entries}
use Rattle.attr_kit.specs.Exact.{IsExact, exact_pairs, exact_signed}
use Rattle.point_kit.specs.Exact.{exact_keys}
use Rattle.point_kit.specs.contracts.key.KeyPartialEq.TheImpl as keys
use Rattle.point_kit.specs.contracts.key.KeyEq.TheImpl.Laws as key_laws
use Rattle.point_kit.specs.declared.key.Key.{Key}
use Rattle.point_kit.proofs.StateLaws.{find-tabulated}
use Rattle.schedule_kit.specs.Rows as rows
use Rattle.rollup_kit.specs.Asks.{Attributes, attributes_cmp, asks, group}
use Rattle.rollup_kit.specs.Parts.{Parts, no_parts, plus_parts, parts_of_value}
use Rattle.rollup_kit.specs.Rollups.{row_of, recorded_rows}
use Rattle.rollup_kit.specs.declared.ask.Ask.{Ask}
use Rattle.rollup_kit.proofs.PartLaws.{parts_add_up}
use Rattle.rollup_kit.proofs.SetOrders.{sets_total, sets_exact}
use Rattle.schedule_kit.proofs.Mixed.{totals_mixed}
use Rattle.schedule_kit.proofs.Totals.{any_sum, any-total, total-map}
use Rattle.schedule_kit.specs.Mixed.{AreMixed}

abbrev key_eq : Key → Key → Bool
key_eq = (keys.ghosts).eq

key_own : (k : Key) → key_eq k k ≡ true
key_own k = key_laws.laws-law.refl k

abbrev value_eq : Key × ℤ → Key × ℤ → Bool
value_eq x y = key_eq x.0 y.0 && int_eq x.1 y.1

value_exact : IsExact value_eq
value_exact = exact_pairs exact_keys exact_signed

value_own : (v : Key × ℤ) → value_eq v v ≡ true
value_own v = ap (λ b. b && int_eq v.1 v.1) (key_own v.0) ∙ (signed_Decides v.1 v.1).1 refl

module _ (ask : Ask) where
  abbrev pub in_row : Attributes → Key → Bool
  in_row g k = rows.in_row attributes_cmp no_parts plus_parts (asks ask) (group ask) g k

  abbrev as_parts : List (Key × ℤ) → List (Key × Parts)
  as_parts values = map (λ v. (v.0, parts_of_value ask.stream.shape v.1)) values

  abbrev pub row_at : List (Key × ℤ) → List Key → Attributes → rows.Row Parts
  row_at values ks g = rows.recorded_row attributes_cmp no_parts plus_parts (asks ask) (group ask) (as_parts values) ks g

  abbrev table : List (Key × ℤ) → List Key → FinMap attributes_cmp (rows.Row Parts)
  table values ks = rows.recorded attributes_cmp no_parts plus_parts (asks ask) (group ask) (as_parts values) ks

  abbrev pub has_row : List Key → Attributes → Bool
  has_row ks g = list_any (eq_by_cmp attributes_cmp g) (map (group ask) (filter (asks ask) ks))

  at : (values : List (Key × ℤ)) (ks : List Key) (g : Attributes) → get (table values ks) g ≡ cond (has_row ks g) (Some (row_at values ks g)) None
  at values ks g = get-from_entries sets_total _ g ∙ find-tabulated sets_total sets_exact (λ h. Some (row_at values ks h)) g (map (group ask) (filter (asks ask) ks))

  -- where two recordings have a row, and what it comes to, are the same
  abbrev pub SameRows : List (Key × ℤ) → List (Key × ℤ) → List Key → List Key → Type 0
  SameRows vs us ks ls = (g : Attributes) → (has_row ks g ≡ has_row ls g) × (row_at vs ks g ≡ row_at us ls g)

  pub rows_same : (vs us : List (Key × ℤ)) (ks ls : List Key) → SameRows vs us ks ls → recorded_rows ask vs ks ≡ recorded_rows ask us ls
  unfolding recorded_rows
  rows_same vs us ks ls same =
      ap (λ (m : FinMap attributes_cmp (rows.Row Parts)). map (λ e. row_of ask e.0 e.1 None) (entries m))
      (same_map sets_total sets_exact (table vs ks) (table us ls) (λ g.
      at vs ks g ∙ ap (λ b. cond b (Some (row_at vs ks g)) None) (same g).0 ∙ ap (λ r. cond (has_row ls g) (Some r) None) (same g).1 ∙ sym (at us ls g)))

  pub rows_mixed : (vs us : List (Key × ℤ)) (ks ls : List Key) → AreMixed vs us → AreMixed ks ls → recorded_rows ask vs ks ≡ recorded_rows ask us ls
  rows_mixed vs us ks ls m n = rows_same vs us ks ls (λ g. (has g, λ i. record { total = sums g i; points = counts g i; conflicts = 0 }))
    where
      has : (g : Attributes) → has_row ks g ≡ has_row ls g
      has g =
          any-total (eq_by_cmp attributes_cmp g) (asks ask) (group ask) ks
          ∙ totals_mixed key_eq exact_keys key_own false ◌||◌ any_sum (λ k. asks ask k && eq_by_cmp attributes_cmp g (group ask k)) ks ls n
          ∙ sym (any-total (eq_by_cmp attributes_cmp g) (asks ask) (group ask) ls)

      sums : (g : Attributes) → (row_at vs ks g).total ≡ (row_at us ls g).total
      sums g =
          total-map no_parts plus_parts parts_add_up (λ (p : Key × Parts). cond (in_row g p.0) p.1 no_parts) (λ (v : Key × ℤ). (v.0, parts_of_value ask.stream.shape v.1)) vs
          ∙ totals_mixed value_eq value_exact value_own no_parts plus_parts parts_add_up (λ v. cond (in_row g v.0) (parts_of_value ask.stream.shape v.1) no_parts) vs us m
          ∙ sym (total-map no_parts plus_parts parts_add_up (λ (p : Key × Parts). cond (in_row g p.0) p.1 no_parts) (λ (v : Key × ℤ). (v.0, parts_of_value ask.stream.shape v.1)) us)

      counts : (g : Attributes) → (row_at vs ks g).points ≡ (row_at us ls g).points
      counts g = n (λ k. cond (in_row g k) 1 0)
