-- Two keys of one incarnation, of which an ask wants at most the first, come to the rows of that one.
use Rattle.std.proofs.Common.{◌≡◌, ℕ, ℤ, ◌+◌, Bool, true, false, ◌&&◌, cond, List, [], ◌∷◌, map, Option, Some, None, refl, ap, ◌∙◌}
use Rattle.std.specs.FinMap.{FinMap, entries}
use Rattle.std.specs.Ordering.{eq_by_cmp}
use Rattle.point_kit.specs.States.{tabulate}
use Rattle.point_kit.specs.declared.key.Key.{Key}
use Rattle.rollup_kit.specs.Asks.{Attributes, attributes_cmp, asks, group}
use Rattle.rollup_kit.specs.Parts.{Parts, no_parts, plus_parts, parts_of_value}
use Rattle.rollup_kit.specs.Rollups.{recorded_rows, row_of}
use Rattle.rollup_kit.specs.declared.ask.Ask.{Ask}
use Rattle.schedule_kit.specs.Rows as rows
use Rattle.schedule_kit.specs.Totals.{total_where}

module _ (ask : Ask) (values : List (Key × ℤ)) (k other w : Key) (asked : asks ask k ≡ asks ask w) (grouped : group ask k ≡ group ask w)
    (none : asks ask other ≡ false) where
  abbrev weighed : List (Key × Parts)
  weighed = map (λ v. (v.0, parts_of_value ask.stream.shape v.1)) values

  abbrev row : Attributes → ℕ → Option (rows.Row Parts)
  row g n = Some (record {
    total = total_where no_parts plus_parts (λ v. rows.in_row attributes_cmp no_parts plus_parts (asks ask) (group ask) g v.0) (λ v. v.1) weighed;
    points = n;
    conflicts = 0;
  })

  abbrev count : Bool → Attributes → Attributes → ℕ
  count b g own = cond (b && eq_by_cmp attributes_cmp g own) 1 0

  abbrev two : Bool → Bool → FinMap attributes_cmp (rows.Row Parts)
  two a b = tabulate attributes_cmp (map (group ask) (cond a (k ∷ cond b (other ∷ []) []) (cond b (other ∷ []) [])))
      (λ g. row g (count a g (group ask k) + (count b g (group ask other) + 0)))

  abbrev alone : Bool → FinMap attributes_cmp (rows.Row Parts)
  alone a = tabulate attributes_cmp (map (group ask) (cond a (w ∷ []) [])) (λ g. row g (count a g (group ask w) + 0))

  one_left : (a : Bool) → two a false ≡ alone a
  one_left true = λ n. tabulate attributes_cmp (grouped n ∷ []) (λ g. row g (count true g (grouped n) + 0))
  one_left false = refl

  pub alike : recorded_rows ask values (k ∷ other ∷ []) ≡ recorded_rows ask values (w ∷ [])
  unfolding recorded_rows
  alike = ap (λ (m : FinMap attributes_cmp (rows.Row Parts)). map (λ e. row_of ask e.0 e.1 None) (entries m)) ((λ n. two (asked n) (none n)) ∙ one_left (asks ask w))
