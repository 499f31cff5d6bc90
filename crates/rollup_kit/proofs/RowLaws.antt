-- Where what a gateway holds adds up to what was recorded, the rows are equal.
use Rattle.std.proofs.Common.{◌≡◌, ℕ, ℤ, List, map, Option, None, refl, ap, ◌∙◌}
use Rattle.std.specs.FinMap.{FinMap, entries}
use Rattle.point_kit.specs.Orders.{key_cmp}
use Rattle.point_kit.specs.declared.cell.Cell.{Cell}
use Rattle.point_kit.specs.declared.key.Key.{Key}
use Rattle.point_kit.specs.declared.payload.Payload.{Payload}
use Rattle.point_kit.specs.declared.shape.Shape.{Shape}
use Rattle.point_kit.specs.declared.shape.Shape.TheVariants as shapes
use Rattle.schedule_kit.specs.Rows as rows
use Rattle.rollup_kit.specs.Asks.{attributes_cmp, asks, group}
use Rattle.rollup_kit.specs.Parts.{Parts, no_parts, plus_parts, parts_of, parts_of_value}
use Rattle.rollup_kit.specs.Rollups.{AddsUp, total_of, row_of, newest, rollup_rows, recorded_rows}
use Rattle.rollup_kit.specs.declared.ask.Ask.{Ask}

-- the newest value plays no part in a total that adds up
total_same : (shape : Shape) (parts : Parts) (value : Option (ℕ × ℤ)) → AddsUp shape → total_of shape parts value ≡ total_of shape parts None
total_same (shapes.Sum monotonic) parts value h = refl
total_same shapes.Gauge parts value h = absurd h
total_same (shapes.Histogram bounds) parts value h = refl

map_same : {A B : Type 0} (f g : A → B) → ((x : A) → f x ≡ g x) → (xs : List A) → map f xs ≡ map g xs
map_same f g h xs = λ i. map (λ x. h x i) xs

pub rows_recorded : (ask : Ask) (state : FinMap key_cmp (Cell Payload)) (values : List (Key × ℤ)) (keys : List Key) → AddsUp ask.stream.shape
    → rows.rollup attributes_cmp no_parts plus_parts (asks ask) (group ask) parts_of state ≡ rows.recorded attributes_cmp no_parts plus_parts (asks ask) (group ask) (map (λ v. (v.0, parts_of_value ask.stream.shape v.1)) values) keys
    → rollup_rows ask state ≡ recorded_rows ask values keys
unfolding rollup_rows recorded_rows
rows_recorded ask state values keys h e =
    map_same (λ e. row_of ask e.0 e.1 (newest ask (entries state) e.0)) (λ e. row_of ask e.0 e.1 None)
    (λ e i. record { attrs = e.0; total = total_same ask.stream.shape e.1.total (newest ask (entries state) e.0) h i; points = e.1.points; conflicts = e.1.conflicts }) _
    ∙ ap (λ (m : FinMap attributes_cmp (rows.Row Parts)). map (λ e. row_of ask e.0 e.1 None) (entries m)) e
