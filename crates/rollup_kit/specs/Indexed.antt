-- Rows that are found by a hash of their sets.
use Rattle.std.specs.Prelude.{◌≡◌, ℕ, ◌+◌, ◌<◌, ◌^◌, ◌++◌, ◌∷◌, [], cond, List, length, fold, nat_eq, slice_get, Some}
use Rattle.std.specs.Hash as fed
use Rattle.std.specs.Hash.{HashWrites}
use Rattle.std.specs.Hash.FoldHasher as folding
use Rattle.std.specs.List.{flat_map, IsDistinct}
use Rattle.std.specs.Map.{keys_of, lookup}
use Rattle.std.specs.Ordering.{eq_by_cmp}
use Rattle.indexmap.specs.IndexMap.{set_value_at}
use Rattle.attr_kit.specs.contracts.attr_value.AttrValueHash.TheImpl as values
use Rattle.attr_kit.specs.declared.attr_value.AttrValue.{AttrValue}
use Rattle.point_kit.specs.declared.cell.Cell.{Cell}
use Rattle.point_kit.specs.declared.payload.Payload.{Payload}
use Rattle.rollup_kit.specs.Asks.{Attributes, attributes_cmp}
use Rattle.rollup_kit.specs.Groups.{Grouped, no_group, with_held}
use Rattle.rollup_kit.specs.Walks.{Rows}

abbrev pub pair_writes : List ℕ × AttrValue → HashWrites
pair_writes p = fed.str p.0 ++ (values.ghosts).hash_input p.1

-- the hash of a set: that of its pairs, one after the other
unfoldable pub pairs_hash : Attributes → ℕ
pairs_hash set = folding.finish (fold folding.write folding.initial (flat_map pair_writes set))

-- no set has two rows, and of each row but the others the place is told under the hash of its set
pub record IsIndexed (rows others : Rows) (places : List (ℕ × ℕ)) : Type 0 where
  pub distinct : IsDistinct (eq_by_cmp attributes_cmp) (keys_of (rows ++ others))
  pub indexed : (place : ℕ) (set : Attributes) → slice_get (keys_of rows) place ≡ Some set → lookup (nat_eq (pairs_hash set)) places ≡ Some place

-- one point more can be counted in each row
abbrev pub EachHasRoom : Rows → Type 0
EachHasRoom rows = (place : ℕ) (e : Attributes × Grouped) → slice_get rows place ≡ Some e → (e.1.points + 1 < 2 ^ 64) × (e.1.conflicts + 1 < 2 ^ 64)

-- the cell is added to the row of the set, which stands at the place
abbrev pub AddsAt : ℕ → Attributes → Cell Payload → Rows → Rows → Type 0
AddsAt place set cell old new = (g : Grouped) × (slice_get old place ≡ Some (set, g)) × (new ≡ set_value_at old place (with_held g cell.time cell.held))

-- a row that begins with the cell
abbrev pub first_row : ℕ → Attributes → Cell Payload → Attributes × Grouped
first_row buckets set cell = (set, with_held (no_group buckets) cell.time cell.held)

-- the row stands at the end, and its place is told under its hash
abbrev pub Pushes : ℕ → Attributes × Grouped → Rows → Rows → List (ℕ × ℕ) → List (ℕ × ℕ) → Type 0
Pushes hash row old new places told = (new ≡ old ++ row ∷ []) × ((q : ℕ) → lookup (nat_eq q) told ≡ cond (nat_eq hash q) (Some (length old)) (lookup (nat_eq q) places))
