-- What of incarnations is numbered above a number.
use Rattle.std.specs.Prelude.{ℕ, nat_lt, List, map, filter}
use Rattle.std.specs.FinMap.{empty, entries, retain_keys}
use Rattle.gateway_kit.specs.Keys.{item_cmp}
use Rattle.gateway_kit.specs.Numbers.{number_in}
use Rattle.gateway_kit.specs.IncarnationState.{IncarnationState, Cells}
use Rattle.gateway_kit.specs.Incarnations.{has_cells}
use Rattle.gateway_kit.specs.declared.part_item.PartItem.{PartItem}

-- the items that are
abbrev pub newer : ℕ → List PartItem → List PartItem
newer number items = filter (λ (i : PartItem). nat_lt number i.number) items

-- the cells of the keys that are
abbrev pub recent_cells : ℕ → IncarnationState → Cells
recent_cells number p = retain_keys p.cells (λ q. nat_lt number (number_in item_cmp (entries p.numbers) q))

-- the incarnation with these cells alone, and no numbers
abbrev pub recent_incarnation : ℕ → IncarnationState → IncarnationState
recent_incarnation number p = record { writer = p.writer; start = p.start; cells = recent_cells number p; numbers = empty }

-- these of all incarnations that have any
abbrev pub recent_incarnations : ℕ → List IncarnationState → List IncarnationState
recent_incarnations number incarnations = filter has_cells (map (recent_incarnation number) incarnations)
