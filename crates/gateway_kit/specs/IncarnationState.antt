-- What an incarnation is seen as.
use Rattle.std.specs.Prelude.{ℕ}
use Rattle.std.specs.FinMap.{FinMap}
use Rattle.point_kit.specs.declared.cell.Cell.{Cell}
use Rattle.point_kit.specs.declared.payload.Payload.{Payload}
use Rattle.point_kit.specs.declared.writer_id.WriterId.{WriterId}
use Rattle.gateway_kit.specs.Keys.{item_cmp}

-- the cells of an incarnation, by stream and attributes
abbrev pub Cells : Type 0
Cells = FinMap item_cmp (Cell Payload)

-- the numbers of its keys
abbrev pub Numbers : Type 0
Numbers = FinMap item_cmp ℕ

-- whose it is, since when it runs, its cells, and their numbers
pub record IncarnationState : Type 0 where
  pub writer : WriterId
  pub start : ℕ
  pub cells : Cells
  pub numbers : Numbers
