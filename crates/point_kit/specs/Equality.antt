-- `==` of payloads and cells, as a test in definitions.
use Rattle.std.specs.Prelude.{Bool}
use Rattle.point_kit.specs.declared.cell.Cell.{Cell}
use Rattle.point_kit.specs.declared.payload.Payload.{Payload}
use Rattle.point_kit.specs.contracts.cell.CellPartialEq.TheImpl as cells
use Rattle.point_kit.specs.contracts.payload.Payload as payload_type
use Rattle.point_kit.specs.contracts.payload.PayloadPartialEq.TheImpl as payloads

abbrev pub payload_eq : Payload → Payload → Bool
payload_eq = (payloads.ghosts).eq

abbrev pub cell_eq : Cell Payload → Cell Payload → Bool
cell_eq = (cells.ghosts payload_type.the_row payloads.ghosts payloads.dict).eq
