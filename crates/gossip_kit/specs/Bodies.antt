-- What a message carries.
use Rattle.std.specs.Prelude.{ℕ, Option, None, Some}
use Rattle.std.specs.FinMap.{empty}
use Rattle.point_kit.specs.Exports.{Points}
use Rattle.gossip_kit.specs.declared.message.Body.{Body}
use Rattle.gossip_kit.specs.declared.message.Body.TheVariants.{Whole, Delta, Ack}

-- the cells
abbrev pub cells_of : Body → Points
cells_of (Whole points) = points.points
cells_of (Delta number cells) = cells.points
cells_of (Ack number) = empty

-- of a delta its sender's change number
abbrev pub delta_of : Body → Option ℕ
delta_of (Whole points) = None
delta_of (Delta number cells) = Some number
delta_of (Ack number) = None

-- the number that is acknowledged
abbrev pub ack_of : Body → Option ℕ
ack_of (Whole points) = None
ack_of (Delta number cells) = None
ack_of (Ack number) = Some number
