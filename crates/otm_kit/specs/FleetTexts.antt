-- What a fleet prints.
use Rattle.std.specs.Prelude.{ℕ, zero, suc, ℤ, pos, ◌+◌, ◌*◌, List, [], ◌∷◌, ◌++◌, codes}
use Rattle.std.specs.List.{flat_map}
use Rattle.std.specs.Fmt.{decimal, signed_decimal}
use Rattle.fleet_kit.specs.declared.fault.FleetFault.{FleetFault}
use Rattle.fleet_kit.specs.declared.fault.FleetFault.TheVariants as faults
use Rattle.gateway_kit.specs.GatewayState.{GatewayState}
use Rattle.otm_kit.specs.declared.fleet_end.FleetEnd.{FleetEnd}
use Rattle.otm_kit.specs.declared.fleet_end.FleetEnd.TheVariants as ends
use Rattle.rollup_kit.specs.Rollups.{rollup_rows}
use Rattle.rollup_kit.specs.declared.ask.Ask.{Ask}
use Rattle.rollup_kit.specs.declared.row.Row.{Row}
use Rattle.rollup_kit.specs.declared.row.Total.{Total}
use Rattle.rollup_kit.specs.declared.row.Total.TheVariants as totals

-- a fleet's fault, as the end of a report
abbrev pub end_of_fault : FleetFault → FleetEnd
end_of_fault faults.NoMemory = ends.NoMemory
end_of_fault fault = ends.Fleet fault

abbrev pub fault_text : FleetFault → List ℕ
fault_text (faults.Missing gateway writer) = codes "missing gateway " ++ decimal (gateway + 1) ++ codes " writer " ++ decimal writer
fault_text fault = codes "fleet failed"

-- what an end prints; gateways are named by their ids, which are their places and 1
abbrev pub end_text : FleetEnd → List ℕ
end_text (ends.Fleet fault) = fault_text fault
end_text ends.WriteFault = codes "write failed"
end_text ends.NoMemory = codes "no memory"

-- the sum of a total, 0 where it is of another shape
abbrev pub sum_of : Total → ℤ
sum_of (totals.Sum sum) = sum
sum_of total = pos 0

-- the sum in the first row, 0 where there is none
abbrev pub sum_in : List Row → ℤ
sum_in [] = pos 0
sum_in (row ∷ rows) = sum_of row.total

-- the line of the gateway of an id
unfoldable pub total_line : ℕ → ℤ → List ℕ
total_line id sum = codes "gateway " ++ decimal id ++ codes " total " ++ signed_decimal sum ++ 10 ∷ []

-- the line of a gateway, with the sum that it answers
abbrev pub answer_line : Ask → GatewayState → List ℕ
answer_line ask gateway = total_line gateway.id (sum_in (rollup_rows ask gateway.points))

-- the ids of gateways: 1, 2 and so on
abbrev pub fleet_ids : ℕ → List ℕ
fleet_ids zero = []
fleet_ids (suc n) = fleet_ids n ++ suc n ∷ []

-- a line for each gateway, in the order of their ids, all of one total
unfoldable pub fleet_text : ℕ → ℕ → List ℕ
fleet_text gateways total = flat_map (λ id. total_line id (pos total)) (fleet_ids gateways)

-- what so many writers report, each with so many recorders of so many recordings: every gateway has them all
abbrev pub report : ℕ → ℕ → ℕ → ℕ → List ℕ
report writers recorders each gateways = fleet_text gateways (writers * recorders * each)
