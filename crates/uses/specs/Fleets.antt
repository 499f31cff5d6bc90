-- What a fleet's gateways answer.
use Rattle.std.specs.Prelude.{◌⊎◌, List}
use Rattle.fleet_kit.specs.Setups.{entries_recorded, writers_of}
use Rattle.fleet_kit.specs.declared.setup.FleetSetup.{FleetSetup}
use Rattle.rollup_kit.specs.Writers.{AllWithin, IsRegrouped, rows_of}
use Rattle.rollup_kit.specs.declared.ask.Ask.{Ask}
use Rattle.rollup_kit.specs.declared.row.Row.{Row}

-- no writer has more sets than its limit, or the ask is for totals over all sets
abbrev pub IsTold : FleetSetup → Ask → Type 0
IsTold setup ask = AllWithin (writers_of setup) (entries_recorded setup) ⊎ IsRegrouped ask

-- the rows of all that the jobs record
abbrev pub rows_recorded : FleetSetup → Ask → List Row
rows_recorded setup ask = rows_of (writers_of setup) (entries_recorded setup) ask
