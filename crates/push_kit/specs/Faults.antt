-- Why a push is refused, memory and the exporter aside.
use Rattle.std.specs.Prelude.{ℕ, Option}
use Rattle.std.specs.Option.{option_map}
use Rattle.push_kit.specs.declared.fault.TickFault.{TickFault}
use Rattle.push_kit.specs.declared.fault.TickFault.TheVariants as tick
use Rattle.writer_kit.specs.Refusals.{collect_fault}
use Rattle.writer_kit.specs.Written.{Written}
use Rattle.writer_kit.specs.declared.fault.CollectFault.{CollectFault}
use Rattle.writer_kit.specs.declared.fault.CollectFault.TheVariants as collect

-- a refusal of the writer, as a refusal of a push
abbrev pub tick_fault : CollectFault → TickFault
tick_fault collect.Closed = tick.Closed
tick_fault (collect.TimeNotAfter last) = tick.TimeNotAfter last
tick_fault collect.NoMemory = tick.NoMemory

-- why a push at a time is refused: what the writer refuses
unfoldable pub push_fault : Written → ℕ → Option TickFault
push_fault w time = option_map tick_fault (collect_fault w time)
