-- Why a schedule is not done to its end.
use Rattle.world_kit.specs.declared.fault.ReplayFault.{ReplayFault}
use Rattle.world_kit.specs.declared.fault.ReplayFault.TheVariants as replay
use Rattle.world_kit.specs.declared.fault.SetupFault.{SetupFault}
use Rattle.world_kit.specs.declared.fault.SetupFault.TheVariants as setup

-- a setup's fault, before any event
abbrev pub before_any : SetupFault → ReplayFault
before_any (setup.SameGateway first second) = replay.SameGateway first second
before_any setup.NoMemory = replay.NoMemory 0
