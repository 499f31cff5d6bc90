-- What holds of gateways that took the same exports, and why a schedule is not done to its end.
use Rattle.std.specs.Prelude.{◌≡◌, ℕ, ◌<◌, List, length, slice_get, None, Some}
use Rattle.gossip_kit.specs.Views.{NodeModel}
use Rattle.rollup_kit.specs.Rollups.{rollup_rows}
use Rattle.rollup_kit.specs.declared.ask.Ask.{Ask}
use Rattle.schedule_kit.specs.Deeds.{TookSame}
use Rattle.schedule_kit.specs.Deeds.Holder.{AtGateway}
use Rattle.world_kit.specs.declared.event.Event.{Event}
use Rattle.world_kit.specs.declared.fault.ReplayFault.{ReplayFault}
use Rattle.world_kit.specs.declared.fault.ReplayFault.TheVariants as replay
use Rattle.world_kit.specs.declared.fault.SetupFault.TheVariants as setup
use Rattle.world_kit.specs.declared.setup.Setup.{Setup}
use Rattle.world_kit.specs.Building.{setup_fault}
use Rattle.world_kit.specs.WorldState.{WorldState}
use Rattle.world_kit.specs.Judged.{Deeds}

-- gateways that took the same exports, in any order, with repeats and through any merges and mails, hold equal points
abbrev pub Converges : Deeds → WorldState → Type 0
Converges ds w = (g h : ℕ) (m n : NodeModel) → slice_get w.nodes g ≡ Some m → slice_get w.nodes h ≡ Some n → TookSame ds (AtGateway g) (AtGateway h) → m.gateway.points ≡ n.gateway.points

-- and answer every query alike
abbrev pub AnswersAlike : Deeds → WorldState → Type 0
AnswersAlike ds w = (g h : ℕ) (m n : NodeModel) → slice_get w.nodes g ≡ Some m → slice_get w.nodes h ≡ Some n → TookSame ds (AtGateway g) (AtGateway h)
    → (ask : Ask) → rollup_rows ask m.gateway.points ≡ rollup_rows ask n.gateway.points

-- why a schedule is not done to its end: its setup, or want of memory after so many events, of which there are some only under a setup without a fault, and not all
abbrev pub IsReplayFault : Setup → List Event → ReplayFault → Type 0
IsReplayFault s E (replay.SameGateway first second) = setup_fault s ≡ Some (setup.SameGateway first second)
IsReplayFault s E (replay.NoMemory done) = 0 < done → (done < length E) × (setup_fault s ≡ None)
