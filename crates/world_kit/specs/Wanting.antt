-- When an event wants memory, and what a refused one leaves.
use Rattle.std.specs.Prelude.{◌≡◌, ◌⊎◌, [], slice_get, Option, None, Some, IfErr}
use Rattle.std.specs.FinMap.{empty}
use Rattle.agg_kit.specs.Entries.{Entry, entry_of}
use Rattle.agg_kit.specs.Feeds.{NoneCopies}
use Rattle.gossip_kit.specs.Views.{NodeModel}
use Rattle.plan_kit.specs.Plans.{feeds_of}
use Rattle.point_kit.specs.declared.export.Export.{Export}
use Rattle.recorder_kit.specs.Log.{ByName}
use Rattle.recorder_kit.specs.Log as log
use Rattle.world_kit.specs.declared.event.Event.{Event}
use Rattle.world_kit.specs.declared.event.Event.TheVariants as event
use Rattle.world_kit.specs.declared.event.Refusal.{Refusal}
use Rattle.world_kit.specs.declared.event.Refusal.TheVariants.{Overflow}
use Rattle.world_kit.specs.declared.event.Reply.{Reply}
use Rattle.world_kit.specs.declared.event.Reply.TheVariants as reply
use Rattle.world_kit.specs.declared.setup.Setup.{Setup}
use Rattle.world_kit.specs.WorldState.{WorldState, export_at}
use Rattle.world_kit.specs.Judged.{Deeds, judgement}
use Rattle.world_kit.specs.Setups.{writer_at}
use Rattle.world_kit.specs.Stands.{Stands}
use Rattle.writer_kit.specs.Written.{Written}

-- a refusal that takes memory to find: an overflow, where a feed of the instrument copies what it keeps of the set
abbrev pub TakesMemory : Setup → Event → Refusal → Type 0
TakesMemory s (event.Measure w i a v) (Overflow stream) = NoneCopies a (feeds_of (writer_at s w).plan i) → ⊥
TakesMemory s _ _ = ⊥

-- an event that wants memory is not refused, but for a refusal that takes memory to find
pub record Wants (event : Event) (w : WorldState) : Type 0 where
  pub accepted : (s : Setup) (ds : Deeds) → Stands s ds w → IfErr (judgement s ds event) (TakesMemory s event)

-- there is a writer that has the points of a recording, and no feed of the instrument copies what it keeps of the set
abbrev pub HasPoints : Entry → Option Written → Type 0
HasPoints e None = ⊥
HasPoints e (Some w) = log.TakesNoMemory w.tally (ByName e)

-- there is an export, and it has no points
abbrev pub IsWithoutPoints : Option Export → Type 0
IsWithoutPoints None = ⊥
IsWithoutPoints (Some e) = e.points ≡ []

-- there is a gateway, and it holds nothing
abbrev pub IsEmpty : Option NodeModel → Type 0
IsEmpty None = ⊥
IsEmpty (Some n) = n.gateway.points ≡ empty

-- an event that takes no memory, whether it is refused or not
abbrev pub TakesNoMemory : Event → WorldState → Type 0
TakesNoMemory (event.Measure w i a v) s = HasPoints (entry_of i a v) (slice_get s.writers w)
TakesNoMemory (event.Deliver x g) s = IsWithoutPoints (export_at s.exports x)
TakesNoMemory (event.Merge into from) s = (into ≡ from) ⊎ IsEmpty (slice_get s.nodes from)
TakesNoMemory _ s = ⊥

-- of a reply to a refused event
abbrev pub OnRefused : Reply → Type 0 → Type 0
OnRefused (reply.Refused r) P = P
OnRefused _ P = Unit {0}
