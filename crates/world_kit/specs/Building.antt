-- How a world begins.
use Rattle.std.specs.Prelude.{ℕ, ◌==◌, List, [], ◌∷◌, ◌++◌, length, position, Option, None}
use Rattle.std.specs.FinMap.{empty}
use Rattle.std.specs.Option.{option_map, option_or}
use Rattle.attr_kit.specs.Refusing.{first}
use Rattle.gossip_kit.specs.Views.{NodeModel}
use Rattle.plan_kit.specs.Plans.{AreApart}
use Rattle.world_kit.specs.declared.event.Event.{Event}
use Rattle.world_kit.specs.declared.event.Reply.{Reply}
use Rattle.world_kit.specs.declared.fault.SetupFault.{SetupFault}
use Rattle.world_kit.specs.declared.fault.SetupFault.TheVariants.{SameGateway}
use Rattle.world_kit.specs.declared.setup.Setup.{Setup}
use Rattle.world_kit.specs.declared.setup.WriterSetup.{WriterSetup}
use Rattle.world_kit.specs.Judged.{Deeds, after, reply_to}
use Rattle.world_kit.specs.Stands.{WriterStands}
use Rattle.writer_kit.specs.Written.{Written}

-- the first of these ids that stands among earlier ones or earlier in the list, by its place, and the first place where it stands before it
abbrev pub same_gateway_from : List ℕ → List ℕ → Option (ℕ × ℕ)
same_gateway_from earlier [] = None
same_gateway_from earlier (id ∷ ids) = option_or (option_map (λ i. (i, length earlier)) (position (λ x. x == id) earlier)) (same_gateway_from (earlier ++ id ∷ []) ids)

-- the least place whose id stands earlier too, and the least such place before it
abbrev pub same_gateway : List ℕ → Option (ℕ × ℕ)
same_gateway ids = same_gateway_from [] ids

-- why a setup makes no world
unfoldable pub setup_fault : Setup → Option SetupFault
setup_fault s = first (option_map (λ p. SameGateway p.0 p.1) (same_gateway s.gateways) ∷ [])

-- a gateway that took nothing
abbrev pub fresh : ℕ → NodeModel
fresh id = record { gateway = record { id = id; points = empty; numbers = empty }; change = 0; acked = empty }

-- each writer is as its setup says, before any event, and no stream of its plan stands twice
abbrev pub AreStarted : List WriterSetup → List Written → Type 0
AreStarted [] [] = Unit {0}
AreStarted [] (w ∷ ws) = ⊥
AreStarted (s ∷ ss) [] = ⊥
AreStarted (s ∷ ss) (w ∷ ws) = WriterStands s [] w × AreApart s.plan.streams × AreStarted ss ws

-- the replies to events, in order, after what happened
abbrev pub replies_from : Setup → Deeds → List Event → List Reply
replies_from s ds [] = []
replies_from s ds (e ∷ E) = reply_to s ds e ∷ replies_from s (after s ds e) E

-- the replies to a schedule
abbrev pub replies : Setup → List Event → List Reply
replies s E = replies_from s [] E
