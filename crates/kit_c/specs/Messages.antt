-- What gateways send, and what they make of messages.
use Rattle.std.specs.Prelude.{◌≡◌, ℕ, Option, Some, None, IsSome}
use Rattle.std.specs.FinMap as finite
use Rattle.std.specs.Option.{option_map}
use Rattle.gossip_kit.specs.Gossip.{acked_after, acknowledged, answer_of, carried_to, delta_to, hand_fault, Brings, CarriesHeld}
use Rattle.gossip_kit.specs.Views.{MessageModel, NodeModel}
use Rattle.kit_c.specs.Gateways.{Joins}
use Rattle.kit_c.specs.declared.fault.Fault.{Fault}
use Rattle.kit_c.specs.declared.fault.Fault.TheVariants as faults

-- a message of a gateway to an id: what it carries is held there, and brings all that the id did not acknowledge
pub record Tells (n : NodeModel) (to : ℕ) (m : MessageModel) : Type 0 where
  pub from : m.from ≡ n.gateway.id
  pub goes_to : m.to ≡ to
  pub points : m.points ≡ carried_to n to
  pub delta : m.delta ≡ delta_to n
  pub ack : m.ack ≡ None
  pub held : CarriesHeld m.points n.gateway.points
  pub brings : Brings m.points (acknowledged n to) n.gateway.points

abbrev pub IsMessageTo : ℕ → Option NodeModel → Option MessageModel → Type 0
IsMessageTo to (Some n) (Some m) = Tells n to m
IsMessageTo to m n = ⊥

-- why a gateway is not handed a message
abbrev pub handing_fault : NodeModel → MessageModel → Option Fault
handing_fault n m = option_map (λ f. faults.Hand f) (hand_fault n m)

-- a gateway was handed a message: it is then the third
abbrev pub HasHeard : Option NodeModel → Option MessageModel → Option NodeModel → Type 0
HasHeard (Some n) (Some m) (Some after) = Joins m.points (acked_after n m) n after
HasHeard m other after = ⊥

-- the message that a gateway answers a message with, if with one
abbrev pub answer_in : Option NodeModel → Option MessageModel → Option MessageModel
answer_in (Some n) (Some m) = answer_of n m
answer_in m other = None

-- a message is from one id to another, and carries so many points
abbrev pub IsFromTo : ℕ → ℕ → ℕ → MessageModel → Type 0
IsFromTo from to points m = (from ≡ m.from) × (to ≡ m.to) × (points ≡ finite.len m.points)

-- a message is an Ack of an id that acknowledged before: it wants no room
abbrev pub IsAckKnown : NodeModel → MessageModel → Type 0
IsAckKnown n m = IsSome m.ack × IsSome (finite.get n.acked m.from)

abbrev pub KnowsAck : Option NodeModel → Option MessageModel → Type 0
KnowsAck (Some n) (Some m) = IsAckKnown n m
KnowsAck n m = ⊥
