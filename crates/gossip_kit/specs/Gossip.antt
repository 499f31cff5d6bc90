-- What nodes number and acknowledge, what a message brings, and why a node refuses one.
use Rattle.std.specs.Prelude.{◌≡◌, ◌≢◌, ℕ, ◌+◌, ◌^◌, min, max, nat_lt, nat_le, not, ◌==◌, if◌then◌else◌, List, [], ◌∷◌, Option, Some, None}
use Rattle.std.specs.FinMap.{FinMap, get, empty, insert, retain_keys}
use Rattle.std.specs.Option.{option_map, option_map_or, unwrap_or}
use Rattle.std.specs.Ordering.{nat_cmp}
use Rattle.attr_kit.specs.Refusing.{first, when}
use Rattle.point_kit.specs.declared.cell.Cell.{Cell}
use Rattle.point_kit.specs.declared.key.Key.{Key}
use Rattle.point_kit.specs.declared.payload.Payload.{Payload}
use Rattle.point_kit.specs.declared.stream.Stream.{Stream}
use Rattle.point_kit.specs.declared.writer_id.WriterId.{WriterId}
use Rattle.point_kit.specs.Exports.{Points, join_points}
use Rattle.point_kit.specs.Join.{IsAtOrBelow}
use Rattle.point_kit.specs.Orders.{key_cmp}
use Rattle.gateway_kit.specs.GatewayState.{GatewayState}
use Rattle.gateway_kit.specs.Queries.{is_of_incarnation, is_of_other_stream}
use Rattle.gossip_kit.specs.Views.{MessageModel, NodeModel}
use Rattle.gossip_kit.specs.declared.fault.HandFault.{HandFault}
use Rattle.gossip_kit.specs.declared.fault.HandFault.TheVariants.{NotAddressed}

-- where change numbers end
abbrev pub last_number : ℕ
last_number = 2 ^ 62

-- the number of the next change
abbrev pub next_number : ℕ → ℕ
next_number n = min (n + 1) last_number

-- the number of the change at which the cell of a key changed last, 0 where it did not change in this node
abbrev pub number_of : NodeModel → Key → ℕ
number_of node k = unwrap_or (get node.gateway.numbers k) 0

-- a node of a gateway before any change: no key is numbered, and nobody acknowledged anything
abbrev pub first_node : GatewayState → NodeModel
first_node gateway = record { gateway = record gateway { numbers = empty }; change = 0; acked = empty }

-- one call numbers what it changed: each key that has another cell gets the number of the change, and no other key another number
pub record Renumbers (old new : NodeModel) : Type 0 where
  pub kept : (k : Key) → get new.gateway.points k ≡ get old.gateway.points k → number_of new k ≡ number_of old k
  pub renumbered : (k : Key) → get new.gateway.points k ≢ get old.gateway.points k → number_of new k ≡ new.change
  pub same : new.gateway.points ≡ old.gateway.points → new.change ≡ old.change
  pub raised : new.gateway.points ≢ old.gateway.points → new.change ≡ next_number old.change

-- the cells that are numbered up to n
abbrev pub numbered_to : NodeModel → ℕ → Points
numbered_to node n = retain_keys node.gateway.points (λ k. nat_le (number_of node k) n)

-- the cells that are numbered above n
abbrev pub numbered_above : NodeModel → ℕ → Points
numbered_above node n = retain_keys node.gateway.points (λ k. nat_lt n (number_of node k))

-- what the node of an id has acknowledged to this one: its cells numbered up to the greatest number of a handed Ack of that id
abbrev pub acknowledged : NodeModel → ℕ → Points
acknowledged node to = option_map_or (numbered_to node) (get node.acked to) empty

-- the cells that are numbered above the greatest number that the node of an id acknowledged, or all where it acknowledged none
abbrev pub recent_to : NodeModel → ℕ → Points
recent_to node to = option_map_or (numbered_above node) (get node.acked to) node.gateway.points

-- what a message to the node of an id carries: these, and all where the numbers ended
unfoldable pub carried_to : NodeModel → ℕ → Points
carried_to node to = if nat_lt node.change last_number then recent_to node to else node.gateway.points

-- the number that a message asks to be acknowledged: none where the numbers ended
unfoldable pub delta_to : NodeModel → Option ℕ
delta_to node = if nat_lt node.change last_number then Some node.change else None

-- the answer of a node to a message: to a delta an Ack of its number, to no other message one
abbrev pub answer_of : NodeModel → MessageModel → Option MessageModel
answer_of node message = option_map (λ n. record { from = node.gateway.id; to = message.from; points = empty; delta = None; ack = Some n }) message.delta

-- what an id acknowledged, raised to a number, and never lowered
abbrev pub raised_to : FinMap nat_cmp ℕ → ℕ → ℕ → FinMap nat_cmp ℕ
raised_to acked id n = insert acked id (max (unwrap_or (get acked id) 0) n)

-- what peers have acknowledged after a message was handed: an Ack alone raises what its sender acknowledged
abbrev pub acked_after : NodeModel → MessageModel → FinMap nat_cmp ℕ
acked_after node message = option_map_or (raised_to node.acked message.from) message.ack node.acked

-- what is kept under all keys but those of one incarnation of a writer
abbrev pub without_incarnation : {V : Type 0} → WriterId → ℕ → FinMap key_cmp V → FinMap key_cmp V
without_incarnation writer start m = retain_keys m (λ k. not (is_of_incarnation writer start k))

-- nor what of it is of other streams than one
abbrev pub without_other_streams : {V : Type 0} → WriterId → ℕ → Stream → FinMap key_cmp V → FinMap key_cmp V
without_other_streams writer start stream m = retain_keys m (λ k. not (is_of_other_stream writer start stream k))

-- each cell that is carried is held under the same key
abbrev pub CarriesHeld : Points → Points → Type 0
CarriesHeld carried held = (k : Key) (c : Cell Payload) → get carried k ≡ Some c → get held k ≡ Some c

-- joined into anything that has what was acknowledged, what is carried brings it to or above what is held
abbrev pub Brings : Points → Points → Points → Type 0
Brings carried acked held = (p : Points) → IsAtOrBelow join_points acked p → IsAtOrBelow join_points held (join_points p carried)

-- the refusals of a message that is handed to a node
abbrev pub hand_faults : NodeModel → MessageModel → List (Option HandFault)
hand_faults node message = when (not (message.to == node.gateway.id)) NotAddressed ∷ []

-- the first that fits
unfoldable pub hand_fault : NodeModel → MessageModel → Option HandFault
hand_fault node message = first (hand_faults node message)
