-- Histories of nodes that forget: what happened, and what each call made of a node, as its contract tells.
use Rattle.std.specs.Prelude.{◌≡◌, ◌≢◌, ℕ, ◌+◌, ◌<◌, ◌⊎◌, Bool, true, false, ◌&&◌, if◌then◌else◌, List, [], ◌∷◌, Some, None}
use Rattle.std.specs.FinMap.{get, empty}
use Rattle.archive_kit.specs.Showing.{hides, shown}
use Rattle.archive_kit.specs.Stepping.{AreHidden, Drops, Joins}
use Rattle.archive_kit.specs.Tombstones.{names_key, stream_eq, set_eq}
use Rattle.archive_kit.specs.Written.{is_tombstone_name}
use Rattle.gateway_kit.specs.Keys.{ItemKey, whole_key}
use Rattle.gossip_kit.specs.Gossip.{acked_after, answer_of, carried_to, delta_to, first_node}
use Rattle.gossip_kit.specs.Views.{MessageModel, NodeModel}
use Rattle.point_kit.specs.declared.cell.Cell.{Cell}
use Rattle.point_kit.specs.declared.export.Export.{Export}
use Rattle.point_kit.specs.declared.key.Key.{Key}
use Rattle.point_kit.specs.declared.payload.Payload.{Payload}
use Rattle.point_kit.specs.declared.writer_id.WriterId.{WriterId}
use Rattle.point_kit.specs.Equality.{payload_eq}
use Rattle.point_kit.specs.Exports.{Points, points_of, state}
use Rattle.point_kit.specs.Orders.{key_cmp}
use Rattle.schedule_kit.specs.Deeds.{Deed, Made, Holder, made, mails, AreLawful, IsTold}
use Rattle.schedule_kit.specs.Deeds.Deed.{Wrote, Delivered, Merged, Sent, Handed}
use Rattle.schedule_kit.specs.Members.{In}
use Rattle.schedule_kit.specs.Rounds as rounds
use Rattle.schedule_kit.specs.Rounds.{Rounding, IsSound}
use Rattle.schedule_kit.specs.Taken.{made_of, taken_collections}

-- a deed of a world; or a node dropped keys
pub data Step (N : Type 0) : Type 0 where
  Did : (deed : Deed N) → Step N
  Forgot : (gateway : ℕ) (gone : Key → Bool) → Step N

-- the deeds among steps, the newest first as these are
abbrev pub deeds : {N : Type 0} → List (Step N) → List (Deed N)
deeds [] = []
deeds (Did deed ∷ ss) = deed ∷ deeds ss
deeds (Forgot g gone ∷ ss) = deeds ss

-- writers by their places: the identity of each, and which names and payloads its entries feed
pub record Writing (N : Type 0) : Type 0 where
  pub who : ℕ → WriterId
  pub names : ℕ → List N → List ItemKey
  pub payload : ℕ → List N → ItemKey → Payload

-- their collections, under the keys of points
abbrev pub rounding : {N : Type 0} → Writing N → Rounding N Key WriterId ItemKey Payload
rounding s = record {
  order = key_cmp;
  same = payload_eq;
  same_name = λ x y. stream_eq x.0 y.0 && set_eq x.1 y.1;
  key = λ i start x. whole_key (i, start) x;
  who = s.who;
  names = s.names;
  payload = s.payload;
}

-- none of them writes tombstones
abbrev pub HaveNoTombstones : {N : Type 0} → Writing N → Type 0
HaveNoTombstones {N} s = (w : ℕ) (h : List N) (x : ItemKey) → In x (s.names w h) → is_tombstone_name x ≡ false

-- what was seen: the node at a place after steps, the export of a collection's number, and the mail of a number
pub record Seen (N : Type 0) : Type 0 where
  pub node : List (Step N) → ℕ → NodeModel
  pub export : ℕ → Export
  pub mail : ℕ → MessageModel

-- a node of an empty gateway
abbrev pub IsBegun : NodeModel → Type 0
IsBegun node = node ≡ first_node (record { id = node.gateway.id; points = empty; numbers = empty })

-- a node left points out, since it hides all of them
pub record Skips (brought : Points) (old new : NodeModel) : Type 0 where
  pub same : new ≡ old
  pub hidden : (k : Key) (c : Cell Payload) → get brought k ≡ Some c → hides names_key old.gateway.points k ≡ true

-- a mail is what a node makes for the node of an id, as `send` does
pub record Sends (node : NodeModel) (id : ℕ) (mail : MessageModel) : Type 0 where
  pub from : mail.from ≡ node.gateway.id
  pub to : mail.to ≡ id
  pub points : mail.points ≡ carried_to node id
  pub delta : mail.delta ≡ delta_to node
  pub ack : mail.ack ≡ None

module _ {N : Type 0} (s : Writing N) (starts : List ℕ) (seen : Seen N) where
  -- one more step leaves every node as it was, or every node but one
  abbrev pub AllStay : List (Step N) → Step N → Type 0
  AllStay ss step = (h : ℕ) → seen.node (step ∷ ss) h ≡ seen.node ss h

  abbrev pub OthersStay : List (Step N) → Step N → ℕ → Type 0
  OthersStay ss step g = (h : ℕ) → h ≢ g → seen.node (step ∷ ss) h ≡ seen.node ss h

  -- the export of a number has the points of its collection
  abbrev pub IsExported : List (Deed N) → ℕ → Type 0
  IsExported ds x = (m : Made N) × (made_of (made starts ds) x ≡ Some m) × (points_of (seen.export x) ≡ rounds.points (rounding s) m)

  -- what one more step makes of nodes, and of a mail that it makes: `old` and `new` are the node that it is about
  abbrev pub Takes : List (Deed N) → ℕ → NodeModel → NodeModel → Type 0
  Takes ds x old new =
      IsExported ds x × (Joins (state (seen.export x ∷ [])) old.acked old new ⊎ Skips (state (seen.export x ∷ [])) old new)

  abbrev pub Hears : List (Deed N) → ℕ → Bool → NodeModel → NodeModel → Type 0
  Hears ds m answered old new =
      Joins (seen.mail m).points (acked_after old (seen.mail m)) old new
      × (answer_of old (seen.mail m) ≡ (if answered then Some (seen.mail (mails ds + 1)) else None))

  abbrev pub Forgets : (Key → Bool) → NodeModel → NodeModel → Type 0
  Forgets gone old new = AreHidden gone old.gateway.points × Drops gone old new

  abbrev pub Happens : List (Step N) → Step N → Type 0
  Happens ss (Did (Wrote w act)) = AllStay ss (Did (Wrote w act))
  Happens ss (Did (Delivered x g)) =
      Takes (deeds ss) x (seen.node ss g) (seen.node (Did (Delivered x g) ∷ ss) g) × OthersStay ss (Did (Delivered x g)) g
  Happens ss (Did (Merged into from)) =
      Joins (seen.node ss from).gateway.points (seen.node ss into).acked (seen.node ss into) (seen.node (Did (Merged into from) ∷ ss) into)
      × OthersStay ss (Did (Merged into from)) into
  Happens ss (Did (Sent from to)) =
      Sends (seen.node ss from) (seen.node ss to).gateway.id (seen.mail (mails (deeds ss) + 1)) × AllStay ss (Did (Sent from to))
  Happens ss (Did (Handed m g answered)) =
      Hears (deeds ss) m answered (seen.node ss g) (seen.node (Did (Handed m g answered) ∷ ss) g)
      × OthersStay ss (Did (Handed m g answered)) g
  Happens ss (Forgot g gone) = Forgets gone (seen.node ss g) (seen.node (Forgot g gone ∷ ss) g) × OthersStay ss (Forgot g gone) g

  -- nodes began empty, and each step happened after those before it
  abbrev pub HaveHappened : List (Step N) → Type 0
  HaveHappened [] = (g : ℕ) → IsBegun (seen.node [] g)
  HaveHappened (step ∷ ss) = Happens ss step × HaveHappened ss

  -- a history of so many nodes: its deeds are lawful, no two nodes have one id, and it happened
  pub record IsHistory (fits : ℕ → List N → N → Bool) (gateways : ℕ) (ss : List (Step N)) : Type 0 where
    pub lawful : AreLawful fits starts gateways (deeds ss)
    pub apart : (g h : ℕ) → g < gateways → h < gateways → (seen.node [] g).gateway.id ≡ (seen.node [] h).gateway.id → g ≡ h
    pub happened : HaveHappened ss

  -- what the node at a place holds after steps
  abbrev pub points_at : List (Step N) → ℕ → Points
  points_at ss g = (seen.node ss g).gateway.points

  -- the state of the exports that a holder took, by itself, by merges or by mails
  abbrev pub state_at : List (Step N) → Holder → Points
  state_at ss h = rounds.state (rounding s) (taken_collections starts (deeds ss) h)

-- a history: who writes what, when each writer began, what was seen, which entries writers take, how many nodes there are, and the
-- steps
pub record History (N : Type 0) : Type 0 where
  pub writing : Writing N
  pub starts : List ℕ
  pub seen : Seen N
  pub fits : ℕ → List N → N → Bool
  pub gateways : ℕ
  pub steps : List (Step N)
  pub is : IsHistory writing starts seen fits gateways steps

module _ {N : Type 0} (h : History N) where
  -- their collections are sound
  abbrev pub HasSoundRounds : Type 0
  HasSoundRounds = IsSound (rounding h.writing)

  -- no two writers share an identity, archives among them
  abbrev pub HasIdentities : Type 0
  HasIdentities = IsTold h.writing.who h.starts

  -- what a node holds in the end, and the state of the exports that a holder took
  abbrev pub held_by : ℕ → Points
  held_by g = points_at h.writing h.starts h.seen h.steps g

  abbrev pub taken_by : Holder → Points
  taken_by holder = state_at h.writing h.starts h.seen h.steps holder

  -- what a node shows
  abbrev pub shown_by : ℕ → Points
  shown_by g = shown names_key (held_by g)
