-- What mails and books claim of the gateways that made them.
use Rattle.std.specs.Prelude.{◌≡◌, ℕ, ◌+◌, ◌<◌, ◌≤◌, min, is_some, List, slice_get, slice_index, Some}
use Rattle.std.specs.FinMap.{get}
use Rattle.gossip_kit.specs.Gossip.{last_number, numbered_to}
use Rattle.gossip_kit.specs.Views.{MessageModel, NodeModel}
use Rattle.point_kit.specs.Exports.{Points, join_points}
use Rattle.point_kit.specs.Join.{IsAtOrBelow}
use Rattle.schedule_kit.specs.Deeds.{Mail, mail_of}
use Rattle.schedule_kit.specs.Deeds.Holder.{AtGateway, InMail}
use Rattle.world_kit.specs.declared.setup.Setup.{Setup}
use Rattle.world_kit.specs.Judged.{Deeds, answers, changed_events}
use Rattle.world_kit.specs.Setups.{gateways_of}
use Rattle.world_kit.specs.States.{state_at}

-- the points have every cell that a node holds now under a number up to n, which the node has counted
pub record IsClaimed (node : NodeModel) (points : Points) (n : ℕ) : Type 0 where
  pub covers : IsAtOrBelow join_points (numbered_to node n) points
  pub past : n ≤ node.change
  pub small : n < last_number

-- joined into what its receiver has now, a mail brings what its sender had when it was sent. That state has all that a delta's sender holds under its number, and an Ack's maker has all that its receiver holds under its number
pub record MailClaims (s : Setup) (ds : Deeds) (ns : List NodeModel) (n : ℕ) (mail : Mail) (m : MessageModel) : Type 0 where
  pub from_there : mail.from < gateways_of s
  pub brings : join_points (state_at s ds (AtGateway mail.to)) m.points ≡ join_points (state_at s ds (AtGateway mail.to)) (state_at s ds (InMail n))
  pub answered : answers s ds n ≡ is_some m.delta
  pub delta : (k : ℕ) (node : NodeModel) → m.delta ≡ Some k → slice_get ns mail.from ≡ Some node → IsClaimed node (state_at s ds (InMail n)) k
  pub ack : (k : ℕ) (node : NodeModel) → m.ack ≡ Some k → slice_get ns mail.to ≡ Some node → IsClaimed node (state_at s ds (AtGateway mail.from)) k

-- each gateway counted the events that changed it, each peer in its books has all that it acknowledged, and each mail is as it claims
pub record GossipStands (s : Setup) (ds : Deeds) (ns : List NodeModel) (ms : List MessageModel) : Type 0 where
  pub change : (g : ℕ) (node : NodeModel) → slice_get ns g ≡ Some node → node.change ≡ min (changed_events s ds g) last_number
  pub books : (g h k : ℕ) (node : NodeModel) → slice_get ns g ≡ Some node → h < gateways_of s → get node.acked (slice_index s.gateways h) ≡ Some k → IsClaimed node (state_at s ds (AtGateway h)) k
  pub mails : (k : ℕ) (m : MessageModel) (mail : Mail) → slice_get ms k ≡ Some m → mail_of ds (k + 1) ≡ Some mail → MailClaims s ds ns (k + 1) mail m
