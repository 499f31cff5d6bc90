-- A world stands for what happened in it.
use Rattle.std.specs.Prelude.{◌≡◌, ℕ, ◌+◌, ◌<◌, not, List, length, slice_get, slice_index, Some}
use Rattle.agg_kit.specs.Entries.{Entry}
use Rattle.agg_kit.specs.Rounds.{StandsFor}
use Rattle.gossip_kit.specs.Views.{MessageModel, NodeModel}
use Rattle.point_kit.specs.declared.export.Export.{Export}
use Rattle.schedule_kit.specs.Deeds.{Made, Mail, acts_of, made, mails, mail_of, AreLawful}
use Rattle.schedule_kit.specs.Deeds.Holder.{AtGateway}
use Rattle.schedule_kit.specs.Schedule.{Act, start_of, last_of, is_open, running}
use Rattle.schedule_kit.specs.Taken.{made_of}
use Rattle.world_kit.specs.declared.event.Event.{Event}
use Rattle.world_kit.specs.declared.event.Reply.{Reply}
use Rattle.world_kit.specs.declared.setup.Setup.{Setup}
use Rattle.world_kit.specs.declared.setup.WriterSetup.{WriterSetup}
use Rattle.world_kit.specs.Claims.{GossipStands}
use Rattle.world_kit.specs.WorldState.{WorldState}
use Rattle.world_kit.specs.Judged.{Deeds, after, fits_at, reply_to}
use Rattle.world_kit.specs.Setups.{ArePlans, writer_at, starts_of, gateways_of}
use Rattle.world_kit.specs.States.{IsExportOf, state_at}
use Rattle.writer_kit.specs.Written.{Written}

-- a writer has the identity and the plan of its setup, and what its events give
pub record WriterStands (setup : WriterSetup) (acts : List (Act Entry)) (w : Written) : Type 0 where
  pub id : w.id ≡ setup.id
  pub plan : w.tally.plan ≡ setup.plan
  pub tally : StandsFor w.tally (running setup.start acts)
  pub start : w.start ≡ start_of setup.start acts
  pub last : w.last ≡ last_of setup.start acts
  pub closed : w.closed ≡ not (is_open acts)

-- each writer, by its place
pub record WritersStand (s : Setup) (ds : Deeds) (ws : List Written) : Type 0 where
  pub count : length ws ≡ length s.writers
  pub each : (i : ℕ) (w : Written) → slice_get ws i ≡ Some w → WriterStands (writer_at s i) (acts_of i ds) w

-- each gateway has the id of the setup, and the state of the exports that it took
pub record NodesStand (s : Setup) (ds : Deeds) (ns : List NodeModel) : Type 0 where
  pub count : length ns ≡ gateways_of s
  pub id : (g : ℕ) (n : NodeModel) → slice_get ns g ≡ Some n → n.gateway.id ≡ slice_index s.gateways g
  pub points : (g : ℕ) (n : NodeModel) → slice_get ns g ≡ Some n → n.gateway.points ≡ state_at s ds (AtGateway g)

-- each export is that of the collection of its number
pub record ExportsStand (s : Setup) (ds : Deeds) (es : List Export) : Type 0 where
  pub count : length es ≡ length (made (starts_of s) ds)
  pub each : (k : ℕ) (e : Export) → slice_get es k ≡ Some e → (m : Made Entry) × (made_of (made (starts_of s) ds) (k + 1) ≡ Some m) × IsExportOf s m e

-- a mail goes from the gateway that sent it to the one to which it was sent
pub record MailStands (s : Setup) (ds : Deeds) (n : ℕ) (m : MessageModel) : Type 0 where
  pub mail : Mail
  pub known : mail_of ds n ≡ Some mail
  pub from : m.from ≡ slice_index s.gateways mail.from
  pub to : m.to ≡ slice_index s.gateways mail.to
  pub there : mail.to < gateways_of s

-- each mail, by its number
pub record MailsStand (s : Setup) (ds : Deeds) (ms : List MessageModel) : Type 0 where
  pub count : length ms ≡ mails ds
  pub each : (k : ℕ) (m : MessageModel) → slice_get ms k ≡ Some m → MailStands s ds (k + 1) m

-- no two gateways of a setup have one id
abbrev pub AreApart : Setup → Type 0
AreApart s = (g h : ℕ) → g < gateways_of s → h < gateways_of s → slice_index s.gateways g ≡ slice_index s.gateways h → g ≡ h

-- a world of a setup stands for deeds
pub record Stands (s : Setup) (ds : Deeds) (w : WorldState) : Type 0 where
  pub apart : AreApart s
  pub plans : ArePlans s
  pub lawful : AreLawful (fits_at s) (starts_of s) (gateways_of s) ds
  pub writers : WritersStand s ds w.writers
  pub nodes : NodesStand s ds w.nodes
  pub exports : ExportsStand s ds w.exports
  pub mails : MailsStand s ds w.mails
  pub gossip : GossipStands s ds w.nodes w.mails

-- an event leads a world that stands for deeds to one that stands for them and the event, with the reply of the definition
pub record Acts (event : Event) (old : WorldState) (answer : Reply) (new : WorldState) : Type 0 where
  pub stands : (s : Setup) (ds : Deeds) → Stands s ds old → Stands s (after s ds event) new
  pub reply : (s : Setup) (ds : Deeds) → Stands s ds old → answer ≡ reply_to s ds event
