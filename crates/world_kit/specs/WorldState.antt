-- What contracts see of a world.
use Rattle.std.specs.Prelude.{ℕ, ◌-◌, ◌==◌, if◌then◌else◌, List, slice_get, Option, None}
use Rattle.gossip_kit.specs.Views.{MessageModel, NodeModel}
use Rattle.point_kit.specs.declared.export.Export.{Export}
use Rattle.writer_kit.specs.Written.{Written}

-- its writers and gateways by their places, its exports and mails in the order of their numbers
pub record WorldState : Type 0 where
  pub writers : List Written
  pub nodes : List NodeModel
  pub exports : List Export
  pub mails : List MessageModel

-- the export of a number, from 1
abbrev pub export_at : List Export → ℕ → Option Export
export_at es n = if n == 0 then None else slice_get es (n - 1)
