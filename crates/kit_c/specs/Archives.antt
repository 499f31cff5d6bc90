-- Why calls of archives are refused, and what their exports are.
use Rattle.std.specs.Prelude.{◌≡◌, ℕ, nat_le, length, ◌-◌, Option, Some, None}
use Rattle.std.specs.Option.{option_map}
use Rattle.archive_kit.specs.Archive.{ArchiveState, adopt_fault, adopted, exported_points, seal_refusal}
use Rattle.archive_kit.specs.declared.export_refusal.ExportRefusal.TheVariants as archivings
use Rattle.attr_kit.specs.Refusing.{when}
use Rattle.gateway_kit.specs.Queries.{incarnation_points}
use Rattle.gossip_kit.specs.Views.{NodeModel}
use Rattle.point_kit.specs.declared.export.Export.{Export}
use Rattle.point_kit.specs.declared.writer_id.WriterId.{WriterId}
use Rattle.kit_c.specs.declared.fault.Fault.{Fault}
use Rattle.kit_c.specs.declared.fault.Fault.TheVariants as faults

-- why an archive does not adopt an incarnation from what a gateway holds of it, and the archive once it did
unfoldable pub adopting_fault : WriterId → ℕ → ArchiveState → NodeModel → Option Fault
adopting_fault writer start a n = option_map (λ f. faults.Adopt f) (adopt_fault a writer start (incarnation_points writer start n.gateway.points))

unfoldable pub after_adopting : WriterId → ℕ → ArchiveState → NodeModel → ArchiveState
after_adopting writer start a n = adopted a writer start (incarnation_points writer start n.gateway.points)

-- why it makes no export of a time
abbrev pub archiving_fault : ℕ → ArchiveState → Option Fault
archiving_fault time a = when (nat_le time a.exported) (faults.Archive archivings.TimeNotLater)

-- an export has its points at a time
pub record Archives (a : ArchiveState) (time : ℕ) (e : Export) : Type 0 where
  pub same_writer : e.writer ≡ a.writer
  pub starts : e.start ≡ a.start
  pub taken_at : e.time ≡ time
  pub points : e.points ≡ exported_points a

-- a handle has it
abbrev pub HasArchive : ArchiveState → ℕ → Option Export → Type 0
HasArchive a time (Some e) = Archives a time e
HasArchive a time None = ⊥

abbrev pub HasArchived : ℕ → Option ArchiveState → Option Export → Type 0
HasArchived time (Some a) made = HasArchive a time made
HasArchived time None made = ⊥

-- why it is not sealed
abbrev pub sealing_fault : ℕ → ArchiveState → Option Fault
sealing_fault start a = option_map (λ f. faults.Seal f) (seal_refusal a start)

-- an archive tells its start, and how many incarnations it adopted since
abbrev pub IsBegunWith : ℕ → ℕ → ArchiveState → Type 0
IsBegunWith start count a = (start ≡ a.start) × (count ≡ length a.tombstones - a.sealed)
