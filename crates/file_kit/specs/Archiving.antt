-- An archive that is made of what files show.
use Rattle.std.specs.Prelude.{◌≡◌, ◌<◌, ◌≤◌, ℕ, Bool, true, false, List, if◌then◌else◌, Option, Some, None, Result, Ok, Err}
use Rattle.std.specs.List.{fold}
use Rattle.bytes_kit.specs.Format.{bytes_of}
use Rattle.gateway_kit.specs.Listing.{HeldIncarnation, held_incarnations}
use Rattle.gateway_kit.specs.Queries.{incarnation_points}
use Rattle.point_kit.specs.Exports.{Points}
use Rattle.point_kit.specs.declared.export.Export.{Export}
use Rattle.archive_kit.specs.Archive.{ArchiveState, adopt_fault, adopted, exported_points, fresh, is_nothing}
use Rattle.archive_kit.specs.declared.adopt_fault.AdoptFault.{AdoptFault}
use Rattle.archive_kit.specs.declared.adopt_fault.AdoptFault.TheVariants as adopting
use Rattle.file_kit.specs.Contents.{IsRefused, Shows}
use Rattle.file_kit.specs.declared.archive.Archiving.{Archiving}
use Rattle.file_kit.specs.declared.fault.ArchiveFault.{ArchiveFault}
use Rattle.file_kit.specs.declared.fault.ArchiveFault.TheVariants as faults

-- what becomes of an archive, or why it is none
abbrev pub Outcome : Type 0
Outcome = Result ArchiveState ArchiveFault

-- an incarnation that is refused for this is left alone: it is of another service, an archive's, or of the archive's own instance
abbrev pub is_left_alone : AdoptFault → Bool
is_left_alone adopting.OtherService = true
is_left_alone adopting.IsArchive = true
is_left_alone _ = false

-- what comes of an incarnation: it is adopted where nothing refuses it, else left alone or told
abbrev pub answer : ArchiveState → ArchiveState → HeldIncarnation → Option AdoptFault → Outcome
answer old new h None = Ok new
answer old new h (Some fault) = if is_left_alone fault then Ok old else Err (faults.Unadopted h.writer h.start fault)

abbrev pub adopt_one : Points → ArchiveState → HeldIncarnation → Outcome
adopt_one points a h =
    let cells = incarnation_points h.writer h.start points in
    answer a (adopted a h.writer h.start cells) h (adopt_fault a h.writer h.start cells)

-- one more, where none before it was refused
abbrev pub next : Points → Outcome → HeldIncarnation → Outcome
next points (Ok a) h = adopt_one points a h
next points (Err fault) h = Err fault

-- one after the other, in the order of their keys
abbrev pub adopt_all : Points → ArchiveState → Outcome
adopt_all points a = fold (next points) (Ok a) (held_incarnations points)

-- the archive that is asked for, before it adopted any
abbrev pub begun : Archiving → ArchiveState
begun ask = fresh ask.writer ask.start ask.limit

-- the archive of points, unless some are of its own incarnation
abbrev pub archive_of : Archiving → Points → Outcome
archive_of ask points =
    if is_nothing (incarnation_points ask.writer ask.start points) then adopt_all points (begun ask) else Err faults.Taken

-- an export is an archive's, at a time
pub record IsExportAt (at : ℕ) (a : ArchiveState) (e : Export) : Type 0 where
  pub writer : e.writer ≡ a.writer
  pub start : e.start ≡ a.start
  pub taken_at : e.time ≡ at
  pub points : e.points ≡ exported_points a

-- bytes are those of such an export
abbrev pub AreExportedAt : ℕ → ArchiveState → List ℕ → Type 0
AreExportedAt time a bytes = (e : Export) × IsExportAt time a e × (bytes ≡ bytes_of e)

-- bytes are those of the export of the archive of these points
abbrev pub IsArchiveOf : Archiving → Points → List ℕ → Type 0
IsArchiveOf ask points bytes = (a : ArchiveState) × (archive_of ask points ≡ Ok a) × AreExportedAt ask.time a bytes

-- and of what files show
abbrev pub IsArchived : Archiving → List (List ℕ) → List ℕ → Type 0
IsArchived ask files bytes = (ask.start < ask.time) × (points : Points) × Shows files points × IsArchiveOf ask points bytes

-- what files show comes to no archive, for this reason
abbrev pub IsNoArchive : Archiving → List (List ℕ) → ArchiveFault → Type 0
IsNoArchive ask files fault = (ask.start < ask.time) × (points : Points) × Shows files points × (archive_of ask points ≡ Err fault)

-- why there is none of files
abbrev pub IsUnarchived : Archiving → List (List ℕ) → ArchiveFault → Type 0
IsUnarchived ask files faults.TimeNotLater = ask.time ≤ ask.start
IsUnarchived ask files (faults.Unjoined fault) = (ask.start < ask.time) × IsRefused files fault
IsUnarchived ask files faults.Taken = IsNoArchive ask files faults.Taken
IsUnarchived ask files (faults.Unadopted writer start fault) = IsNoArchive ask files (faults.Unadopted writer start fault)
IsUnarchived ask files faults.NoMemory = ask.start < ask.time
