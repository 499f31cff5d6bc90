-- An archive: what contracts see of it, why it adopts no incarnation, and what adopting, exporting and sealing make of it.
use Rattle.std.specs.Prelude.{◌≡◌, ℕ, ◌-◌, ◌≤◌, ◌^◌, pos, Bool, true, false, not, ◌||◌, ◌==◌, if◌then◌else◌, nat_lt, nat_le, IsTrue}
use Rattle.std.specs.Prelude.{List, [], ◌∷◌, ◌++◌, Option, Some, None, length, drop}
use Rattle.std.specs.List.{list_any, list_all, filter_map}
use Rattle.std.specs.Option.{is_some, option_map}
use Rattle.attr_kit.specs.Refusing.{first, when}
use Rattle.attr_kit.specs.contracts.txt.TxtPartialEq.TheImpl as texts
use Rattle.point_kit.specs.contracts.writer_id.WriterIdPartialEq.TheImpl as writers
use Rattle.point_kit.specs.ExportFaults.{export_fault, same_key}
use Rattle.point_kit.specs.declared.cell.Cell.{Cell}
use Rattle.point_kit.specs.declared.cell.Held.{Held}
use Rattle.point_kit.specs.declared.cell.Held.TheVariants.{One, Conflict}
use Rattle.point_kit.specs.declared.export_point.ExportPoint.{ExportPoint}
use Rattle.point_kit.specs.declared.key.Key.{Key}
use Rattle.point_kit.specs.declared.payload.Payload.{Payload}
use Rattle.point_kit.specs.declared.payload.Payload.TheVariants.{Gauge}
use Rattle.point_kit.specs.declared.stream.Stream.{Stream}
use Rattle.point_kit.specs.declared.writer_id.WriterId.{WriterId}
use Rattle.gateway_kit.specs.Queries.{has_conflict}
use Rattle.archive_kit.specs.declared.adopt_fault.AdoptFault.{AdoptFault}
use Rattle.archive_kit.specs.declared.adopt_fault.AdoptFault.TheVariants as faults
use Rattle.archive_kit.specs.declared.seal_refusal.SealRefusal.{SealRefusal}
use Rattle.archive_kit.specs.declared.seal_refusal.SealRefusal.TheVariants as refusals
use Rattle.archive_kit.specs.Named.{Name, has_name}
use Rattle.archive_kit.specs.Tombstones.{tombstones, incarnation_attrs, is_tombstone, set_eq, stream_eq}
use Rattle.archive_kit.specs.Totals.{add_totals, fit_totals}

-- whose it is, when this incarnation of it began and exported last (the start before the first), how many totals it may have, these,
-- the tombstones of all that it adopted, of which so many are of incarnations of it that are sealed, and whether it adopted since its
-- last export
pub record ArchiveState : Type 0 where
  pub writer : WriterId
  pub start : ℕ
  pub exported : ℕ
  pub limit : ℕ
  pub totals : List ExportPoint
  pub tombstones : List ExportPoint
  pub sealed : ℕ
  pub unexported : Bool

-- an archive that adopted nothing
abbrev pub fresh : WriterId → ℕ → ℕ → ArchiveState
fresh writer start limit = record {
  writer = writer;
  start = start;
  exported = start;
  limit = limit;
  totals = [];
  tombstones = [];
  sealed = 0;
  unexported = false;
}

-- the greatest number that an attribute or a gauge can tell
abbrev pub last_told : ℕ
last_told = 2 ^ 63 - 1

abbrev pub told : ℕ → ℕ
told n = if nat_le last_told n then last_told else n

-- the tombstone of an incarnation, adopted at a collection of this time
abbrev pub tombstone_of : WriterId → ℕ → ℕ → ExportPoint
tombstone_of writer start time = record {
  stream = tombstones;
  attrs = incarnation_attrs writer (told start);
  payload = Gauge (pos (told time));
}

-- the points of cells: of each that is no conflict its payload
abbrev pub payload_held : Held Payload → Option Payload
payload_held (One p) = Some p
payload_held Conflict = None

abbrev pub point_held : Key × Cell Payload → Option ExportPoint
point_held e = option_map (λ p. record { stream = e.0.stream; attrs = e.0.attrs; payload = p }) (payload_held e.1.held)

abbrev pub points_held : List (Key × Cell Payload) → List ExportPoint
points_held cells = filter_map point_held cells

-- the time of cells, that of the first, and whether another has another
abbrev pub time_of : List (Key × Cell Payload) → ℕ
time_of [] = 0
time_of (e ∷ es) = e.1.time

abbrev pub are_torn : List (Key × Cell Payload) → Bool
are_torn cells = list_any (λ e. not (e.1.time == time_of cells)) cells

abbrev pub is_nothing : List (Key × Cell Payload) → Bool
is_nothing [] = true
is_nothing (e ∷ es) = false

-- an incarnation is no one's to adopt that is the archive's own, or has a tombstone
abbrev pub is_of_archive : ArchiveState → WriterId → List (Key × Cell Payload) → Bool
is_of_archive a writer cells = (writers.ghosts).eq a.writer writer || list_any (λ e. is_tombstone e.0) cells

abbrev pub was_adopted : ArchiveState → WriterId → ℕ → Bool
was_adopted a writer start = list_any (same_key (tombstone_of writer start 0)) a.tombstones

-- the archive after it adopted an incarnation of which these cells are held
abbrev pub adopted : ArchiveState → WriterId → ℕ → List (Key × Cell Payload) → ArchiveState
adopted a writer start cells = record a {
  totals = add_totals a.totals (points_held cells);
  tombstones = a.tombstones ++ tombstone_of writer start (time_of cells) ∷ [];
  unexported = true;
}

-- the refusals that are looked for before points are copied
abbrev pub early_faults : ArchiveState → WriterId → ℕ → List (Key × Cell Payload) → List (Option AdoptFault)
early_faults a writer start cells =
    when (not ((texts.ghosts).eq a.writer.service writer.service)) faults.OtherService
    ∷ when (is_of_archive a writer cells) faults.IsArchive
    ∷ when (was_adopted a writer start) faults.Adopted
    ∷ when (is_nothing cells) faults.Nothing
    ∷ when (list_any (λ e. has_conflict e.1) cells) faults.Conflict
    ∷ when (are_torn cells) faults.Torn
    ∷ []

abbrev pub early_fault : ArchiveState → WriterId → ℕ → List (Key × Cell Payload) → Option AdoptFault
early_fault a writer start cells = first (early_faults a writer start cells)

-- whether no export has these points
abbrev pub is_unsound : ℕ → List (Key × Cell Payload) → Bool
is_unsound start cells = is_some (export_fault start (time_of cells) (points_held cells))

-- whether numbers leave their ranges
abbrev pub out_of_range : ArchiveState → ℕ → List (Key × Cell Payload) → Bool
out_of_range a start cells = nat_le last_told start || (nat_le last_told (time_of cells) || not (fit_totals a.totals (points_held cells)))

abbrev pub late_faults : ArchiveState → WriterId → ℕ → List (Key × Cell Payload) → List (Option AdoptFault)
late_faults a writer start cells =
    when (is_unsound start cells) faults.Unsound
    ∷ when (out_of_range a start cells) faults.OutOfRange
    ∷ when (nat_lt a.limit (length (add_totals a.totals (points_held cells)))) faults.SetLimit
    ∷ []

abbrev pub late_fault : ArchiveState → WriterId → ℕ → List (Key × Cell Payload) → Option AdoptFault
late_fault a writer start cells = first (late_faults a writer start cells)

-- the first refusal that fits
abbrev pub adopt_fault : ArchiveState → WriterId → ℕ → List (Key × Cell Payload) → Option AdoptFault
adopt_fault a writer start cells = first (early_faults a writer start cells ++ late_faults a writer start cells)

-- the points of an export: all totals, and the tombstone of each incarnation that this incarnation of the archive adopted
abbrev pub exported_points : ArchiveState → List ExportPoint
exported_points a = a.totals ++ drop a.sealed a.tombstones

-- the archive after an export of this time
abbrev pub exported_at : ArchiveState → ℕ → ArchiveState
exported_at a time = record a { exported = time; unexported = false }

-- why it is not sealed, if so
abbrev pub seal_refusal : ArchiveState → ℕ → Option SealRefusal
seal_refusal a start = first (when (nat_le start a.exported) refusals.StartNotLater ∷ when a.unexported refusals.Unexported ∷ [])

-- the archive begun anew under another start: what it exported stays as it is, and what it adopted it does not adopt again
abbrev pub begun_anew : ArchiveState → ℕ → ArchiveState
begun_anew a start = record a { start = start; exported = start; totals = []; sealed = length a.tombstones }

-- the names are those that tombstones tell
abbrev pub NameAdopted : List Name → List ExportPoint → Type 0
NameAdopted names tombs = (w : WriterId) (s : ℕ) → has_name names w s ≡ list_any (λ p. set_eq p.attrs (incarnation_attrs w s)) tombs

-- what is kept of an archive's fields: an export could have all these points, tombstones are apart, and the last export was after
-- the start
pub record AreKept (stream : Stream) (start exported : ℕ) (totals tombs : List ExportPoint) (sealed : ℕ) : Type 0 where
  pub own : IsTrue (stream_eq tombstones stream)
  pub builds : export_fault 0 1 (totals ++ tombs) ≡ None
  pub plain : IsTrue (list_all (λ p. not (stream_eq tombstones p.stream)) totals)
  pub marked : IsTrue (list_all (λ p. stream_eq tombstones p.stream) tombs)
  pub within : sealed ≤ length tombs
  pub later : start ≤ exported
