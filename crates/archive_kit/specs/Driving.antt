-- What calls make of an archive: the calls that were accepted, what they adopted, and what was exported.
use Rattle.std.specs.Prelude.{◌≡◌, ◌<◌, ◌⊎◌, ℕ, Bool, not, ◌&&◌, List, [], ◌∷◌, ◌++◌, None}
use Rattle.std.specs.List.{list_any}
use Rattle.attr_kit.specs.declared.attr_set.AttrSet.{AttrSet}
use Rattle.point_kit.specs.declared.cell.Cell.{Cell}
use Rattle.point_kit.specs.declared.export_point.ExportPoint.{ExportPoint}
use Rattle.point_kit.specs.declared.key.Key.{Key}
use Rattle.point_kit.specs.declared.payload.Payload.{Payload}
use Rattle.point_kit.specs.declared.stream.Stream.{Stream}
use Rattle.point_kit.specs.declared.writer_id.WriterId.{WriterId}
use Rattle.schedule_kit.specs.Members.{In}
use Rattle.archive_kit.specs.Archive.{ArchiveState, adopt_fault, adopted, begun_anew, exported_at, exported_points, seal_refusal, time_of, tombstone_of}
use Rattle.archive_kit.specs.Totals.{is_gauge}

-- an incarnation, with the cells that a gateway held of it
abbrev pub Adoption : Type 0
Adoption = (WriterId × ℕ) × List (Key × Cell Payload)

-- a call: to adopt, to export at a time, to seal under a start
pub data Call : Type 0 where
  Adopt : (adoption : Adoption) → Call
  Export : (time : ℕ) → Call
  Seal : (start : ℕ) → Call

-- what an accepted call makes of an archive
abbrev pub called : ArchiveState → Call → ArchiveState
called a (Adopt c) = adopted a c.0.0 c.0.1 c.1
called a (Export time) = exported_at a time
called a (Seal start) = begun_anew a start

-- none of its refusals fits
abbrev pub IsAccepted : ArchiveState → Call → Type 0
IsAccepted a (Adopt c) = adopt_fault a c.0.0 c.0.1 c.1 ≡ None
IsAccepted a (Export time) = a.exported < time
IsAccepted a (Seal start) = seal_refusal a start ≡ None

-- the archive after calls, the newest first
abbrev pub driven : ArchiveState → List Call → ArchiveState
driven a [] = a
driven a (call ∷ calls) = called (driven a calls) call

-- each was accepted after those before it
abbrev pub AreAccepted : ArchiveState → List Call → Type 0
AreAccepted a [] = Unit {0}
AreAccepted a (call ∷ calls) = IsAccepted (driven a calls) call × AreAccepted a calls

-- what the calls adopted, the oldest first
abbrev pub all_adopted : List Call → List Adoption
all_adopted [] = []
all_adopted (Adopt c ∷ calls) = all_adopted calls ++ c ∷ []
all_adopted (Export time ∷ calls) = all_adopted calls
all_adopted (Seal start ∷ calls) = all_adopted calls

-- and what of it since the archive was sealed last
abbrev pub since_sealed : List Call → List Adoption
since_sealed [] = []
since_sealed (Adopt c ∷ calls) = since_sealed calls ++ c ∷ []
since_sealed (Export time ∷ calls) = since_sealed calls
since_sealed (Seal start ∷ calls) = []

-- the tombstone of an adoption
abbrev pub tombstone : Adoption → ExportPoint
tombstone c = tombstone_of c.0.0 c.0.1 (time_of c.1)

-- whether points that are added up have one of a stream and set that is asked for
abbrev pub has_adding : (Stream → AttrSet → Bool) → List ExportPoint → Bool
has_adding asks points = list_any (λ p. not (is_gauge p.payload) && asks p.stream p.attrs) points

-- an export that the calls made has this point
abbrev pub WasExported : ArchiveState → List Call → ExportPoint → Type 0
WasExported a [] p = ⊥
WasExported a (Adopt c ∷ calls) p = WasExported a calls p
WasExported a (Export time ∷ calls) p = In p (exported_points (driven a calls)) ⊎ WasExported a calls p
WasExported a (Seal start ∷ calls) p = WasExported a calls p
