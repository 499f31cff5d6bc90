-- An archive that comes to incarnations one after the other.
use Rattle.std.proofs.Common.{◌≡◌, ◌∙◌, ◌<◌, ℕ, true, false, List, [], ◌∷◌, Result, Ok, Err, Vec, Global, ap, refl, subst, sym}
use Rattle.std.specs.Prelude.{◌≢◌, if◌then◌else◌, IfErr, IfOk, MatchResult, Option, Some, None}
use Rattle.std.specs.List.{fold}
use Rattle.gateway_kit.specs.Listing.{HeldIncarnation, held_incarnations}
use Rattle.gateway_kit.specs.Queries.{incarnation_points}
use Rattle.point_kit.specs.Exports.{Points}
use Rattle.archive_kit.specs.Archive.{ArchiveState, adopt_fault, adopted, is_nothing}
use Rattle.archive_kit.specs.declared.adopt_fault.AdoptFault.{AdoptFault}
use Rattle.file_kit.specs.Archiving.{adopt_all, adopt_one, archive_of, begun, answer, next, is_left_alone, IsArchiveOf, IsArchived, IsUnarchived, Outcome}
use Rattle.file_kit.specs.Contents.{Shows}
use Rattle.file_kit.specs.declared.archive.Archiving.{Archiving}
use Rattle.file_kit.specs.declared.fault.ArchiveFault.{ArchiveFault}
use Rattle.file_kit.specs.declared.fault.ArchiveFault.TheVariants as faults

-- a refusal ends it
pub refused_stays : (points : Points) (fault : ArchiveFault) (hs : List HeldIncarnation) → fold (next points) (Err fault) hs ≡ Err fault
refused_stays points fault [] = refl
refused_stays points fault (h ∷ hs) = refused_stays points fault hs

pub ends_here : (points : Points) (a : ArchiveState) (h : HeldIncarnation) (ahead before : List HeldIncarnation) (all : Outcome) (fault : ArchiveFault)
    → before ≡ h ∷ ahead → fold (next points) (Ok a) before ≡ all → adopt_one points a h ≡ Err fault → all ≡ Err fault
ends_here points a h ahead before all fault steps is told =
    sym is ∙ ap (fold (next points) (Ok a)) steps ∙ ap (λ (r : Outcome). fold (next points) r ahead) told ∙ refused_stays points fault ahead

-- no adoption is an export, and an incarnation is all that is told
abbrev IsTold : ArchiveFault → Type 0
IsTold (faults.Unadopted writer start fault) = Unit {0}
IsTold faults.Taken = Unit {0}
IsTold faults.TimeNotLater = ⊥
IsTold (faults.Unjoined fault) = ⊥
IsTold faults.NoMemory = ⊥

abbrev Comes : ℕ → Outcome → Type 0
Comes time r = MatchResult r (λ a. a.exported ≡ time) IsTold

module _ (time : ℕ) where
  answer_comes : (old new : ArchiveState) (h : HeldIncarnation) (fault : Option AdoptFault) → old.exported ≡ time → new.exported ≡ time → Comes time (answer old new h fault)
  answer_comes old new h None was is = is
  answer_comes old new h (Some fault) was is =
      elim (is_left_alone fault) as (λ b. Comes time (if b then Ok old else Err (faults.Unadopted h.writer h.start fault))) [ true ↦ was | false ↦ tt ]

  next_comes : (points : Points) (r : Outcome) (h : HeldIncarnation) → Comes time r → Comes time (next points r h)
  next_comes points (Ok a) h was =
      let cells = incarnation_points h.writer h.start points in
      answer_comes a (adopted a h.writer h.start cells) h (adopt_fault a h.writer h.start cells) was was
  next_comes points (Err fault) h was = was

  all_come : (points : Points) (hs : List HeldIncarnation) (r : Outcome) → Comes time r → Comes time (fold (next points) r hs)
  all_come points [] r was = was
  all_come points (h ∷ hs) r was = all_come points hs (next points r h) (next_comes points r h was)

-- so a time after its start is later than its last export
pub is_later : (points : Points) (a b : ArchiveState) (time : ℕ) → a.exported < time → adopt_all points a ≡ Ok b → b.exported < time
is_later points a b time later made =
    let same : b.exported ≡ a.exported = subst (Comes a.exported) made (all_come a.exported points (held_incarnations points) (Ok a) refl) in
    subst (λ n. n < time) (sym same) later

archive_comes : (ask : Archiving) (points : Points) → Comes ask.start (archive_of ask points)
archive_comes ask points =
    elim (is_nothing (incarnation_points ask.writer ask.start points)) as (λ b. Comes ask.start (if b then adopt_all points (begun ask) else Err faults.Taken))
    [ true ↦ all_come ask.start points (held_incarnations points) (Ok (begun ask)) refl | false ↦ tt ]

-- what is made of points, and why nothing is, of the files that show them
module _ (ask : Archiving) (files : List (List ℕ)) (points : Points) (later : ask.start < ask.time) (shows : Shows files points) where
  pub archived_is : (r : Result (Vec ℕ Global) ArchiveFault) → IfOk r (λ b. IsArchiveOf ask points b.items) → IfOk r (λ b. IsArchived ask files b.items)
  archived_is (Ok b) is = (later, points, shows, is)
  archived_is (Err fault) is = tt

  is_told : (fault : ArchiveFault) → archive_of ask points ≡ Err fault → IsTold fault
  is_told fault made = subst (Comes ask.start) made (archive_comes ask points)

  unarchived : (fault : ArchiveFault) → (fault ≢ faults.NoMemory → archive_of ask points ≡ Err fault) → IsUnarchived ask files fault
  unarchived faults.TimeNotLater told = absurd (is_told faults.TimeNotLater (told (λ e. cc)))
  unarchived (faults.Unjoined fault) told = absurd (is_told (faults.Unjoined fault) (told (λ e. cc)))
  unarchived faults.Taken told = (later, points, shows, told (λ e. cc))
  unarchived (faults.Unadopted writer start fault) told = (later, points, shows, told (λ e. cc))
  unarchived faults.NoMemory told = later

  pub unarchived_is : (r : Result (Vec ℕ Global) ArchiveFault) → IfErr r (λ fault. fault ≢ faults.NoMemory → archive_of ask points ≡ Err fault)
      → IfErr r (IsUnarchived ask files)
  unarchived_is (Ok b) told = tt
  unarchived_is (Err fault) told = unarchived fault told
