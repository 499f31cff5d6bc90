-- Writers of a kit of which some are archives, and write what calls made of one.
use Rattle.std.specs.Prelude.{◌≡◌, ℕ, ℤ, Bool, true, false, ◌&&◌, List, map}
use Rattle.std.specs.List.{flat_map}
use Rattle.gateway_kit.specs.Keys.{ItemKey, whole_key}
use Rattle.point_kit.specs.declared.cell.Cell.{Cell}
use Rattle.point_kit.specs.declared.export_point.ExportPoint.{ExportPoint}
use Rattle.point_kit.specs.declared.key.Key.{Key}
use Rattle.point_kit.specs.declared.payload.Payload.{Payload}
use Rattle.point_kit.specs.declared.payload.Payload.TheVariants.{Gauge}
use Rattle.point_kit.specs.declared.writer_id.WriterId.{WriterId}
use Rattle.schedule_kit.specs.Members.{In}
use Rattle.schedule_kit.specs.Rounds.{Rounding}
use Rattle.schedule_kit.specs.Totals.{IsSum, total_where}
use Rattle.archive_kit.specs.Adding.{add_payloads}
use Rattle.archive_kit.specs.Adopting.{Archiving, Counted}
use Rattle.archive_kit.specs.Archive.{exported_points, fresh, points_held}
use Rattle.archive_kit.specs.Driving.{Adoption, Call, driven, AreAccepted, since_sealed, has_adding}
use Rattle.archive_kit.specs.Telling.{told_by}
use Rattle.archive_kit.specs.Tombstones.{tombstones, incarnation_attrs, names_key, stream_eq, set_eq, IsInstance}

-- the name of a point within its incarnation, and that of an incarnation's tombstone
abbrev pub name_of : ExportPoint → ItemKey
name_of p = (p.stream, p.attrs)

abbrev pub tombstone_name : WriterId → ℕ → ItemKey
tombstone_name writer start = (tombstones, incarnation_attrs writer start)

abbrev pub is_tombstone_name : ItemKey → Bool
is_tombstone_name x = stream_eq tombstones x.0

-- archives as this kit tells them, of these identities and adoptions
abbrev pub our_archiving : {N : Type 0} → (WriterId → Bool) → (ℕ → List N → List (Counted N)) → Archiving N Key WriterId ItemKey
our_archiving is_archive adoptions = record {
  names = names_key;
  tombstone = tombstone_name;
  is_tombstone = is_tombstone_name;
  is_archive = is_archive;
  adoptions = adoptions;
}

module _ {N : Type 0} (r : Rounding N Key WriterId ItemKey Payload) where
  -- keys, names and identities are the kit's
  pub record AreKeyed : Type 0 where
    pub key : (i : WriterId) (s : ℕ) (x : ItemKey) → r.key i s x ≡ whole_key (i, s) x
    pub same : (x y : ItemKey) → r.same_name x y ≡ (stream_eq x.0 y.0 && set_eq x.1 y.1)
    pub instances : (w : ℕ) → IsInstance (r.who w)

  -- an adoption of archive a, with what a gateway held of it
  abbrev pub adoption_of : (ℕ → Counted N → List (Key × Cell Payload)) → ℕ → Counted N → Adoption
  adoption_of held a c = ((r.who c.0.0, c.0.1), held a c)

  module _ (how : Archiving N Key WriterId ItemKey) (held : ℕ → Counted N → List (Key × Cell Payload)) where
    -- by these entries archive a accepted calls, its adoptions are those since it was sealed, and it writes what it then exports
    pub record IsDriven (a : ℕ) (h : List N) : Type 0 where
      pub start : ℕ
      pub limit : ℕ
      pub calls : List Call
      pub accepted : AreAccepted (fresh (r.who a) start limit) calls
      pub adopts : map (adoption_of held a) (how.adoptions a h) ≡ since_sealed calls
      pub names : r.names a h ≡ map name_of (exported_points (driven (fresh (r.who a) start limit) calls))
      pub payloads : (p : ExportPoint) → In p (exported_points (driven (fresh (r.who a) start limit) calls))
          → r.payload a h (name_of p) ≡ p.payload

    -- all archives are driven so, adopt no archive, and alone write tombstones
    pub record AreDriven : Type 0 where
      pub each : (a : ℕ) (h : List N) → how.is_archive (r.who a) ≡ true → IsDriven a h
      pub never : (a : ℕ) (h : List N) (c : Counted N) → how.is_archive (r.who a) ≡ true → In c (how.adoptions a h)
          → how.is_archive (r.who c.0.0) ≡ false
      pub plain : (w : ℕ) (h : List N) (x : ItemKey) → how.is_archive (r.who w) ≡ false → In x (r.names w h) → is_tombstone_name x ≡ false

    module _ {V : Type 0} (zero : V) (plus : V → V → V) (reads : Payload → V)
        (fed : ℕ → List N → List (ItemKey × V)) (asks : Key → Bool) where
      -- what all under a name are fed, added up
      abbrev pub fed_under : ItemKey → List (ItemKey × V) → V
      fed_under x pairs = total_where zero plus (λ p. r.same_name x p.0) (λ p. p.1) pairs

      -- Payloads add up as they are read, gauges to nothing. Of writers that are no archives what is fed is as the laws ask. An archive
      -- feeds what it adopted; and what was held of that tells what it was fed, of names that are asked for, and has a sum or a histogram
      -- of each name fed.
      pub record AreFed : Type 0 where
        pub sum : IsSum zero plus
        pub both : (p q : Payload) → reads (add_payloads p q) ≡ plus (reads p) (reads q)
        pub gauges : (v : ℤ) → reads (Gauge v) ≡ zero
        pub named : (w : ℕ) (h : List N) (p : ItemKey × V) → how.is_archive (r.who w) ≡ false → In p (fed w h) → In p.0 (r.names w h)
        pub added : (w : ℕ) (h : List N) (i : WriterId) (s : ℕ) (x : ItemKey) → how.is_archive (r.who w) ≡ false
            → asks (r.key i s x) ≡ true → In x (r.names w h) → reads (r.payload w h x) ≡ fed_under x (fed w h)
        pub feeds : (a : ℕ) (h : List N) → how.is_archive (r.who a) ≡ true → fed a h ≡ flat_map (λ c. fed c.0.0 c.1) (how.adoptions a h)
        pub tells : (a : ℕ) (h : List N) (c : Counted N) (i : WriterId) (s : ℕ) (x : ItemKey) → how.is_archive (r.who a) ≡ true
            → asks (r.key i s x) ≡ true → In c (how.adoptions a h)
            → told_by zero plus reads (λ s t. r.same_name x (s, t)) (points_held (held a c)) ≡ fed_under x (fed c.0.0 c.1)
        pub holds : (a : ℕ) (h : List N) (c : Counted N) (p : ItemKey × V) → how.is_archive (r.who a) ≡ true → In c (how.adoptions a h)
            → In p (fed c.0.0 c.1) → has_adding (λ s t. r.same_name p.0 (s, t)) (points_held (held a c)) ≡ true
