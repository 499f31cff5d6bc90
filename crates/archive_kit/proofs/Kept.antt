-- What an archive keeps of its points as others are added: no two of one stream and set, each sound, tombstones apart.
use mathlib.Core.Bool.{true≢false}
use Rattle.std.proofs.Common.{◌≡◌, ◌<◌, ◌≤◌, ◌&&◌, ◌||◌, ◌++◌, ℕ, zero, suc, Bool, true, false, not, cond, List, [], ◌∷◌, length, drop, Option, Some, None, arith, refl, sym, ap, subst, ◌∙◌}
use Rattle.std.specs.Prelude.{IsTrue}
use Rattle.std.proofs.lemmas.Bool.{and_parts, or_parts}
use Rattle.std.proofs.lemmas.List.{length-append}
use Rattle.std.proofs.lemmas.List.Elements.{All-tail}
use Rattle.std.specs.List.{All, AllByRecursion, IsDistinct, list_any, list_all}
use Rattle.point_kit.proofs.Sound.{same_key_equivalence, sound_keys, sound_points, sound_builds}
use Rattle.point_kit.specs.Exact.{exact_streams}
use Rattle.point_kit.specs.ExportFaults.{export_fault, same_key}
use Rattle.point_kit.specs.Payload.{IsSound}
use Rattle.point_kit.specs.contracts.stream.StreamEq.TheImpl.Laws as stream_laws
use Rattle.point_kit.specs.declared.cell.Cell.{Cell}
use Rattle.point_kit.specs.declared.export_point.ExportPoint.{ExportPoint}
use Rattle.point_kit.specs.declared.key.Key.{Key}
use Rattle.point_kit.specs.declared.payload.Payload.{Payload}
use Rattle.point_kit.specs.declared.stream.Stream.{Stream}
use Rattle.archive_kit.specs.Archive.{ArchiveState, AreKept, NameAdopted, adopt_fault, early_faults, is_of_archive, late_faults, payload_held, points_held, time_of, told, tombstone_of, was_adopted}
use Rattle.archive_kit.specs.Named.{Name, has_name, is_name, name_of}
use Rattle.archive_kit.specs.declared.adopt_fault.AdoptFault.{AdoptFault}
use Rattle.archive_kit.specs.declared.adopt_fault.AdoptFault.TheVariants as faults
use Rattle.archive_kit.proofs.Steps.{first-append}
use Rattle.attr_kit.proofs.Firsts.{none_of, when_none}
use Rattle.attr_kit.specs.Refusing.{first}
use Rattle.std.specs.Option.{is_some, option_or}
use Rattle.point_kit.specs.declared.writer_id.WriterId.{WriterId}
use Rattle.archive_kit.specs.Tombstones.{tombstones, incarnation_attrs, is_tombstone, set_eq, stream_eq}
use Rattle.attr_kit.specs.contracts.attr_set.AttrSetEq.TheImpl.Laws as set_laws
use Rattle.std.proofs.lemmas.List.Folds.{list_any-append}
use Rattle.archive_kit.specs.Totals.{is_gauge, plus_payload, add_total, add_totals}
use Rattle.archive_kit.proofs.Payloads.{both_sound}

-- a point sound in its stream
abbrev Fits : ExportPoint → Type 0
Fits p = IsSound p.stream.shape p.payload

-- a point that is no tombstone, and one that is
abbrev plain : ExportPoint → Bool
plain p = not (stream_eq tombstones p.stream)

abbrev marked : ExportPoint → Bool
marked p = stream_eq tombstones p.stream

-- a point has another key than all these
abbrev Apart : ExportPoint → List ExportPoint → Type 0
Apart x ys = AllByRecursion (λ y. same_key x y ≡ false) ys

module _ {A : Type 0} (P : A → Type 0) where
  to_rec : (xs : List A) → All P xs → AllByRecursion P xs
  to_rec [] h = tt
  to_rec (x ∷ xs) h = (h 0 x (omega arith), to_rec xs (All-tail P x xs h))

  pub from_rec : (xs : List A) → AllByRecursion P xs → All P xs
  from_rec [] a k d h = absurd (omega arith)
  from_rec (x ∷ xs) a zero d h = a.0
  from_rec (x ∷ xs) a (suc k) d h = from_rec xs a.1 k d (omega arith)

  rec_append : (xs ys : List A) → AllByRecursion P xs → AllByRecursion P ys → AllByRecursion P (xs ++ ys)
  rec_append [] ys a b = b
  rec_append (x ∷ xs) ys a b = (a.0, rec_append xs ys a.1 b)

  rec_first : (xs ys : List A) → AllByRecursion P (xs ++ ys) → AllByRecursion P xs
  rec_first [] ys a = tt
  rec_first (x ∷ xs) ys a = (a.0, rec_first xs ys a.1)

  rec_last : (xs ys : List A) → AllByRecursion P (xs ++ ys) → AllByRecursion P ys
  rec_last [] ys a = a
  rec_last (x ∷ xs) ys a = rec_last xs ys a.1

  rec_drop : (n : ℕ) (xs : List A) → AllByRecursion P xs → AllByRecursion P (drop n xs)
  rec_drop zero xs a = a
  rec_drop (suc n) [] a = tt
  rec_drop (suc n) (x ∷ xs) a = rec_drop n xs a.1

-- lists of points, no two of one key
first_distinct : (xs ys : List ExportPoint) → IsDistinct same_key (xs ++ ys) → IsDistinct same_key xs
unfolding IsDistinct
first_distinct [] ys d = tt
first_distinct (x ∷ xs) ys d = (rec_first (λ y. same_key x y ≡ false) xs ys d.0, first_distinct xs ys d.1)

last_distinct : (xs ys : List ExportPoint) → IsDistinct same_key (xs ++ ys) → IsDistinct same_key ys
unfolding IsDistinct
last_distinct [] ys d = d
last_distinct (x ∷ xs) ys d = last_distinct xs ys d.1

both_distinct : (xs ys : List ExportPoint) → IsDistinct same_key xs → IsDistinct same_key ys → AllByRecursion (λ x. Apart x ys) xs → IsDistinct same_key (xs ++ ys)
unfolding IsDistinct
both_distinct [] ys a b c = b
both_distinct (x ∷ xs) ys a b c = (rec_append (λ y. same_key x y ≡ false) xs ys a.0 c.0, both_distinct xs ys a.1 b c.1)

drop_distinct : (n : ℕ) (xs : List ExportPoint) → IsDistinct same_key xs → IsDistinct same_key (drop n xs)
unfolding IsDistinct
drop_distinct zero xs d = d
drop_distinct (suc n) [] d = tt
drop_distinct (suc n) (x ∷ xs) d = drop_distinct n xs d.1

one_distinct : (t : ExportPoint) → IsDistinct same_key (t ∷ [])
unfolding IsDistinct
one_distinct t = (tt, tt)

-- a total more keeps them so
still_apart : (x : ExportPoint) (qs : List ExportPoint) (p : ExportPoint) → Apart x qs → same_key x p ≡ false → Apart x (add_total qs p)
still_apart x [] p h e = (e, tt)
still_apart x (q ∷ qs) p h e = elim (same_key p q) as (λ b. Apart x (cond b (plus_payload q p.payload ∷ qs) (q ∷ add_total qs p))) [
  | true ↦ h
  | false ↦ (h.0, still_apart x qs p h.1 e)
]

pub distinct_add : (qs : List ExportPoint) (p : ExportPoint) → IsDistinct same_key qs → IsDistinct same_key (add_total qs p)
unfolding IsDistinct
distinct_add [] p d = (tt, tt)
distinct_add (q ∷ qs) p d = elim (same_key p q) as (λ b. same_key p q ≡ b → IsDistinct same_key (cond b (plus_payload q p.payload ∷ qs) (q ∷ add_total qs p))) [
  | true ↦ λ _. d
  | false ↦ λ e. (still_apart q qs p d.0 (same_key_equivalence.symm q p ∙ e), distinct_add qs p d.1)
] refl

fit_add : (qs : List ExportPoint) (p : ExportPoint) → AllByRecursion Fits qs → Fits p → AllByRecursion Fits (add_total qs p)
fit_add [] p a h = (h, tt)
fit_add (q ∷ qs) p a h = elim (same_key p q) as (λ b. same_key p q ≡ b → AllByRecursion Fits (cond b (plus_payload q p.payload ∷ qs) (q ∷ add_total qs p))) [
  | true ↦ λ e.
      let same : p.stream ≡ q.stream = exact_streams p.stream q.stream (and_parts _ _ e).0 in
      (both_sound q.stream.shape q.payload p.payload a.0 (subst (λ (s : Stream). IsSound s.shape p.payload) same h), a.1)
  | false ↦ λ _. (a.0, fit_add qs p a.1 h)
] refl

plain_add : (qs : List ExportPoint) (p : ExportPoint) → list_all plain qs ≡ true → plain p ≡ true → list_all plain (add_total qs p) ≡ true
plain_add [] p a h = ap (λ b. b && true) h
plain_add (q ∷ qs) p a h =
    let both = and_parts (plain q) (list_all plain qs) a in
    elim (same_key p q) as (λ b. list_all plain (cond b (plus_payload q p.payload ∷ qs) (q ∷ add_total qs p)) ≡ true) [
      | true ↦ a
      | false ↦ ap (λ b. b && list_all plain (add_total qs p)) both.0 ∙ plain_add qs p both.1 h
    ]

-- and so do many
pub record AreTotals (qs : List ExportPoint) : Type 0 where
  pub apart : IsDistinct same_key qs
  pub sound : AllByRecursion Fits qs
  pub none_marked : list_all plain qs ≡ true

pub totals_more : (qs ps : List ExportPoint) → AreTotals qs → AllByRecursion Fits ps → list_all plain ps ≡ true → AreTotals (add_totals qs ps)
totals_more qs [] are fit ok = are
totals_more qs (p ∷ ps) are fit ok =
    let both = and_parts (plain p) (list_all plain ps) ok in
    elim (is_gauge p.payload) as (λ b. AreTotals (cond b (add_totals qs ps) (add_totals (add_total qs p) ps))) [
      | true ↦ totals_more qs ps are fit.1 both.1
      | false ↦ totals_more (add_total qs p) ps (record {
        apart = distinct_add qs p are.apart;
        sound = fit_add qs p are.sound fit.0;
        none_marked = plain_add qs p are.none_marked both.0;
      }) fit.1 both.1
    ]

-- totals and tombstones are of different streams
not_so : (b : Bool) → not b ≡ true → b ≡ false
not_so true h = sym h
not_so false h = refl

one_apart : (x : ExportPoint) (ys : List ExportPoint) → plain x ≡ true → list_all marked ys ≡ true → Apart x ys
one_apart x [] h m = tt
one_apart x (y ∷ ys) h m =
    let both = and_parts (marked y) (list_all marked ys) m in
    let streams = stream_laws.laws-law in
    let own : tombstones ≡ y.stream = exact_streams tombstones y.stream both.0 in
    let apart : stream_eq x.stream y.stream ≡ false = ap (stream_eq x.stream) (sym own) ∙ streams.symm x.stream tombstones ∙ not_so (stream_eq tombstones x.stream) h in
    (ap (λ b. b && set_eq x.attrs y.attrs) apart, one_apart x ys h both.1)

all_apart : (xs ys : List ExportPoint) → list_all plain xs ≡ true → list_all marked ys ≡ true → AllByRecursion (λ x. Apart x ys) xs
all_apart [] ys p m = tt
all_apart (x ∷ xs) ys p m = let both = and_parts (plain x) (list_all plain xs) p in (one_apart x ys both.0 m, all_apart xs ys both.1 m)

marked_drop : (n : ℕ) (ys : List ExportPoint) → list_all marked ys ≡ true → list_all marked (drop n ys) ≡ true
marked_drop zero ys m = m
marked_drop (suc n) [] m = refl
marked_drop (suc n) (y ∷ ys) m = marked_drop n ys (and_parts (marked y) (list_all marked ys) m).1

marked_more : (ys : List ExportPoint) (t : ExportPoint) → list_all marked ys ≡ true → marked t ≡ true → list_all marked (ys ++ t ∷ []) ≡ true
marked_more [] t m h = ap (λ b. b && true) h
marked_more (y ∷ ys) t m h =
    let both = and_parts (marked y) (list_all marked ys) m in
    ap (λ b. b && list_all marked (ys ++ t ∷ [])) both.0 ∙ marked_more ys t both.1 h

others_apart : (t : ExportPoint) (ys : List ExportPoint) → list_any (same_key t) ys ≡ false → AllByRecursion (λ y. Apart y (t ∷ [])) ys
others_apart t [] n = tt
others_apart t (y ∷ ys) n = let both = or_parts (same_key t y) (list_any (same_key t) ys) n in ((same_key_equivalence.symm y t ∙ both.0, tt), others_apart t ys both.1)

module _ {stream : Stream} {start exported sealed : ℕ} {totals tombs : List ExportPoint} (kept : AreKept stream start exported totals tombs sealed) where
  abbrev whole : AllByRecursion Fits (totals ++ tombs)
  whole = to_rec Fits (totals ++ tombs) (sound_points 0 1 (totals ++ tombs) kept.builds)

  abbrev keys : IsDistinct same_key (totals ++ tombs)
  keys = sound_keys 0 1 (totals ++ tombs) kept.builds

  -- no two totals are of one key
  pub totals_apart : IsDistinct same_key totals
  totals_apart = first_distinct totals tombs keys

  -- an export can be made at any time after the start
  pub exported_builds : (time : ℕ) → start < time → export_fault start time (totals ++ drop sealed tombs) ≡ None
  exported_builds time later =
      let ts = drop sealed tombs in
      sound_builds start time (totals ++ ts) later
      (both_distinct totals ts totals_apart (drop_distinct sealed tombs (last_distinct totals tombs keys)) (all_apart totals ts kept.plain (marked_drop sealed tombs kept.marked)))
      (from_rec Fits (totals ++ ts) (rec_append Fits totals ts (rec_first Fits totals tombs whole) (rec_drop Fits sealed tombs (rec_last Fits totals tombs whole))))

  -- what is adopted is kept as well
  pub adopted_kept : (ps : List ExportPoint) (t : ExportPoint) → All Fits ps → list_all plain ps ≡ true → marked t ≡ true → Fits t → list_any (same_key t) tombs ≡ false
      → AreKept stream start exported (add_totals totals ps) (tombs ++ t ∷ []) sealed
  adopted_kept ps t fit ok mark sound new =
      let are = totals_more totals ps (record { apart = totals_apart; sound = rec_first Fits totals tombs whole; none_marked = kept.plain }) (to_rec Fits ps fit) ok in
      let ts = tombs ++ t ∷ [] in
      let marks = marked_more tombs t kept.marked mark in
      record {
        own = kept.own;
        builds = sound_builds 0 1 (add_totals totals ps ++ ts) (omega arith)
            (both_distinct (add_totals totals ps) ts are.apart (both_distinct tombs (t ∷ []) (last_distinct totals tombs keys) (one_distinct t) (others_apart t tombs new)) (all_apart (add_totals totals ps) ts are.none_marked marks))
            (from_rec Fits (add_totals totals ps ++ ts) (rec_append Fits (add_totals totals ps) ts are.sound (rec_append Fits tombs (t ∷ []) (rec_last Fits totals tombs whole) (sound, tt))));
        plain = are.none_marked;
        marked = marks;
        within = more_within sealed tombs t kept.within;
        later = kept.later;
      }
    where
      more_within : (n : ℕ) (ys : List ExportPoint) (t : ExportPoint) → n ≤ length ys → n ≤ length (ys ++ t ∷ [])
      more_within n ys t h = simp length-append (omega arith)

-- an archive without points
no_keys : IsDistinct same_key []
unfolding IsDistinct
no_keys = tt

own_stream : (stream : Stream) → stream ≡ tombstones → IsTrue (stream_eq tombstones stream)
own_stream stream e = ap (stream_eq tombstones) e ∙ (stream_laws.laws-law).refl tombstones

pub begun : (stream : Stream) (start : ℕ) → stream ≡ tombstones → AreKept stream start start [] [] 0
begun stream start e = record {
  own = own_stream stream e;
  builds = sound_builds 0 1 [] (omega arith) no_keys (from_rec Fits [] tt);
  plain = refl;
  marked = refl;
  within = omega arith;
  later = omega arith;
}

-- and one that is begun anew
pub sealed_kept : {stream : Stream} {start exported sealed : ℕ} {totals tombs : List ExportPoint} → AreKept stream start exported totals tombs sealed
    → (again : ℕ) → AreKept stream again again [] tombs (length tombs)
sealed_kept {totals = totals} {tombs = tombs} kept again = record {
  own = kept.own;
  builds = sound_builds 0 1 tombs (omega arith)
      (last_distinct totals tombs (sound_keys 0 1 (totals ++ tombs) kept.builds))
      (from_rec Fits tombs (rec_last Fits totals tombs (to_rec Fits (totals ++ tombs) (sound_points 0 1 (totals ++ tombs) kept.builds))));
  plain = refl;
  marked = kept.marked;
  within = omega arith;
  later = omega arith;
}

pub own_is : (stream : Stream) → IsTrue (stream_eq tombstones stream) → stream ≡ tombstones
own_is stream e = sym (exact_streams tombstones stream e)

-- of points that are held, none is a tombstone where no key is one
pub held_plain : (cells : List (Key × Cell Payload)) → list_any (λ e. is_tombstone e.0) cells ≡ false → list_all plain (points_held cells) ≡ true
held_plain [] n = refl
held_plain (e ∷ es) n = go (payload_held e.1.held) refl (held_plain es (or_parts (is_tombstone e.0) (list_any (λ e. is_tombstone e.0) es) n).1)
  where
    go : (o : Option Payload) → payload_held e.1.held ≡ o → list_all plain (points_held es) ≡ true → list_all plain (points_held (e ∷ es)) ≡ true
    go None f rest = rw f rest
    go (Some p) f rest = rw f (ap (λ b. not b && list_all plain (points_held es)) (or_parts (is_tombstone e.0) (list_any (λ e. is_tombstone e.0) es) n).0 ∙ rest)

-- what the refusals say that do not fit
pub early_first : (a : ArchiveState) (w : WriterId) (start : ℕ) (cells : List (Key × Cell Payload)) (f : AdoptFault) → first (early_faults a w start cells) ≡ Some f → adopt_fault a w start cells ≡ Some f
early_first a w start cells f e = first-append (early_faults a w start cells) (late_faults a w start cells) ∙ ap (λ o. option_or o (first (late_faults a w start cells))) e

pub late_first : (a : ArchiveState) (w : WriterId) (start : ℕ) (cells : List (Key × Cell Payload)) → first (early_faults a w start cells) ≡ None → adopt_fault a w start cells ≡ first (late_faults a w start cells)
late_first a w start cells e = first-append (early_faults a w start cells) (late_faults a w start cells) ∙ ap (λ o. option_or o (first (late_faults a w start cells))) e

pub early_plain : (a : ArchiveState) (w : WriterId) (start : ℕ) (cells : List (Key × Cell Payload)) → first (early_faults a w start cells) ≡ None → list_any (λ e. is_tombstone e.0) cells ≡ false
early_plain a w start cells e = (or_parts _ _ (when_none (is_of_archive a w cells) faults.IsArchive (none_of (early_faults a w start cells) e).1.0)).1

pub early_new : (a : ArchiveState) (w : WriterId) (start : ℕ) (cells : List (Key × Cell Payload)) → first (early_faults a w start cells) ≡ None → was_adopted a w start ≡ false
early_new a w start cells e = when_none (was_adopted a w start) faults.Adopted (none_of (early_faults a w start cells) e).1.1.0

no_fault : {F : Type 0} (o : Option F) → is_some o ≡ false → o ≡ None
no_fault None e = refl
no_fault (Some f) e = absurd (true≢false e)

late_fit : (a : ArchiveState) (w : WriterId) (start : ℕ) (cells : List (Key × Cell Payload)) → first (late_faults a w start cells) ≡ None → All Fits (points_held cells)
late_fit a w start cells e =
    sound_points start (time_of cells) (points_held cells)
    (no_fault (export_fault start (time_of cells) (points_held cells)) (when_none (is_some (export_fault start (time_of cells) (points_held cells))) faults.Unsound (none_of (late_faults a w start cells) e).0))

-- an adoption keeps what is kept
pub adoption_kept : (stream : Stream) (a : ArchiveState) → AreKept stream a.start a.exported a.totals a.tombstones a.sealed → (w : WriterId) (start : ℕ) (cells : List (Key × Cell Payload))
    → list_any (λ e. is_tombstone e.0) cells ≡ false → was_adopted a w start ≡ false → first (late_faults a w start cells) ≡ None
    → AreKept stream a.start a.exported (add_totals a.totals (points_held cells)) (a.tombstones ++ tombstone_of w start (time_of cells) ∷ []) a.sealed
adoption_kept stream a kept w start cells ok new late =
    adopted_kept kept (points_held cells) (tombstone_of w start (time_of cells)) (late_fit a w start cells late) (held_plain cells ok) ((stream_laws.laws-law).refl tombstones) tt new

-- what names tell was adopted
pub adopted_alike : (names : List Name) (tombs : List ExportPoint) (w : WriterId) (start : ℕ) → IsTrue (list_all marked tombs) → NameAdopted names tombs
    → has_name names w (told start) ≡ list_any (same_key (tombstone_of w start 0)) tombs
adopted_alike names tombs w start all told_by = told_by w (told start) ∙ each tombs all
  where
    each : (ps : List ExportPoint) → IsTrue (list_all marked ps) → list_any (λ p. set_eq p.attrs (incarnation_attrs w (told start))) ps ≡ list_any (same_key (tombstone_of w start 0)) ps
    each [] h = refl
    each (p ∷ ps) h =
        let parts = and_parts (marked p) (list_all marked ps) h in
        λ i. (
        (set_laws.laws-law).symm p.attrs (incarnation_attrs w (told start))
        ∙ ap (λ b. b && set_eq (incarnation_attrs w (told start)) p.attrs) (sym parts.0)
        ) i || each ps parts.1 i

-- one more tombstone, of an incarnation whose name is told
pub adopted_more : (names new : List Name) (tombs now : List ExportPoint) (w : WriterId) (start time : ℕ) → NameAdopted names tombs
    → ((v : WriterId) (s : ℕ) → has_name new v s ≡ (has_name names v s || is_name v s (name_of w (told start))))
    → now ≡ tombs ++ tombstone_of w start time ∷ [] → NameAdopted new now
adopted_more names new tombs now w start time old more is v s =
    more v s
    ∙ ap (λ b. b || is_name v s (name_of w (told start))) (old v s)
    ∙ ap (λ b. list_any tells tombs || b) (or_false _)
    ∙ sym (list_any-append tells tombs (tombstone_of w start time ∷ []))
    ∙ ap (list_any tells) (sym is)
  where
    tells : ExportPoint → Bool
    tells p = set_eq p.attrs (incarnation_attrs v s)

    or_false : (a : Bool) → a ≡ (a || false)
    or_false true = refl
    or_false false = refl
