-- Archives that write what calls made of one write the tombstones that the laws ask of archives.
use Rattle.std.proofs.Common.{◌≡◌, ℕ, Bool, true, false, not, ◌&&◌, ◌||◌, cond, inl, inr, List, [], ◌∷◌, ◌++◌, map, drop, None, refl, sym, ap, subst, ◌∙◌, arith}
use mathlib.Core.Bool.{true≢false}
use Rattle.std.proofs.lemmas.Bool.{and_parts, or_parts}
use Rattle.std.specs.Cmp.{IsEquivalence}
use Rattle.std.specs.List.{list_any, list_all}
use Rattle.attr_kit.proofs.Firsts.{none_of, when_none}
use Rattle.attr_kit.specs.Exact.{IsExact}
use Rattle.attr_kit.specs.declared.attr_set.AttrSet.{AttrSet}
use Rattle.gateway_kit.specs.Keys.{ItemKey}
use Rattle.point_kit.specs.contracts.stream.StreamEq.TheImpl.Laws as stream_laws
use Rattle.point_kit.specs.declared.cell.Cell.{Cell}
use Rattle.point_kit.specs.declared.export_point.ExportPoint.{ExportPoint}
use Rattle.point_kit.specs.declared.key.Key.{Key}
use Rattle.point_kit.specs.declared.payload.Payload.{Payload}
use Rattle.point_kit.specs.declared.stream.Stream.{Stream}
use Rattle.point_kit.specs.declared.writer_id.WriterId.{WriterId}
use Rattle.schedule_kit.specs.Members.{In, Once}
use Rattle.schedule_kit.specs.Rounds.{Rounding, IsSound}
use Rattle.schedule_kit.specs.Rows.{IsAdded}
use Rattle.schedule_kit.specs.Totals.{IsSum, total}
use Rattle.schedule_kit.proofs.Members.{In-append, In-left, In-right, In-map, map-In, flat_map-In, any-In}
use Rattle.schedule_kit.proofs.Totals.{total-append, total-flat_map, total-map, total_same, total_zero}
use Rattle.archive_kit.specs.Adopting.{Archiving, Counted, AreTombstones}
use Rattle.archive_kit.specs.Archive.{ArchiveState, adopt_fault, late_faults, exported_points, fresh, last_told, points_held, told}
use Rattle.archive_kit.specs.Driving.{Adoption, Call, driven, AreAccepted, since_sealed, tombstone, has_adding}
use Rattle.archive_kit.specs.Driving.Call.{Adopt, Export, Seal}
use Rattle.archive_kit.specs.Tombstones.{tombstones, incarnation_attrs, is_tombstone, stream_eq, set_eq}
use Rattle.archive_kit.specs.Totals.{is_gauge}
use Rattle.archive_kit.specs.Written.{name_of, tombstone_name, our_archiving, AreKeyed, AreDriven, AreFed, IsDriven, adoption_of, fed_under}
use Rattle.archive_kit.specs.Telling.{told_by}
use Rattle.archive_kit.proofs.Driving.{any_of, driven_asked, driven_told, early_none, late_none, points_left}
use Rattle.archive_kit.proofs.Kept.{early_plain, held_plain}
use Rattle.archive_kit.proofs.Steps.{any_map}
use Rattle.archive_kit.proofs.Tombstones.{incarnations_told}

-- of what an archive adopted since it was sealed, no cell is a tombstone's, and the start can be told
pub record WasFit (c : Adoption) : Type 0 where
  pub plain : list_any (λ e. is_tombstone e.0) c.1 ≡ false
  pub start : told c.0.1 ≡ c.0.1

told_whole : (n : ℕ) (b : Bool) → b ≡ false → cond b last_told n ≡ n
told_whole n b e = ap (λ b. cond b last_told n) e

fit : (a : ArchiveState) (c : Adoption) → adopt_fault a c.0.0 c.0.1 c.1 ≡ None → WasFit c
fit a c e = record {
  plain = early_plain a c.0.0 c.0.1 c.1 (early_none a c e);
  start = told_whole c.0.1 _ (or_parts _ _ (when_none _ _ (none_of (late_faults a c.0.0 c.0.1 c.1) (late_none a c e)).1.0)).0;
}

pub all_fit : (a : ArchiveState) (calls : List Call) → AreAccepted a calls → (c : Adoption) → In c (since_sealed calls) → WasFit c
all_fit a [] l c i = absurd i
all_fit a (Adopt d ∷ calls) l c i = elim (In-append c (since_sealed calls) (d ∷ []) i) [
  | inl before ↦ all_fit a calls l.1 c before
  | inr last ↦ elim last [ inl same ↦ subst WasFit (sym same) (fit (driven a calls) d l.0) | inr none ↦ absurd none ]
]
all_fit a (Export time ∷ calls) l c i = all_fit a calls l.1 c i
all_fit a (Seal start ∷ calls) l c i = absurd i

-- totals are no tombstones
abbrev marks : Stream → AttrSet → Bool
marks s attrs = stream_eq tombstones s

none_adds : (points : List ExportPoint) → list_all (λ p. not (stream_eq tombstones p.stream)) points ≡ true → has_adding marks points ≡ false
none_adds [] h = refl
none_adds (p ∷ ps) h =
    let both = and_parts (not (stream_eq tombstones p.stream)) _ h in
    one (not (is_gauge p.payload)) (stream_eq tombstones p.stream) both.0 ∙ none_adds ps both.1
  where
    one : {r : Bool} (g b : Bool) → not b ≡ true → ((g && b) || r) ≡ r
    one g true e = absurd (true≢false (sym e))
    one true false e = refl
    one false false e = refl

none_any : {A : Type 0} (p : A → Bool) (xs : List A) → ((x : A) → In x xs → p x ≡ false) → list_any p xs ≡ false
none_any p [] h = refl
none_any p (x ∷ xs) h = ap (λ b. b || list_any p xs) (h x (inl refl)) ∙ none_any p xs (λ y i. h y (inr i))

module _ (w : WriterId) (start limit : ℕ) (calls : List Call) (accepted : AreAccepted (fresh w start limit) calls) where
  abbrev a : ArchiveState
  a = driven (fresh w start limit) calls

  totals_plain : (p : ExportPoint) → In p a.totals → stream_eq tombstones p.stream ≡ true → ⊥
  totals_plain p i e =
      let none = none_any (λ (c : Adoption). has_adding marks (points_held c.1)) (since_sealed calls)
      (λ c j. none_adds (points_held c.1) (held_plain c.1 (all_fit (fresh w start limit) calls accepted c j).plain)) in
      true≢false (sym (any_of (λ (p : ExportPoint). stream_eq tombstones p.stream) p a.totals i e)
      ∙ driven_asked (fresh w start limit) refl refl (omega arith) marks calls ∙ none)

  -- each adoption since the seal has its tombstone's name in the export, and no other tombstone's name is there
  pub named : (c : Adoption) → In c (since_sealed calls) → In (tombstone_name c.0.0 c.0.1) (map name_of (exported_points a))
  named c i =
      let there = In-right (tombstone c) a.totals (map tombstone (since_sealed calls)) (In-map tombstone c (since_sealed calls) i) in
      let fits = all_fit (fresh w start limit) calls accepted c i in
      subst (λ n. In (tombstone_name c.0.0 n) (map name_of (exported_points a))) fits.start
      (In-map name_of (tombstone c) (exported_points a)
      (subst (λ (l : List ExportPoint). In (tombstone c) l) (sym (points_left (fresh w start limit) refl refl (omega arith) calls)) there))

  pub named_only : (v : WriterId) (s : ℕ) → In (tombstone_name v s) (map name_of (exported_points a))
      → (c : Adoption) × In c (since_sealed calls) × (incarnation_attrs v s ≡ incarnation_attrs c.0.0 c.0.1)
  named_only v s i =
      let p = map-In name_of (tombstone_name v s) (exported_points a) i in
      let there = subst (λ (l : List ExportPoint). In p.0 l) (points_left (fresh w start limit) refl refl (omega arith) calls) p.1 in
      elim (In-append p.0 a.totals (map tombstone (since_sealed calls)) there) [
        | inl total ↦ absurd (totals_plain p.0 total (ap (λ (x : ItemKey). stream_eq tombstones x.0) (sym p.2) ∙ (stream_laws.laws-law).refl tombstones))
        | inr tomb ↦
            let c = map-In tombstone p.0 (since_sealed calls) tomb in (
              c.0,
              c.1,
              ap (λ (x : ItemKey). x.1) p.2 ∙ ap (λ (q : ExportPoint). q.attrs) c.2
                  ∙ ap (incarnation_attrs c.0.0.0) (all_fit (fresh w start limit) calls accepted c.0 c.1).start,
            )
      ]

swap : (a b c : Bool) → (a && (b && c)) ≡ ((a && c) && b)
swap true true c = elim c as (λ c. c ≡ (c && true)) [ true ↦ refl | false ↦ refl ]
swap true false c = elim c as (λ c. false ≡ (c && false)) [ true ↦ refl | false ↦ refl ]
swap false b c = refl

-- one point of a name is all that is told of it
module _ {V : Type 0} (zero : V) (plus : V → V → V) (is : IsSum zero plus) (reads : Payload → V) (same : ItemKey → ItemKey → Bool) (laws : IsEquivalence same) (exact : IsExact same) where
  abbrev under : ItemKey → List ExportPoint → V
  under x points = told_by zero plus reads (λ s t. same x (s, t)) points

  none_under : (x : ItemKey) (points : List ExportPoint) → (In x (map name_of points) → ⊥) → under x points ≡ zero
  none_under x [] apart = refl
  none_under x (p ∷ ps) apart = elim (same x (name_of p)) as (λ b. same x (name_of p) ≡ b → plus (cond b (reads p.payload) zero) (under x ps) ≡ zero) [
    | true ↦ λ e. absurd (apart (inl (exact x (name_of p) e)))
    | false ↦ λ _. is.zero_left (under x ps) ∙ none_under x ps (λ i. apart (inr i))
  ] refl

  pub one_under : (p : ExportPoint) (points : List ExportPoint) → Once (map name_of points) → In p points → under (name_of p) points ≡ reads p.payload
  one_under p [] once i = absurd i
  one_under p (q ∷ qs) once (inl e) =
      let own : same (name_of p) (name_of q) ≡ true = subst (λ (q : ExportPoint). same (name_of p) (name_of q) ≡ true) e (laws.refl (name_of p)) in
      let apart : In (name_of p) (map name_of qs) → ⊥ = λ i. once.0 (subst (λ (q : ExportPoint). In (name_of q) (map name_of qs)) e i) in
      ap (λ b. plus (cond b (reads q.payload) zero) (under (name_of p) qs)) own
      ∙ ap (plus (reads q.payload)) (none_under (name_of p) qs apart)
      ∙ is.comm (reads q.payload) zero ∙ is.zero_left (reads q.payload) ∙ ap (λ (q : ExportPoint). reads q.payload) (sym e)
  one_under p (q ∷ qs) once (inr i) = elim (same (name_of p) (name_of q)) as (λ b. same (name_of p) (name_of q) ≡ b → plus (cond b (reads q.payload) zero) (under (name_of p) qs) ≡ reads p.payload) [
    | true ↦ λ e. absurd (once.0 (subst (λ (x : ItemKey). In x (map name_of qs)) (exact (name_of p) (name_of q) e) (In-map name_of p qs i)))
    | false ↦ λ _. is.zero_left (under (name_of p) qs) ∙ one_under p qs once.1 i
  ] refl

module _ {N : Type 0} (r : Rounding N Key WriterId ItemKey Payload) (keyed : AreKeyed r) (is_archive : WriterId → Bool)
    (adoptions : ℕ → List N → List (Counted N)) (held : ℕ → Counted N → List (Key × Cell Payload)) where
  abbrev how : Archiving N Key WriterId ItemKey
  how = our_archiving is_archive adoptions

  module _ (are : AreDriven r how held) where
    abbrev its : ℕ → Counted N → Adoption
    its a c = adoption_of r held a c

    pub written_tombstones : AreTombstones r how
    written_tombstones = record {
      tells = λ v w t s x y.
          let names : Key → Key → Bool = λ j k. stream_eq tombstones j.stream && (not (stream_eq tombstones k.stream) && set_eq j.attrs (incarnation_attrs k.writer k.start)) in
          ap (λ (k : Key). names k (r.key (r.who w) s y)) (keyed.key v t x)
          ∙ ap (λ (k : Key). stream_eq tombstones x.0 && (not (stream_eq tombstones k.stream) && set_eq x.1 (incarnation_attrs k.writer k.start))) (keyed.key (r.who w) s y)
          ∙ ap (λ b. b && (not (stream_eq tombstones y.0) && set_eq x.1 (incarnation_attrs (r.who w) s))) ((stream_laws.laws-law).symm tombstones x.0)
          ∙ swap (stream_eq x.0 tombstones) (not (stream_eq tombstones y.0)) (set_eq x.1 (incarnation_attrs (r.who w) s))
          ∙ ap (λ b. b && not (stream_eq tombstones y.0)) (sym (keyed.same x (tombstone_name (r.who w) s)));
      are = λ w s. (stream_laws.laws-law).refl tombstones;
      only = λ w h x i t. elim (is_archive (r.who w)) as (λ b. is_archive (r.who w) ≡ b → b ≡ true) [
        | true ↦ λ _. refl
        | false ↦ λ e. absurd (true≢false (sym t ∙ are.plain w h x e i))
      ] refl;
      each = λ a h c e i.
          let d = are.each a h e in
          let there = subst (λ (l : List Adoption). In (its a c) l) d.adopts (In-map (its a) c (adoptions a h) i) in
          subst (λ (l : List ItemKey). In (tombstone_name (r.who c.0.0) c.0.1) l) (sym d.names) (named (r.who a) d.start d.limit d.calls d.accepted (its a c) there);
      of_adopted = λ a w h s e i.
          let d = are.each a h e in
          let found = named_only (r.who a) d.start d.limit d.calls d.accepted (r.who w) s (subst (λ (l : List ItemKey). In (tombstone_name (r.who w) s) l) d.names i) in
          let c = map-In (its a) found.0 (adoptions a h) (subst (λ (l : List Adoption). In found.0 l) (sym d.adopts) found.1) in
          let same = incarnations_told (r.who w) (r.who c.0.0.0) s c.0.0.1 (keyed.instances w) (keyed.instances c.0.0.0)
          (found.2 ∙ ap (λ (b : Adoption). incarnation_attrs b.0.0 b.0.1) c.2) in
          (c.0, c.1, sym same.0, sym same.1);
      never = λ a h c e i. are.never a h c e i;
    }

    module _ (sound : IsSound r) {V : Type 0} (zero : V) (plus : V → V → V) (reads : Payload → V) (fed : ℕ → List N → List (ItemKey × V)) (asks : Key → Bool)
        (feeding : AreFed r how held zero plus reads fed asks) where
      abbrev Under : ItemKey → List (ItemKey × V) → V
      Under x pairs = fed_under r how held zero plus reads fed asks x pairs

      abbrev asked : ItemKey → Stream → AttrSet → Bool
      asked x s t = r.same_name x (s, t)

      abbrev told_of : ItemKey → List ExportPoint → V
      told_of x points = told_by zero plus reads (asked x) points

      -- tombstones tell nothing that adds up
      none_told : (x : ItemKey) (cs : List Adoption) → told_of x (map tombstone cs) ≡ zero
      none_told x cs = total_zero zero plus feeding.sum (λ (p : ExportPoint). cond (asked x p.stream p.attrs) (reads p.payload) zero) (map tombstone cs) (λ p i.
          let c = map-In tombstone p cs i in
          elim (asked x p.stream p.attrs) as (λ b. cond b (reads p.payload) zero ≡ zero) [
            | true ↦ ap (λ (p : ExportPoint). reads p.payload) c.2 ∙ feeding.gauges _
            | false ↦ refl
          ])

      module _ (a : ℕ) (h : List N) (e : is_archive (r.who a) ≡ true) where
        abbrev d : IsDriven r how held a h
        d = are.each a h e

        abbrev last : ArchiveState
        last = driven (fresh (r.who a) d.start d.limit) d.calls

        abbrev left : List Adoption
        left = since_sealed d.calls

        points_are : exported_points last ≡ last.totals ++ map tombstone left
        points_are = points_left (fresh (r.who a) d.start d.limit) refl refl (omega arith) d.calls

        -- what the export tells of a name is what was fed to it
        told_is : (i : WriterId) (s : ℕ) (x : ItemKey) → asks (r.key i s x) ≡ true → told_of x (exported_points last) ≡ Under x (fed a h)
        told_is i s x wanted =
            let each : Adoption → V = λ c. told_of x (points_held c.1) in
            ap (told_of x) points_are
            ∙ total-append zero plus feeding.sum _ last.totals (map tombstone left)
            ∙ ap (plus (told_of x last.totals)) (none_told x left)
            ∙ feeding.sum.comm (told_of x last.totals) zero ∙ feeding.sum.zero_left (told_of x last.totals)
            ∙ driven_told (fresh (r.who a) d.start d.limit) refl refl (omega arith) zero plus feeding.sum reads feeding.both feeding.gauges (asked x) d.calls
            ∙ ap (total zero plus each) (sym d.adopts)
            ∙ total-map zero plus feeding.sum each (its a) (adoptions a h)
            ∙ total_same zero plus feeding.sum (λ (c : Counted N). each (its a c)) (λ c. Under x (fed c.0.0 c.1)) (adoptions a h) (λ c j. feeding.tells a h c i s x e wanted j)
            ∙ sym (total-flat_map zero plus feeding.sum (λ (p : ItemKey × V). cond (r.same_name x p.0) p.1 zero) (λ c. fed c.0.0 c.1) (adoptions a h))
            ∙ ap (Under x) (sym (feeding.feeds a h e))

        archive_added : (v : WriterId) (s : ℕ) (x : ItemKey) → asks (r.key v s x) ≡ true → In x (r.names a h) → reads (r.payload a h x) ≡ Under x (fed a h)
        archive_added v s x wanted i =
            let p = map-In name_of x (exported_points last) (subst (λ (l : List ItemKey). In x l) d.names i) in
            let once : Once (map name_of (exported_points last)) = subst (λ (l : List ItemKey). Once l) d.names (sound.once a h) in
            ap (λ x. reads (r.payload a h x)) p.2
            ∙ ap reads (d.payloads p.0 p.1)
            ∙ sym (one_under zero plus feeding.sum reads r.same_name sound.names_equivalence sound.names_exact p.0 (exported_points last) once p.1)
            ∙ ap (λ x. told_of x (exported_points last)) (sym p.2)
            ∙ told_is v s x wanted

        archive_named : (p : ItemKey × V) → In p (fed a h) → In p.0 (r.names a h)
        archive_named p i =
            let c = flat_map-In (λ (c : Counted N). fed c.0.0 c.1) p (adoptions a h) (subst (λ (l : List (ItemKey × V)). In p l) (feeding.feeds a h e) i) in
            let there : In (its a c.0) left = subst (λ (l : List Adoption). In (its a c.0) l) d.adopts (In-map (its a) c.0 (adoptions a h) c.1) in
            let has : Adoption → Bool = λ c. has_adding (asked p.0) (points_held c.1) in
            let total : list_any (λ q. asked p.0 q.stream q.attrs) last.totals ≡ true =
            driven_asked (fresh (r.who a) d.start d.limit) refl refl (omega arith) (asked p.0) d.calls
            ∙ any_of has (its a c.0) left there (feeding.holds a h c.0 p e c.1 c.2) in
            let name : In p.0 (map name_of last.totals) = any-In r.same_name sound.names_equivalence sound.names_exact p.0 (map name_of last.totals)
            (any_map (r.same_name p.0) name_of last.totals ∙ total) in
            let q = map-In name_of p.0 last.totals name in
            subst (λ (x : ItemKey). In x (r.names a h)) (sym q.2)
            (subst (λ (l : List ItemKey). In (name_of q.0) l) (sym d.names)
            (In-map name_of q.0 (exported_points last) (In-left q.0 last.totals (drop last.sealed last.tombstones) q.1)))

      pub written_added : IsAdded r zero plus reads fed asks
      written_added = record {
        sum = feeding.sum;
        named = λ w h p i. elim (is_archive (r.who w)) as (λ b. is_archive (r.who w) ≡ b → In p.0 (r.names w h)) [
          | true ↦ λ e. archive_named w h e p i
          | false ↦ λ e. feeding.named w h p e i
        ] refl;
        added = λ w h v s x q i. elim (is_archive (r.who w)) as (λ b. is_archive (r.who w) ≡ b → reads (r.payload w h x) ≡ Under x (fed w h)) [
          | true ↦ λ e. archive_added w h e v s x q i
          | false ↦ λ e. feeding.added w h v s x e q i
        ] refl;
      }
