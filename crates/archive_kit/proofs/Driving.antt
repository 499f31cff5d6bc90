-- What an archive exports, whatever calls came: a tombstone for each adoption since it was sealed, and what these tell added up.
use Rattle.std.proofs.Common.{◌≡◌, ◌⊎◌, ◌≤◌, ℕ, ℤ, Bool, true, false, not, ◌&&◌, ◌||◌, cond, inl, inr, List, [], ◌∷◌, ◌++◌, map, length, drop, Option, Some, None, refl, sym, ap, subst, ◌∙◌, arith}
use mathlib.Core.Bool.{true≢false}
use Rattle.std.proofs.lemmas.Bool.{and_parts}
use Rattle.std.proofs.lemmas.List.{drop-append-le, length-append, map-append}
use Rattle.std.specs.List.{list_any}
use Rattle.std.specs.Prelude.{nat_le}
use Rattle.std.specs.Option.{option_or}
use Rattle.attr_kit.proofs.Firsts.{none_of, when_none}
use Rattle.attr_kit.specs.Exact.{exact_pairs, exact_lists, exact_texts, exact_values}
use Rattle.attr_kit.specs.Refusing.{when}
use Rattle.attr_kit.specs.declared.attr_set.AttrSet.{AttrSet}
use Rattle.point_kit.proofs.Sound.{same_key_equivalence}
use Rattle.point_kit.specs.Exact.{exact_streams}
use Rattle.point_kit.specs.ExportFaults.{same_key}
use Rattle.point_kit.specs.declared.export_point.ExportPoint.{ExportPoint}
use Rattle.point_kit.specs.declared.payload.Payload.{Payload}
use Rattle.point_kit.specs.declared.payload.Payload.TheVariants as payloads
use Rattle.point_kit.specs.declared.stream.Stream.{Stream}
use Rattle.point_kit.specs.declared.writer_id.WriterId.{WriterId}
use Rattle.schedule_kit.specs.Members.{In, Once}
use Rattle.schedule_kit.specs.Totals.{IsSum, total}
use Rattle.schedule_kit.proofs.Members.{In-append, In-left, In-right, In-map, map-In}
use Rattle.schedule_kit.proofs.Recorded.{Once-append}
use Rattle.schedule_kit.proofs.Totals.{total-append}
use Rattle.archive_kit.specs.Adding.{add_payloads}
use Rattle.archive_kit.specs.Archive.{ArchiveState, adopt_fault, early_fault, late_fault, early_faults, late_faults, exported_points, points_held, seal_refusal, tombstone_of, was_adopted}
use Rattle.archive_kit.specs.declared.seal_refusal.SealRefusal.TheVariants as refusals
use Rattle.archive_kit.specs.Driving.{Adoption, Call, driven, AreAccepted, all_adopted, since_sealed, tombstone, has_adding, WasExported}
use Rattle.archive_kit.specs.Driving.Call.{Adopt, Export, Seal}
use Rattle.archive_kit.specs.Telling.{told_by}
use Rattle.archive_kit.specs.Totals.{is_gauge, plus_payload, add_total, add_totals}
use Rattle.archive_kit.proofs.Kept.{early_new}
use Rattle.archive_kit.proofs.Steps.{first-append}
use Rattle.archive_kit.proofs.Telling.{all_told}

-- a fact of one that stands in a list
pub any_of : {A : Type 0} (p : A → Bool) (x : A) (xs : List A) → In x xs → p x ≡ true → list_any p xs ≡ true
any_of p x [] i e = absurd i
any_of p x (y ∷ ys) (inl same) e = ap (λ b. b || list_any p ys) (ap p (sym same) ∙ e)
any_of p x (y ∷ ys) (inr i) e = elim (p y) as (λ b. (b || list_any p ys) ≡ true) [ true ↦ refl | false ↦ any_of p x ys i e ]

drop_all : {A : Type 0} (xs : List A) → drop (length xs) xs ≡ []
drop_all [] = refl
drop_all (x ∷ xs) = drop_all xs

any-append : {A : Type 0} (p : A → Bool) (xs ys : List A) → list_any p (xs ++ ys) ≡ (list_any p xs || list_any p ys)
any-append p [] ys = refl
any-append p (x ∷ xs) ys = elim (p x) as (λ b. (b || list_any p (xs ++ ys)) ≡ ((b || list_any p xs) || list_any p ys)) [ true ↦ refl | false ↦ any-append p xs ys ]

or_none : (b : Bool) → (b || false) ≡ b
or_none true = refl
or_none false = refl

-- what calls make of any archive
module _ (a : ArchiveState) (empty : a.totals ≡ []) (none : drop a.sealed a.tombstones ≡ []) (within : a.sealed ≤ length a.tombstones) where
  abbrev at : List Call → ArchiveState
  at calls = driven a calls

  sealed_within : (calls : List Call) → (at calls).sealed ≤ length (at calls).tombstones
  sealed_within [] = within
  sealed_within (Adopt c ∷ calls) = let w = sealed_within calls in simp length-append (omega (arith, w))
  sealed_within (Export time ∷ calls) = sealed_within calls
  sealed_within (Seal start ∷ calls) = omega arith

  pub tombstones_left : (calls : List Call) → drop (at calls).sealed (at calls).tombstones ≡ map tombstone (since_sealed calls)
  tombstones_left [] = none
  tombstones_left (Adopt c ∷ calls) =
      drop-append-le (at calls).sealed (at calls).tombstones (tombstone c ∷ []) (sealed_within calls)
      ∙ ap (λ l. l ++ tombstone c ∷ []) (tombstones_left calls)
      ∙ sym (map-append tombstone (since_sealed calls) (c ∷ []))
  tombstones_left (Export time ∷ calls) = tombstones_left calls
  tombstones_left (Seal start ∷ calls) = drop_all (at calls).tombstones

  pub points_left : (calls : List Call) → exported_points (at calls) ≡ (at calls).totals ++ map tombstone (since_sealed calls)
  points_left calls = ap (λ l. (at calls).totals ++ l) (tombstones_left calls)

  module _ {V : Type 0} (zero : V) (plus : V → V → V) (is : IsSum zero plus) (reads : Payload → V)
      (added : (p q : Payload) → reads (add_payloads p q) ≡ plus (reads p) (reads q)) (gauges : (v : ℤ) → reads (payloads.Gauge v) ≡ zero) (asks : Stream → AttrSet → Bool) where
    abbrev told : List ExportPoint → V
    told points = told_by zero plus reads asks points

    abbrev each : Adoption → V
    each c = told (points_held c.1)

    pub driven_told : (calls : List Call) → told (at calls).totals ≡ total zero plus each (since_sealed calls)
    driven_told [] = ap told empty
    driven_told (Adopt c ∷ calls) =
        all_told zero plus is reads added gauges asks (at calls).totals (points_held c.1)
        ∙ ap (λ v. plus v (each c)) (driven_told calls)
        ∙ ap (plus (total zero plus each (since_sealed calls))) (sym (is.comm (each c) zero ∙ is.zero_left (each c)))
        ∙ sym (total-append zero plus is each (since_sealed calls) (c ∷ []))
    driven_told (Export time ∷ calls) = driven_told calls
    driven_told (Seal start ∷ calls) = refl

  module _ (asks : Stream → AttrSet → Bool) where
    abbrev asked : ExportPoint → Bool
    asked p = asks p.stream p.attrs

    same_asked : (p q : ExportPoint) → same_key p q ≡ true → asked p ≡ asked q
    same_asked p q e =
        let both = and_parts _ _ e in
        ap (λ s. asks s p.attrs) (exact_streams p.stream q.stream both.0) ∙ ap (asks q.stream) (exact_lists (exact_pairs exact_texts exact_values) p.attrs q.attrs both.1)

    again : (x y r : Bool) → y ≡ x → (x || r) ≡ ((x || r) || y)
    again true y r e = refl
    again false y r e = sym (ap (λ b. r || b) e ∙ or_none r)

    behind : (x y r : Bool) → (x || (r || y)) ≡ ((x || r) || y)
    behind true y r = refl
    behind false y r = refl

    one_asked : (qs : List ExportPoint) (p : ExportPoint) → list_any asked (add_total qs p) ≡ (list_any asked qs || asked p)
    one_asked [] p = or_none (asked p)
    one_asked (q ∷ qs) p = elim (same_key p q) as (λ b. same_key p q ≡ b → list_any asked (cond b (plus_payload q p.payload ∷ qs) (q ∷ add_total qs p)) ≡ ((asked q || list_any asked qs) || asked p)) [
      | true ↦ λ e. again (asked q) (asked p) (list_any asked qs) (same_asked p q e)
      | false ↦ λ _. ap (λ b. asked q || b) (one_asked qs p) ∙ behind (asked q) (asked p) (list_any asked qs)
    ] refl

    all_asked : (qs ps : List ExportPoint) → list_any asked (add_totals qs ps) ≡ (list_any asked qs || has_adding asks ps)
    all_asked qs [] = sym (or_none (list_any asked qs))
    all_asked qs (p ∷ ps) = elim (is_gauge p.payload) as (λ b. list_any asked (cond b (add_totals qs ps) (add_totals (add_total qs p) ps)) ≡ (list_any asked qs || ((not b && asked p) || has_adding asks ps))) [
      | true ↦ all_asked qs ps
      | false ↦ all_asked (add_total qs p) ps ∙ ap (λ b. b || has_adding asks ps) (one_asked qs p) ∙ sym (behind (list_any asked qs) (has_adding asks ps) (asked p))
    ]

    pub driven_asked : (calls : List Call) → list_any asked (at calls).totals ≡ list_any (λ c. has_adding asks (points_held c.1)) (since_sealed calls)
    driven_asked [] = ap (list_any asked) empty
    driven_asked (Adopt c ∷ calls) =
        let has : Adoption → Bool = λ c. has_adding asks (points_held c.1) in
        all_asked (at calls).totals (points_held c.1)
        ∙ ap (λ b. b || has c) (driven_asked calls)
        ∙ ap (λ b. list_any has (since_sealed calls) || b) (sym (or_none (has c)))
        ∙ sym (any-append has (since_sealed calls) (c ∷ []))
    driven_asked (Export time ∷ calls) = driven_asked calls
    driven_asked (Seal start ∷ calls) = refl

-- no incarnation is adopted twice
tombstones_are : (a : ArchiveState) → a.tombstones ≡ [] → (calls : List Call) → (driven a calls).tombstones ≡ map tombstone (all_adopted calls)
tombstones_are a e [] = e
tombstones_are a e (Adopt c ∷ calls) = ap (λ l. l ++ tombstone c ∷ []) (tombstones_are a e calls) ∙ sym (map-append tombstone (all_adopted calls) (c ∷ []))
tombstones_are a e (Export time ∷ calls) = tombstones_are a e calls
tombstones_are a e (Seal start ∷ calls) = tombstones_are a e calls

none_first : {F : Type 0} (o p : Option F) → option_or o p ≡ None → o ≡ None
none_first None p e = refl
none_first (Some f) p e = e

pub early_none : (a : ArchiveState) (c : Adoption) → adopt_fault a c.0.0 c.0.1 c.1 ≡ None → early_fault a c.0.0 c.0.1 c.1 ≡ None
early_none a c e =
    none_first (early_fault a c.0.0 c.0.1 c.1) (late_fault a c.0.0 c.0.1 c.1)
    (sym (first-append (early_faults a c.0.0 c.0.1 c.1) (late_faults a c.0.0 c.0.1 c.1)) ∙ e)

no_first : {F : Type 0} (o p : Option F) → o ≡ None → option_or o p ≡ p
no_first None p e = refl
no_first (Some f) p e = cc

pub late_none : (a : ArchiveState) (c : Adoption) → adopt_fault a c.0.0 c.0.1 c.1 ≡ None → late_fault a c.0.0 c.0.1 c.1 ≡ None
late_none a c e =
    sym (no_first (early_fault a c.0.0 c.0.1 c.1) (late_fault a c.0.0 c.0.1 c.1) (early_none a c e))
    ∙ sym (first-append (early_faults a c.0.0 c.0.1 c.1) (late_faults a c.0.0 c.0.1 c.1)) ∙ e

pub adopted_once : (a : ArchiveState) → a.tombstones ≡ [] → (calls : List Call) → AreAccepted a calls → Once {A = WriterId × ℕ} (map (λ c. c.0) (all_adopted calls))
adopted_once a e [] l = tt
adopted_once a e (Adopt c ∷ calls) l =
    let cs = all_adopted calls in
    let new : was_adopted (driven a calls) c.0.0 c.0.1 ≡ false = early_new (driven a calls) c.0.0 c.0.1 c.1 (early_none (driven a calls) c l.0) in
    let test : ExportPoint → Bool = λ q. same_key (tombstone_of c.0.0 c.0.1 0) q in
    let not_there : In {A = WriterId × ℕ} c.0 (map (λ c. c.0) cs) → ⊥ = λ i.
    let d = map-In (λ (c : Adoption). c.0) c.0 cs i in
    let same : test (tombstone d.0) ≡ true = subst (λ (k : WriterId × ℕ). same_key (tombstone_of k.0 k.1 0) (tombstone d.0) ≡ true) (sym d.2) (same_key_equivalence.refl (tombstone d.0)) in
    let there : list_any test (driven a calls).tombstones ≡ true = ap (list_any test) (tombstones_are a e calls) ∙ any_of test (tombstone d.0) (map tombstone cs) (In-map tombstone d.0 cs d.1) same in
    true≢false (sym there ∙ new) in
    subst (λ (l : List (WriterId × ℕ)). Once l) (sym (map-append (λ (c : Adoption). c.0) cs (c ∷ [])))
    (Once-append (map (λ c. c.0) cs) (c.0 ∷ []) (adopted_once a e calls l.1) ((λ i. i), tt)
    (λ x i j. elim j [ inl same ↦ not_there (subst (λ (k : WriterId × ℕ). In k (map (λ c. c.0) cs)) same i) | inr none ↦ none ]))
adopted_once a e (Export time ∷ calls) l = adopted_once a e calls l.1
adopted_once a e (Seal start ∷ calls) l = adopted_once a e calls l.1

-- what was adopted before stays adopted
pub all_more : (later calls : List Call) (c : Adoption) → In c (all_adopted calls) → In c (all_adopted (later ++ calls))
all_more [] calls c i = i
all_more (Adopt d ∷ later) calls c i = In-left c (all_adopted (later ++ calls)) (d ∷ []) (all_more later calls c i)
all_more (Export time ∷ later) calls c i = all_more later calls c i
all_more (Seal start ∷ later) calls c i = all_more later calls c i

-- the last of a list stands nowhere before
last_apart : {A : Type 0} (xs : List A) (y : A) → Once (xs ++ y ∷ []) → In y xs → ⊥
last_apart [] y once i = i
last_apart (x ∷ xs) y once (inl same) = once.0 (subst (λ (z : _). In z (xs ++ y ∷ [])) same (In-right y xs (y ∷ []) (inl refl)))
last_apart (x ∷ xs) y once (inr i) = last_apart xs y once.1 i

-- what an archive adopted before it was sealed it adopts no more
pub sealed_apart : (a : ArchiveState) → a.tombstones ≡ [] → (later calls : List Call) (again : ℕ) → AreAccepted a (later ++ Seal again ∷ calls)
    → (c d : Adoption) → In c (all_adopted calls) → In d (since_sealed (later ++ Seal again ∷ calls)) → c.0 ≡ d.0 → ⊥
sealed_apart a e [] calls again l c d i j same = j
sealed_apart a e (Adopt x ∷ later) calls again l c d i j same =
    let rest = later ++ Seal again ∷ calls in
    let names : List Adoption → List (WriterId × ℕ) = map (λ c. c.0) in
    elim (In-append d (since_sealed rest) (x ∷ []) j) [
      | inl before ↦ sealed_apart a e later calls again l.1 c d i before same
      | inr (inl last) ↦
          last_apart (names (all_adopted rest)) x.0
          (subst (λ (l : List (WriterId × ℕ)). Once l) (map-append (λ (c : Adoption). c.0) (all_adopted rest) (x ∷ [])) (adopted_once a e (Adopt x ∷ rest) l))
          (subst (λ (k : WriterId × ℕ). In k (names (all_adopted rest))) (same ∙ ap (λ (c : Adoption). c.0) last)
          (In-map (λ (c : Adoption). c.0) c (all_adopted rest) (all_more later (Seal again ∷ calls) c i)))
      | inr (inr none) ↦ none
    ]
sealed_apart a e (Export time ∷ later) calls again l c d i j same = sealed_apart a e later calls again l.1 c d i j same
sealed_apart a e (Seal start ∷ later) calls again l c d i j same = j

-- what it adopted since it was sealed it adopted once
pub left_once : (a : ArchiveState) → a.tombstones ≡ [] → (calls : List Call) → AreAccepted a calls → Once {A = WriterId × ℕ} (map (λ c. c.0) (since_sealed calls))
left_once a e [] l = tt
left_once a e (Adopt x ∷ calls) l =
    subst (λ (l : List (WriterId × ℕ)). Once l) (sym (map-append (λ (c : Adoption). c.0) (since_sealed calls) (x ∷ [])))
    (Once-append (map (λ c. c.0) (since_sealed calls)) (x.0 ∷ []) (left_once a e calls l.1) ((λ i. i), tt)
    (λ k i j. elim j [
      | inl same ↦
          last_apart (map (λ c. c.0) (all_adopted calls)) x.0
          (subst (λ (l : List (WriterId × ℕ)). Once l) (map-append (λ (c : Adoption). c.0) (all_adopted calls) (x ∷ [])) (adopted_once a e (Adopt x ∷ calls) l))
          (let c = map-In (λ (c : Adoption). c.0) k (since_sealed calls) i in
          subst (λ (k : WriterId × ℕ). In k (map (λ c. c.0) (all_adopted calls))) same
          (subst (λ (k : WriterId × ℕ). In k (map (λ c. c.0) (all_adopted calls))) (sym c.2) (In-map (λ (c : Adoption). c.0) c.0 (all_adopted calls) (left_all calls c.0 c.1))))
      | inr none ↦ none
    ]))
  where
    left_all : (calls : List Call) (c : Adoption) → In c (since_sealed calls) → In c (all_adopted calls)
    left_all [] c i = i
    left_all (Adopt d ∷ calls) c i = elim (In-append c (since_sealed calls) (d ∷ []) i) [
      | inl before ↦ In-left c (all_adopted calls) (d ∷ []) (left_all calls c before)
      | inr last ↦ In-right c (all_adopted calls) (d ∷ []) last
    ]
    left_all (Export time ∷ calls) c i = left_all calls c i
    left_all (Seal start ∷ calls) c i = absurd i
left_once a e (Export time ∷ calls) l = left_once a e calls l.1
left_once a e (Seal start ∷ calls) l = tt

none_left : (a : ArchiveState) (start : ℕ) → seal_refusal a start ≡ None → a.unexported ≡ false
none_left a start e =
    when_none a.unexported refusals.Unexported (none_of (when (nat_le start a.exported) refusals.StartNotLater ∷ when a.unexported refusals.Unexported ∷ []) e).1.0

-- an archive that adopted nothing since its last export told all that it ever adopted
module _ (a : ArchiveState) (empty : a.totals ≡ []) (none : a.tombstones ≡ []) (sealed : a.sealed ≡ 0) where
  left : (calls : List Call) → drop (driven a calls).sealed (driven a calls).tombstones ≡ map tombstone (since_sealed calls)
  left calls = tombstones_left a empty (ap (drop a.sealed) none ∙ ap (λ n. drop n []) sealed) (omega (arith, sealed)) calls

  -- what was adopted was exported, or is still to be: where nothing was adopted since the last export, it was exported
  abbrev Told : List Call → Adoption → Type 0
  Told calls c = ((driven a calls).unexported ≡ false → WasExported a calls (tombstone c)) × (WasExported a calls (tombstone c) ⊎ In c (since_sealed calls))

  tell : (calls : List Call) → AreAccepted a calls → (c : Adoption) → In c (all_adopted calls) → Told calls c
  tell [] l c i = absurd i
  tell (Adopt d ∷ calls) l c i = (
    λ u. absurd (true≢false u),
    elim (In-append c (all_adopted calls) (d ∷ []) i) [
      | inl before ↦ elim (tell calls l.1 c before).1 [ inl t ↦ inl t | inr r ↦ inr (In-left c (since_sealed calls) (d ∷ []) r) ]
      | inr last ↦ inr (In-right c (since_sealed calls) (d ∷ []) last)
    ],
  )
  tell (Export time ∷ calls) l c i =
      let was : WasExported a (Export time ∷ calls) (tombstone c) = elim (tell calls l.1 c i).1 [
        | inl t ↦ inr t
        | inr r ↦ inl (In-right (tombstone c) (driven a calls).totals (drop (driven a calls).sealed (driven a calls).tombstones)
            (subst (λ (l : List ExportPoint). In (tombstone c) l) (sym (left calls)) (In-map tombstone c (since_sealed calls) r)))
      ] in (λ u. was, inl was)
  tell (Seal start ∷ calls) l c i =
      let was = (tell calls l.1 c i).0 (none_left (driven a calls) start l.0) in (λ u. was, inl was)

  pub all_exported : (calls : List Call) → AreAccepted a calls → (driven a calls).unexported ≡ false → (c : Adoption) → In c (all_adopted calls) → WasExported a calls (tombstone c)
  all_exported calls l u c i = (tell calls l c i).0 u
