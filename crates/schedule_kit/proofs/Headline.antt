-- Over every lawful history.
use Rattle.std.proofs.Common.{◌≡◌, ℕ, ◌<◌, Bool, true, false, cond, inl, inr, List, [], ◌∷◌, length, Option, Some, None, refl, sym, ap, ◌∙◌}
use mathlib.Core.Bool.{true≢false}
use Rattle.std.specs.List.{flat_map, list_any}
use Rattle.std.specs.declared.cmp.Ordering.{Ordering}
use Rattle.std.specs.Cmp.{IsTotalOrder, IsEquivalence}
use Rattle.std.specs.FinMap.{FinMap, IsAntisymmetric, get}
use Rattle.attr_kit.specs.Exact.{IsExact}
use Rattle.point_kit.specs.Join.{join_cells}
use Rattle.point_kit.specs.declared.cell.Held.TheVariants.{One}
use Rattle.point_kit.specs.declared.cell.Cell.{Cell}
use Rattle.point_kit.specs.States.{state_of, join_maps}
use Rattle.point_kit.proofs.JoinLaws.{cells_commute, cells_associate, cells_idempotent}
use Rattle.point_kit.proofs.StateLaws.{state-append, maps_commute, maps_associate, maps_idempotent}
use Rattle.schedule_kit.specs.Deeds.{Deed, Made, Holder, made, took, TookSame, AreLawful}
use Rattle.schedule_kit.specs.Members.{In}
use Rattle.schedule_kit.specs.Rounds.{Rounding, IsSound, HasNoConflict, part_at, points, state}
use Rattle.schedule_kit.specs.Rows.{IsAdded, rollup, recorded, values_fed, keys_fed}
use Rattle.schedule_kit.specs.Taken.{taken_collections, made_of, newest, recorded_up_to, incarnations}
use Rattle.schedule_kit.proofs.Members.{filter_map-In, In-filter_map, any-In, In-any}
use Rattle.schedule_kit.proofs.Newest.{NewestIs, newest_is}
use Rattle.schedule_kit.proofs.Parts as parts
use Rattle.schedule_kit.proofs.Recorded as recordings
use Rattle.schedule_kit.proofs.Taking.{up_to_newest, are_taken, taken_made, writer_there}
use Rattle.schedule_kit.proofs.Incarnations.{made_in, incarnations_once}

-- collections in any order, and with repeats, have one state
module _ {K V : Type 0} {R : K → K → Ordering} (o : IsTotalOrder R) (anti : IsAntisymmetric R) (eqv : V → V → Bool) (lawsv : IsEquivalence eqv) (exactv : IsExact eqv) {A : Type 0} (f : A → List (K × (ℕ × V))) where
  abbrev S : List A → FinMap R (Cell V)
  S ms = state_of R eqv (flat_map f ms)

  abbrev J : FinMap R (Cell V) → FinMap R (Cell V) → FinMap R (Cell V)
  J = join_maps (join_cells eqv)

  more : (m : A) (ms : List A) → S (m ∷ ms) ≡ J (state_of R eqv (f m)) (S ms)
  more m ms = state-append o anti eqv lawsv exactv (f m) (flat_map f ms)

  absorbs : (m : A) (ms : List A) → In m ms → J (state_of R eqv (f m)) (S ms) ≡ S ms
  absorbs m [] i = absurd i
  absorbs m (x ∷ ms) (inl e) =
      let a : FinMap R (Cell V) = state_of R eqv (f m) in
      let here : S (x ∷ ms) ≡ J a (S ms) = more x ms ∙ ap (λ y. J (state_of R eqv (f y)) (S ms)) (sym e) in
      ap (J a) here ∙ sym (maps_associate o anti (join_cells eqv) (cells_associate eqv lawsv exactv) a a (S ms)) ∙ ap (λ y. J y (S ms)) (maps_idempotent o anti (join_cells eqv) (cells_idempotent eqv lawsv exactv) a) ∙ sym here
  absorbs m (x ∷ ms) (inr i) =
      let a : FinMap R (Cell V) = state_of R eqv (f m) in
      let b : FinMap R (Cell V) = state_of R eqv (f x) in
      ap (J a) (more x ms) ∙ sym (maps_associate o anti (join_cells eqv) (cells_associate eqv lawsv exactv) a b (S ms)) ∙ ap (λ y. J y (S ms)) (maps_commute o anti (join_cells eqv) (cells_commute eqv lawsv exactv) a b)
      ∙ maps_associate o anti (join_cells eqv) (cells_associate eqv lawsv exactv) b a (S ms) ∙ ap (J b) (absorbs m ms i) ∙ sym (more x ms)

  below : (xs ys : List A) → ((m : A) → In m xs → In m ys) → J (S xs) (S ys) ≡ S ys
  below [] ys h = sym (state-append o anti eqv lawsv exactv [] (flat_map f ys))
  below (x ∷ xs) ys h =
      ap (λ y. J y (S ys)) (more x xs) ∙ maps_associate o anti (join_cells eqv) (cells_associate eqv lawsv exactv) (state_of R eqv (f x)) (S xs) (S ys)
      ∙ ap (J (state_of R eqv (f x))) (below xs ys (λ m i. h m (inr i))) ∙ absorbs x ys (h x (inl refl))

  -- order and repeats do not count
  pub same_took : (xs ys : List A) → ((m : A) → In m xs → In m ys) → ((m : A) → In m ys → In m xs) → S xs ≡ S ys
  same_took xs ys h k = sym (below ys xs k) ∙ maps_commute o anti (join_cells eqv) (cells_commute eqv lawsv exactv) (S ys) (S xs) ∙ below xs ys h

module _ {N K I X P : Type 0} (r : Rounding N K I X P) (s : IsSound r) where
  -- gateways that took the same exports hold one state
  pub same_state : (starts : List ℕ) (ds : List (Deed N)) (g h : Holder) → TookSame ds g h → state r (taken_collections starts ds g) ≡ state r (taken_collections starts ds h)
  same_state starts ds g h same = same_took s.total s.antisymmetric r.same s.equivalence s.exact (points r) (taken_collections starts ds g) (taken_collections starts ds h) (moved g h same.0) (moved h g same.1)
    where
      moved : (a b : Holder) → ((k : ℕ) → In k (took ds a) → In k (took ds b)) → (m : Made N) → In m (taken_collections starts ds a) → In m (taken_collections starts ds b)
      moved a b t m i = let c = filter_map-In (made_of (made starts ds)) m (took ds a) i in In-filter_map (made_of (made starts ds)) m c.0 (took ds b) (t c.0 c.1) c.2

  module _ (fits : ℕ → List N → N → Bool) (starts : List ℕ) (gateways : ℕ) (distinct : (v w : ℕ) → v < length starts → w < length starts → r.who v ≡ r.who w → v ≡ w) (ds : List (Deed N)) (lawful : AreLawful fits starts gateways ds) (h : Holder) where
    abbrev has : List (Made N)
    has = taken_collections starts ds h

    its : parts.AreTaken r.who has
    its = are_taken starts fits gateways r.who distinct ds lawful h

    -- no conflict stands
    pub no_conflict : (k : K) → HasNoConflict (get (state r has) k)
    no_conflict k = parts.no_conflict r s has its k

    -- an incarnation's part is its newest collection taken, or nothing
    pub part_is_newest : (w start : ℕ) → w < length starts → (x : X) → get (state r has) (r.key (r.who w) start x) ≡ part_at r (newest has w start) x
    part_is_newest w start there x = go (newest has w start) (newest_is has w start)
      where
        go : (n : Option (Made N)) → NewestIs has w start n → get (state r has) (r.key (r.who w) start x) ≡ part_at r n x
        go None none = parts.part_absent r s has (r.who w) start (λ m i same t. none m i (distinct m.writer w (writer_there starts fits gateways ds lawful m (taken_made starts ds h m i)) there same) t) x
        go (Some n) is =
            let first_of = parts.newest_first r s has its n is.0 (λ m i a b. is.3 m i (a ∙ is.1) (b ∙ is.2)) in
            let here : r.key (r.who w) start x ≡ r.key (r.who n.writer) n.start x = ap (λ v. r.key (r.who v) start x) (sym is.1) ∙ ap (λ v. r.key (r.who n.writer) v x) (sym is.2) in
            ap (get (state r has)) here ∙ elim (list_any (r.same_name x) (r.names n.writer n.entries)) as (λ b. list_any (r.same_name x) (r.names n.writer n.entries) ≡ b
            → get (state r has) (r.key (r.who n.writer) n.start x) ≡ cond b (Some (record { time = n.time; held = One (r.payload n.writer n.entries x) })) None) [
              | true ↦ λ e. parts.part_held r s has its n is.0 first_of x (any-In r.same_name s.names_equivalence s.names_exact x (r.names n.writer n.entries) e)
              | false ↦ λ e. parts.part_none r s has its n is.0 first_of x (λ i. true≢false (sym (In-any r.same_name s.names_equivalence s.names_exact x (r.names n.writer n.entries) i) ∙ e))
            ] refl

    module _ {V : Type 0} (zero : V) (plus : V → V → V) (reads : P → V) (fed : ℕ → List N → List (X × V)) {G : Type 0} {Rg : G → G → Ordering} (og : IsTotalOrder Rg) (antig : IsAntisymmetric Rg) (asks : K → Bool) (group : K → G) (is : IsAdded r zero plus reads fed asks) where
      -- what a gateway answers is what was recorded
      pub answers_recorded : rollup Rg zero plus asks group reads (state r has)
          ≡ recorded Rg zero plus asks group (values_fed r (recorded_up_to starts ds h) (incarnations starts ds) fed) (keys_fed r (recorded_up_to starts ds h) (incarnations starts ds))
      answers_recorded =
          recordings.rollup_recorded r s has its (incarnations starts ds) (incarnations_once starts r.who distinct fits gateways ds lawful) (λ m i. made_in starts fits gateways ds lawful m (taken_made starts ds h m i))
          zero plus reads fed og antig asks group is
          ∙ ap (λ (E : ℕ × ℕ → List N). recorded Rg zero plus asks group (values_fed r E (incarnations starts ds) fed) (keys_fed r E (incarnations starts ds)))
          (λ n i. sym (up_to_newest starts ds h i.0 i.1) n)
