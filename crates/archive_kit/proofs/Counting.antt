-- A roll-up of what is shown: each adopted incarnation counts once, with its adopted collection, and each other with its newest.
use Rattle.std.proofs.Common.{◌≡◌, ℕ, ◌+◌, Bool, true, false, not, ◌&&◌, cond, List, [], ◌∷◌, map, filter, Some, refl, sym, ap, subst, ◌∙◌}
use mathlib.Core.Bool.{true≢false}
use Rattle.std.specs.declared.cmp.Ordering.{Ordering}
use Rattle.std.specs.Ordering.{eq_by_cmp}
use Rattle.std.specs.Cmp.{IsTotalOrder}
use Rattle.std.specs.FinMap.{FinMap, IsAntisymmetric}
use Rattle.point_kit.specs.declared.cell.Cell.{Cell}
use Rattle.point_kit.specs.States.{tabulate}
use Rattle.schedule_kit.specs.Deeds.{Made}
use Rattle.schedule_kit.specs.Members.{In, Once}
use Rattle.schedule_kit.specs.Rounds.{Rounding, IsSound, state}
use Rattle.schedule_kit.specs.Rows.{IsAdded, in_row, rollup, recorded, values_fed, keys_fed}
use Rattle.schedule_kit.specs.Taken.{entries_taken}
use Rattle.schedule_kit.specs.Totals.{total, total_where}
use Rattle.schedule_kit.proofs.Members.{filter-In}
use Rattle.schedule_kit.proofs.Parts.{AreTaken}
use Rattle.schedule_kit.proofs.Recorded as recordings
use Rattle.schedule_kit.proofs.Totals.{total-append, total_same, total-map, total-flat_map}
use Rattle.archive_kit.specs.Showing.{shown}
use Rattle.archive_kit.specs.Adopting.{Archiving, Counted, not_adopted, HideWhole, AreArchives, own, adoptees, counted, values_counted}
use Rattle.archive_kit.proofs.Lists.{no_member}
use Rattle.archive_kit.proofs.Rest.{shown_is, rest_taken, entries_rest}

module _ {N K I X P : Type 0} (r : Rounding N K I X P) (s : IsSound r) {V : Type 0} (zero : V) (plus : V → V → V) (reads : P → V) (fed : ℕ → List N → List (X × V)) {G : Type 0} (Rg : G → G → Ordering) (asks : K → Bool) (group : K → G) (is : IsAdded r zero plus reads fed asks)
    (how : Archiving N K I X) (archives : AreArchives r how fed asks group)
    (adopted : I → ℕ → Bool) (never : (w start : ℕ) → how.is_archive (r.who w) ≡ true → adopted (r.who w) start ≡ false) where
  abbrev pub rows : G → K → Bool
  rows = in_row Rg zero plus asks group

  abbrev pub key_of : ℕ × ℕ → X → K
  key_of i x = r.key (r.who i.0) i.1 x

  -- what an incarnation with entries adds to a row
  abbrev pub T : G → Counted N → V
  T g c = total_where zero plus (λ p. rows g (key_of c.0 p.0)) (λ p. p.1) (fed c.0.0 c.1)

  pub values_total : (g : G) (cs : List (Counted N)) → total_where zero plus (λ p. rows g p.0) (λ p. p.1) (values_counted r fed cs) ≡ total zero plus (T g) cs
  values_total g cs =
      total-flat_map zero plus is.sum (λ p. cond (rows g p.0) p.1 zero) (λ c. map (λ p. (key_of c.0 p.0, p.1)) (fed c.0.0 c.1)) cs
      ∙ total_same zero plus is.sum _ (T g) cs (λ c h. total-map zero plus is.sum (λ p. cond (rows g p.0) p.1 zero) (λ p. (key_of c.0 p.0, p.1)) (fed c.0.0 c.1))

  pub fed_total : (g : G) (E : ℕ × ℕ → List N) (incarnations : List (ℕ × ℕ)) → total_where zero plus (λ p. rows g p.0) (λ p. p.1) (values_fed r E incarnations fed) ≡ total zero plus (λ i. T g (i, E i)) incarnations
  fed_total g E incarnations =
      total-flat_map zero plus is.sum (λ p. cond (rows g p.0) p.1 zero) (λ i. map (λ p. (key_of i p.0, p.1)) (fed i.0 (E i))) incarnations
      ∙ total_same zero plus is.sum _ (λ i. T g (i, E i)) incarnations (λ i h. total-map zero plus is.sum (λ p. cond (rows g p.0) p.1 zero) (λ p. (key_of i p.0, p.1)) (fed i.0 (E i)))

  -- no entries feed nothing
  T_none : (g : G) (i : ℕ × ℕ) → T g (i, []) ≡ zero
  T_none g i =
      let none : fed i.0 [] ≡ [] = no_member (fed i.0 []) (λ p h. subst (λ (l : List X). In p.0 l) (s.none i.0) (is.named i.0 [] p h)) in
      ap (λ (l : List (X × V)). total_where zero plus (λ p. rows g (key_of i p.0)) (λ p. p.1) l) none

  -- an archive adds what the incarnations add that it adopted
  T_archive : (g : G) (i : ℕ × ℕ) (h : List N) → how.is_archive (r.who i.0) ≡ true → T g (i, h) ≡ total zero plus (T g) (how.adoptions i.0 h)
  T_archive g i h a =
      ap (λ (l : List (X × V)). total_where zero plus (λ p. rows g (key_of i p.0)) (λ p. p.1) l) (archives.feeds i.0 h a)
      ∙ total-flat_map zero plus is.sum (λ p. cond (rows g (key_of i p.0)) p.1 zero) (λ c. fed c.0.0 c.1) (how.adoptions i.0 h)
      ∙ total_same zero plus is.sum _ (T g) (how.adoptions i.0 h) (λ c j.
      total_same zero plus is.sum _ (λ p. cond (rows g (key_of c.0 p.0)) p.1 zero) (fed c.0.0 c.1) (λ p k.
      ap (λ b. cond (b && eq_by_cmp Rg g (group (key_of i p.0))) p.1 zero) (archives.asked i.0 i.1 h c p.0 a j)
      ∙ ap (λ y. cond (asks (key_of c.0 p.0) && eq_by_cmp Rg g y) p.1 zero) (archives.grouped i.0 i.1 h c p.0 a j)))

  module _ (E : ℕ × ℕ → List N) where
    -- the entries of those that were not adopted
    abbrev rest : ℕ × ℕ → List N
    rest i = cond (adopted (r.who i.0) i.1) [] (E i)

    abbrev owns : ℕ × ℕ → Bool
    owns i = not (how.is_archive (r.who i.0)) && not (adopted (r.who i.0) i.1)

    swap : (a b c : V) → plus a (plus b c) ≡ plus b (plus a c)
    swap a b c = sym (is.sum.assoc a b c) ∙ ap (λ x. plus x c) (is.sum.comm a b) ∙ is.sum.assoc b a c

    abbrev A : G → List (ℕ × ℕ) → V
    A g js = total zero plus (λ i. T g (i, E i)) (filter owns js)

    abbrev B : G → List (ℕ × ℕ) → V
    B g js = total zero plus (λ i. total zero plus (T g) (how.adoptions i.0 (E i))) (filter (λ i. how.is_archive (r.who i.0)) js)

    abbrev Whole : G → List (ℕ × ℕ) → V
    Whole g js = total zero plus (λ i. T g (i, rest i)) js

    -- one incarnation more
    abbrev Step : G → ℕ × ℕ → List (ℕ × ℕ) → Bool → Bool → Type 0
    Step g i js a d = plus (T g (i, cond d [] (E i))) (Whole g js)
        ≡ plus (total zero plus (λ i. T g (i, E i)) (cond (not a && not d) (i ∷ filter owns js) (filter owns js))) (total zero plus (λ i. total zero plus (T g) (how.adoptions i.0 (E i))) (cond a (i ∷ filter (λ i. how.is_archive (r.who i.0)) js) (filter (λ i. how.is_archive (r.who i.0)) js)))

    cases : (g : G) (i : ℕ × ℕ) (js : List (ℕ × ℕ)) → Whole g js ≡ plus (A g js) (B g js) → (a d : Bool) → how.is_archive (r.who i.0) ≡ a → adopted (r.who i.0) i.1 ≡ d → Step g i js a d
    cases g i js so_far true true e f = absurd (true≢false (sym f ∙ never i.0 i.1 e))
    cases g i js so_far true false e f = ap (plus (T g (i, E i))) so_far ∙ swap (T g (i, E i)) (A g js) (B g js) ∙ ap (λ x. plus (A g js) (plus x (B g js))) (T_archive g i (E i) e)
    cases g i js so_far false true e f = ap (λ x. plus x (Whole g js)) (T_none g i) ∙ is.sum.zero_left _ ∙ so_far
    cases g i js so_far false false e f = ap (plus (T g (i, E i))) so_far ∙ sym (is.sum.assoc (T g (i, E i)) (A g js) (B g js))

    step : (g : G) (i : ℕ × ℕ) (js : List (ℕ × ℕ)) → Whole g js ≡ plus (A g js) (B g js) → (a d : Bool) → how.is_archive (r.who i.0) ≡ a → adopted (r.who i.0) i.1 ≡ d → Step g i js (how.is_archive (r.who i.0)) (adopted (r.who i.0) i.1)
    step g i js so_far a d e f = subst (λ (x : Bool). Step g i js x (adopted (r.who i.0) i.1)) (sym e) (subst (λ (x : Bool). Step g i js a x) (sym f) (cases g i js so_far a d e f))

    parted : (g : G) (js : List (ℕ × ℕ)) → total zero plus (λ i. T g (i, rest i)) js
        ≡ plus (total zero plus (λ i. T g (i, E i)) (filter owns js)) (total zero plus (λ i. total zero plus (T g) (how.adoptions i.0 (E i))) (filter (λ i. how.is_archive (r.who i.0)) js))
    parted g [] = sym (is.sum.zero_left zero)
    parted g (i ∷ js) = step g i js (parted g js) (how.is_archive (r.who i.0)) (adopted (r.who i.0) i.1) refl refl

    count_total : (g : G) (js : List (ℕ × ℕ)) → total_where zero plus (λ p. rows g p.0) (λ p. p.1) (values_fed r rest js fed)
        ≡ total_where zero plus (λ p. rows g p.0) (λ p. p.1) (values_counted r fed (counted r how adopted E js))
    count_total g js =
        fed_total g rest js ∙ parted g js
        ∙ ap (λ x. plus x (total zero plus (λ i. total zero plus (T g) (how.adoptions i.0 (E i))) (filter (λ i. how.is_archive (r.who i.0)) js))) (sym (total-map zero plus is.sum (T g) (λ i. (i, E i)) (filter owns js)))
        ∙ ap (plus (total zero plus (T g) (own r how adopted E js))) (sym (total-flat_map zero plus is.sum (T g) (λ i. how.adoptions i.0 (E i)) (filter (λ i. how.is_archive (r.who i.0)) js)))
        ∙ sym (total-append zero plus is.sum (T g) (own r how adopted E js) (adoptees r how E js))
        ∙ sym (values_total g (counted r how adopted E js))

  module _ (og : IsTotalOrder Rg) (antig : IsAntisymmetric Rg) (names : K → K → Bool) (ms : List (Made N)) (taken : AreTaken r.who ms) (whole : HideWhole r names adopted ms)
      (incarnations : List (ℕ × ℕ)) (once : Once {A = I × ℕ} (map (λ i. (r.who i.0, i.1)) incarnations)) (covered : (m : Made N) → In m ms → In {A = ℕ × ℕ} (m.writer, m.start) incarnations) where
    abbrev E : ℕ × ℕ → List N
    E i = entries_taken ms i.0 i.1

    -- what is shown answers what was recorded in the incarnations that were not adopted, archives among them
    pub shown_recorded : rollup Rg zero plus asks group reads (shown names (state r ms)) ≡ recorded Rg zero plus asks group (values_fed r (rest E) incarnations fed) (keys_fed r (rest E) incarnations)
    shown_recorded =
        ap (λ (m : FinMap r.order (Cell P)). rollup Rg zero plus asks group reads m) (shown_is r s adopted names ms whole)
        ∙ recordings.rollup_recorded r s (not_adopted r.who adopted ms) (rest_taken r.who adopted ms taken) incarnations once (λ m i. covered m (filter-In _ m ms i).0) zero plus reads fed og antig asks group is
        ∙ ap (λ (F : ℕ × ℕ → List N). recorded Rg zero plus asks group (values_fed r F incarnations fed) (keys_fed r F incarnations)) (λ n i. entries_rest r.who adopted ms i.0 i.1 n)

    -- and so each adopted incarnation counts with its adopted collection, and each other with its newest
    pub shown_counted : rollup Rg zero plus asks group reads (shown names (state r ms))
        ≡ recorded Rg zero plus asks group (values_counted r fed (counted r how adopted E incarnations)) (keys_fed r (rest E) incarnations)
    shown_counted = shown_recorded ∙ (λ n. tabulate Rg (map group (filter asks (keys_fed r (rest E) incarnations))) (λ g. Some (record {
      total = count_total E g incarnations n;
      points = total_where 0 ◌+◌ (rows g) (λ _. 1) (keys_fed r (rest E) incarnations);
      conflicts = 0;
    })))
