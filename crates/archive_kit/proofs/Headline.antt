-- Over every lawful history, archives among its writers.
use Rattle.std.proofs.Common.{None, ◌≡◌, ℕ, Bool, true, false, not, cond, List, [], filter, sym, ap, subst, ◌∙◌}
use Rattle.std.specs.declared.cmp.Ordering.{Ordering}
use Rattle.std.specs.Cmp.{IsTotalOrder}
use Rattle.std.specs.FinMap.{IsAntisymmetric, get}
use Rattle.schedule_kit.specs.Deeds.{Deed, Made, Holder, made, first, entries_at, AreLawful, IsTold}
use Rattle.schedule_kit.specs.Rounds.{Rounding, IsSound, HasNoConflict, state}
use Rattle.schedule_kit.specs.Members.{In}
use Rattle.schedule_kit.specs.Rows.{IsAdded, rollup, recorded, in_row, values_fed, keys_fed}
use Rattle.schedule_kit.specs.Totals.{total_where}
use Rattle.schedule_kit.specs.Taken.{taken_collections, recorded_up_to, incarnations, entries_taken}
use Rattle.schedule_kit.proofs.Taking.{up_to_newest, are_taken, taken_made}
use Rattle.schedule_kit.proofs.Incarnations.{made_in, incarnations_once, entries_before}
use Rattle.schedule_kit.proofs.Headline.{no_conflict}
use Rattle.archive_kit.specs.Showing.{hides, shown}
use Rattle.archive_kit.proofs.Showing.{get-shown}
use Rattle.archive_kit.specs.Adopting.{Archiving, Counted, AreArchives, adoptees, counted, values_counted, EachOnce, AdoptMade, AreTombstones, is_adopted}
use Rattle.archive_kit.proofs.Counting.{shown_counted}
use Rattle.archive_kit.proofs.Exact.{counts_once, no_total_changes}
use Rattle.archive_kit.proofs.Hiding.{hide_whole, never_adopted}

module _ {N K I X P : Type 0} (r : Rounding N K I X P) (s : IsSound r) (fits : ℕ → List N → N → Bool) (starts : List ℕ) (gateways : ℕ) (told : IsTold r.who starts) (ds : List (Deed N)) (lawful : AreLawful fits starts gateways ds) (h : Holder)
    (how : Archiving N K I X) (are : AreTombstones r how) where
  pub counted_once : EachOnce (adoptees r how (recorded_up_to starts ds h) (incarnations starts ds)) → EachOnce (counted r how (is_adopted r how (taken_collections starts ds h)) (recorded_up_to starts ds h) (incarnations starts ds))
  counted_once each =
      let once = counts_once r s how are (taken_collections starts ds h) (are_taken starts fits gateways r.who told ds lawful h) (incarnations starts ds) (incarnations_once starts r.who told fits gateways ds lawful) (λ m i. made_in starts fits gateways ds lawful m (taken_made starts ds h m i)) in
      let moved = subst (λ (E : ℕ × ℕ → List N). EachOnce (adoptees r how E (incarnations starts ds))) (λ n i. up_to_newest starts ds h i.0 i.1 n) each in
      subst (λ (E : ℕ × ℕ → List N). EachOnce (counted r how (is_adopted r how (taken_collections starts ds h)) E (incarnations starts ds))) (λ n i. sym (up_to_newest starts ds h i.0 i.1) n) (once moved)

module _ {N K I X P : Type 0} (r : Rounding N K I X P) (s : IsSound r) (fits : ℕ → List N → N → Bool) (starts : List ℕ) (gateways : ℕ) (told : IsTold r.who starts) (ds : List (Deed N)) (lawful : AreLawful fits starts gateways ds) (h : Holder)
    {V : Type 0} (zero : V) (plus : V → V → V) (reads : P → V) (fed : ℕ → List N → List (X × V)) {G : Type 0} (Rg : G → G → Ordering) (asks : K → Bool) (group : K → G) (is : IsAdded r zero plus reads fed asks)
    (how : Archiving N K I X) (are : AreTombstones r how) (archives : AreArchives r how fed asks group) where
  abbrev has : List (Made N)
  has = taken_collections starts ds h

  abbrev adopted : I → ℕ → Bool
  adopted = is_adopted r how has

  pub shown_answers : IsTotalOrder Rg → IsAntisymmetric Rg → rollup Rg zero plus asks group reads (shown how.names (state r has))
      ≡ recorded Rg zero plus asks group
      (values_counted r fed (counted r how adopted (recorded_up_to starts ds h) (incarnations starts ds)))
      (keys_fed r (λ i. cond (adopted (r.who i.0) i.1) [] (recorded_up_to starts ds h i)) (incarnations starts ds))
  shown_answers og antig =
      shown_counted r s zero plus reads fed Rg asks group is how archives adopted (never_adopted r s how are has)
      og antig how.names has (are_taken starts fits gateways r.who told ds lawful h) (hide_whole r s how are has)
      (incarnations starts ds) (incarnations_once starts r.who told fits gateways ds lawful) (λ m i. made_in starts fits gateways ds lawful m (taken_made starts ds h m i))
      ∙ ap (λ (E : ℕ × ℕ → List N). recorded Rg zero plus asks group (values_counted r fed (counted r how adopted E (incarnations starts ds))) (keys_fed r (λ i. cond (adopted (r.who i.0) i.1) [] (E i)) (incarnations starts ds)))
      (λ n i. sym (up_to_newest starts ds h i.0 i.1) n)

  -- what the archives adopted whose exports were taken
  abbrev Adoptees : List (Counted N)
  Adoptees = adoptees r how (recorded_up_to starts ds h) (incarnations starts ds)

  same_entries : (i : ℕ × ℕ) → recorded_up_to starts ds h i ≡ entries_taken has i.0 i.1
  same_entries i = up_to_newest starts ds h i.0 i.1

  -- where each counts with all that F has of it, the totals are those of F of all writers that are no archives
  pub none_changes : (F : ℕ × ℕ → List N) → EachOnce Adoptees → ((c : Counted N) → In c Adoptees → In c.0 (incarnations starts ds))
      → ((i : ℕ × ℕ) → In i (incarnations starts ds) → how.is_archive (r.who i.0) ≡ false → adopted (r.who i.0) i.1 ≡ false → recorded_up_to starts ds h i ≡ F i)
      → ((c : Counted N) → In c Adoptees → c.1 ≡ F c.0)
      → (g : G) → total_where zero plus (λ p. in_row Rg zero plus asks group g p.0) (λ p. p.1) (values_counted r fed (counted r how adopted (recorded_up_to starts ds h) (incarnations starts ds)))
      ≡ total_where zero plus (λ p. in_row Rg zero plus asks group g p.0) (λ p. p.1) (values_fed r F (filter (λ i. not (how.is_archive (r.who i.0))) (incarnations starts ds)) fed)
  none_changes F each there owns adoptees_are g =
      let step : (λ (i : ℕ × ℕ). entries_taken has i.0 i.1) ≡ recorded_up_to starts ds h = λ n i. sym (same_entries i) n in
      subst (λ (E : ℕ × ℕ → List N). EachOnce (adoptees r how E (incarnations starts ds))
      → ((c : Counted N) → In c (adoptees r how E (incarnations starts ds)) → In c.0 (incarnations starts ds))
      → ((i : ℕ × ℕ) → In i (incarnations starts ds) → how.is_archive (r.who i.0) ≡ false → adopted (r.who i.0) i.1 ≡ false → E i ≡ F i)
      → ((c : Counted N) → In c (adoptees r how E (incarnations starts ds)) → c.1 ≡ F c.0)
      → total_where zero plus (λ p. in_row Rg zero plus asks group g p.0) (λ p. p.1) (values_counted r fed (counted r how adopted E (incarnations starts ds)))
      ≡ total_where zero plus (λ p. in_row Rg zero plus asks group g p.0) (λ p. p.1) (values_fed r F (filter (λ i. not (how.is_archive (r.who i.0))) (incarnations starts ds)) fed)) step
      (λ each there owns adopted_are. no_total_changes r s how are has (are_taken starts fits gateways r.who told ds lawful h) (incarnations starts ds) (incarnations_once starts r.who told fits gateways ds lawful) (λ m i. made_in starts fits gateways ds lawful m (taken_made starts ds h m i))
      fed asks group zero plus reads Rg is archives F each there owns adopted_are g)
      each there owns adoptees_are

-- what archives adopted is what the incarnations recorded up to the adopted collections, where these were made
module _ {N : Type 0} (starts : List ℕ) (fits : ℕ → List N → N → Bool) (gateways : ℕ) (ds : List (Deed N)) (lawful : AreLawful fits starts gateways ds) (cs : List (Counted N)) (are_made : AdoptMade (made starts ds) cs) where
  pub adopted_recorded : (c : Counted N) → In c cs → (n : ℕ) × (c.1 ≡ entries_at starts (first n ds) c.0.0 c.0.1)
  adopted_recorded c i =
      let m = are_made c i in
      let own = entries_before starts ds m.0 m.1 in
      (m.0.before, sym m.4 ∙ own.1 ∙ ap (λ w. entries_at starts (first m.0.before ds) w m.0.start) m.2 ∙ ap (entries_at starts (first m.0.before ds) c.0.0) m.3)

  pub adopted_there : (c : Counted N) → In c cs → In {A = ℕ × ℕ} c.0 (incarnations starts ds)
  adopted_there c i =
      let m = are_made c i in
      let same : ◌≡◌ {A = ℕ × ℕ} (m.0.writer, m.0.start) (c.0.0, c.0.1) = λ n. (m.2 n, m.3 n) in
      subst (λ (p : ℕ × ℕ). In p (incarnations starts ds)) same (made_in starts fits gateways ds lawful m.0 m.1)

-- no conflict is shown
module _ {N K I X P : Type 0} (r : Rounding N K I X P) (s : IsSound r) (fits : ℕ → List N → N → Bool) (starts : List ℕ) (gateways : ℕ) (told : IsTold r.who starts) (ds : List (Deed N)) (lawful : AreLawful fits starts gateways ds) (h : Holder) (names : K → K → Bool) where
  pub no_conflict_shown : (k : K) → HasNoConflict (get (shown names (state r (taken_collections starts ds h))) k)
  no_conflict_shown k =
      subst HasNoConflict (sym (get-shown s.total s.antisymmetric names (state r (taken_collections starts ds h)) k))
      (elim (hides names (state r (taken_collections starts ds h)) k) as (λ b. HasNoConflict (cond (not b) (get (state r (taken_collections starts ds h)) k) None)) [
        | true ↦ tt
        | false ↦ no_conflict r s fits starts gateways told ds lawful h k
      ])
