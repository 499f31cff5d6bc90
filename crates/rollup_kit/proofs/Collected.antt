-- What a gateway answers that took one collection of each writer.
use Rattle.std.proofs.Common.{◌≡◌, ◌⊎◌, ℕ, ℤ, ◌+◌, ◌<◌, zero, suc, inl, inr, true, List, [], ◌∷◌, ◌++◌, map, length, Option, Some, None, slice_index, refl, sym, ap, subst, ◌∙◌, arith}
use Rattle.std.specs.List.{flat_map}
use Rattle.std.specs.Option.{option_map_or}
use Rattle.agg_kit.specs.Entries.{Entry}
use Rattle.point_kit.specs.declared.writer_id.WriterId.{WriterId}
use Rattle.schedule_kit.specs.Deeds.{Made}
use Rattle.schedule_kit.specs.Members.{In, Once}
use Rattle.schedule_kit.specs.Rounds.{state}
use Rattle.schedule_kit.specs.Rows.{recorded, values_fed, keys_fed}
use Rattle.schedule_kit.specs.Taken.{incarnations_from, newest, entries_taken}
use Rattle.schedule_kit.proofs.Incarnations.{incarnations_once}
use Rattle.schedule_kit.proofs.Members.{map-In, In-map}
use Rattle.schedule_kit.proofs.Newest.{NewestIs, newest_is}
use Rattle.schedule_kit.proofs.Parts.{AreTaken}
use Rattle.schedule_kit.proofs.Recorded as recordings
use Rattle.rollup_kit.specs.Asks.{attributes_cmp, asks, group}
use Rattle.rollup_kit.specs.Parts.{no_parts, plus_parts, parts_of}
use Rattle.rollup_kit.specs.Rollups.{AddsUp, rollup_rows, recorded_rows}
use Rattle.rollup_kit.specs.declared.ask.Ask.{Ask}
use Rattle.rollup_kit.proofs.Recordings.{fed_added, parts_fed, parts_under_keys}
use Rattle.rollup_kit.proofs.RowLaws.{rows_recorded}
use Rattle.rollup_kit.proofs.SetOrders.{sets_total, sets_exact}
use Rattle.rollup_kit.proofs.NamedValues.{are_fed, fed_named}
use Rattle.rollup_kit.proofs.Naming.{rounding_sound}
use Rattle.rollup_kit.specs.Fleets.{collection_of, held_of, Took}
use Rattle.rollup_kit.specs.Naming.{Name, key_at}
use Rattle.rollup_kit.specs.Writers.{entries_fed, AreTold, rounding, ArePlans, Writers, rows_of}

-- incarnations of writers that were started once
in_from : (starts : List ℕ) (k w : ℕ) → w < length starts → In {A = ℕ × ℕ} (k + w, slice_index starts w) (incarnations_from k starts)
in_from [] k w h = absurd (omega arith)
in_from (x ∷ xs) k zero h = let e : k + 0 ≡ k = omega arith in inl (λ i. (e i, x))
in_from (x ∷ xs) k (suc w) h =
    let e : suc k + w ≡ k + suc w = omega arith in
    inr (subst (λ (n : ℕ). In {A = ℕ × ℕ} (n, slice_index xs w) (incarnations_from (suc k) xs)) e (in_from xs (suc k) w (omega arith)))

pub from_in : (starts : List ℕ) (k : ℕ) (i : ℕ × ℕ) → In i (incarnations_from k starts) → (w : ℕ) × (w < length starts) × (i ≡ (k + w, slice_index starts w))
from_in [] k i h = absurd h
from_in (x ∷ xs) k i (inl e) = let z : k ≡ k + 0 = omega arith in (0, omega arith, e ∙ (λ j. (z j, x)))
from_in (x ∷ xs) k i (inr h) =
    let r = from_in xs (suc k) i h in
    let z : suc k + r.0 ≡ k + suc r.0 = omega arith in
    let l = r.1 in
    (suc r.0, omega (arith, l), r.2 ∙ (λ j. (z j, slice_index xs r.0)))

nothing_in : {A : Type 0} (xs : List A) → ((x : A) → In x xs → ⊥) → xs ≡ []
nothing_in [] h = refl
nothing_in (x ∷ xs) h = absurd (h x (inl refl))

module _ (s : Writers) (plans : ArePlans s) (told : AreTold s) (end : ℕ) (history : ℕ → List Entry) (took : List ℕ) (t : Took s history took) where
  abbrev ms : List (Made Entry)
  ms = map (collection_of s end history) took

  abbrev is : List (ℕ × ℕ)
  is = incarnations_from 0 s.starts

  taken : AreTaken (rounding s).who ms
  taken = record {
    order = λ m n i j w st.
        let a = map-In (collection_of s end history) m took i in
        let b = map-In (collection_of s end history) n took j in
        let same : a.0 ≡ b.0 = sym (ap (λ (m : Made Entry). m.writer) a.2) ∙ w ∙ ap (λ (m : Made Entry). m.writer) b.2 in
        inl (a.2 ∙ ap (collection_of s end history) same ∙ sym b.2);
    apart = λ m n i j e.
        let a = map-In (collection_of s end history) m took i in
        let b = map-In (collection_of s end history) n took j in
        told m.writer n.writer (below m.writer a.0 (ap (λ (m : Made Entry). m.writer) a.2) (t.writers a.0 a.1)) (below n.writer b.0 (ap (λ (m : Made Entry). m.writer) b.2) (t.writers b.0 b.1)) e;
  }
    where
      below : (v w : ℕ) → v ≡ w → w < length s.starts → v < length s.starts
      below v w e h = omega (arith, e, h)

  once : Once {A = WriterId × ℕ} (map (λ i. ((rounding s).who i.0, i.1)) is)
  once = incarnations_once {N = Entry} s.starts (rounding s).who told (λ _ _ _. true) 0 [] tt

  covered : (m : Made Entry) → In m ms → In {A = ℕ × ℕ} (m.writer, m.start) is
  covered m i =
      let a = map-In (collection_of s end history) m took i in
      let z : 0 + a.0 ≡ a.0 = omega arith in
      subst (λ (n : Made Entry). In {A = ℕ × ℕ} (n.writer, n.start) is) (sym a.2)
      (subst (λ (n : ℕ). In {A = ℕ × ℕ} (n, (slice_index s.starts a.0)) is) z (in_from s.starts 0 a.0 (t.writers a.0 a.1)))

  -- of an incarnation the gateway took what the history has, or nothing where that feeds nothing
  abbrev IsTaken : ℕ × ℕ → Type 0
  IsTaken i = (entries_taken ms i.0 i.1 ≡ history i.0) ⊎ ((entries_taken ms i.0 i.1 ≡ []) × ((rounding s).names i.0 (history i.0) ≡ []))

  is_taken : (i : ℕ × ℕ) → In i is → IsTaken i
  is_taken i h = by (newest ms i.0 i.1) refl (newest_is ms i.0 i.1)
    where
      of_newest : (o : Option (Made Entry)) → newest ms i.0 i.1 ≡ o → entries_taken ms i.0 i.1 ≡ option_map_or (λ (m : Made Entry). m.entries) o []
      of_newest o e = ap (λ (o : Option (Made Entry)). option_map_or (λ (m : Made Entry). m.entries) o []) e

      by : (o : Option (Made Entry)) → newest ms i.0 i.1 ≡ o → NewestIs ms i.0 i.1 o → IsTaken i
      by (Some n) e at =
          let a = map-In (collection_of s end history) n took at.0 in
          let place : a.0 ≡ i.0 = sym (ap (λ (m : Made Entry). m.writer) a.2) ∙ at.1 in
          inl (of_newest (Some n) e ∙ ap (λ (m : Made Entry). m.entries) a.2 ∙ ap history place)
      by None e none = inr (of_newest None e, at)
        where
          at : (rounding s).names i.0 (history i.0) ≡ []
          at =
              let f = from_in s.starts 0 i h in
              let z : 0 + f.0 ≡ f.0 = omega arith in
              let place : f.0 ≡ i.0 = sym (ap (λ (j : ℕ × ℕ). j.0) f.2 ∙ z) in
              let start : (slice_index s.starts f.0) ≡ i.1 = sym (ap (λ (j : ℕ × ℕ). j.1) f.2) in
              elim (t.missing f.0 f.1) [
                | inl there ↦ absurd (none (collection_of s end history f.0) (In-map (collection_of s end history) f.0 took there) place start)
                | inr nothing ↦ subst (λ (w : ℕ). (rounding s).names w (history w) ≡ []) place nothing
              ]

  no_values : (w : ℕ) (h : List Entry) → (rounding s).names w h ≡ [] → entries_fed s w h ≡ []
  no_values w h e = nothing_in (entries_fed s w h) (λ v i. subst (λ (l : List Name). In v.0 l) e (fed_named (s.plan w) h 0 (s.plan w).streams v i))

  names_taken : (i : ℕ × ℕ) → In i is → (rounding s).names i.0 (entries_taken ms i.0 i.1) ≡ (rounding s).names i.0 (history i.0)
  names_taken i h = elim (is_taken i h) [
    | inl e ↦ ap ((rounding s).names i.0) e
    | inr e ↦ ap ((rounding s).names i.0) e.0 ∙ (rounding_sound s plans).none i.0 ∙ sym e.1
  ]

  values_taken : (i : ℕ × ℕ) → In i is → entries_fed s i.0 (entries_taken ms i.0 i.1) ≡ entries_fed s i.0 (history i.0)
  values_taken i h = elim (is_taken i h) [
    | inl e ↦ ap (entries_fed s i.0) e
    | inr e ↦ ap (entries_fed s i.0) e.0 ∙ no_values i.0 [] ((rounding_sound s plans).none i.0) ∙ sym (no_values i.0 (history i.0) e.1)
  ]

  flat_same : {A B : Type 0} (f g : A → List B) (xs : List A) → ((x : A) → In x xs → f x ≡ g x) → flat_map f xs ≡ flat_map g xs
  flat_same f g [] h = refl
  flat_same f g (x ∷ xs) h = ap (λ l. l ++ flat_map f xs) (h x (inl refl)) ∙ ap (λ l. g x ++ l) (flat_same f g xs (λ y i. h y (inr i)))

  abbrev E : ℕ × ℕ → List Entry
  E i = entries_taken ms i.0 i.1

  values_are : values_fed (rounding s) E is (entries_fed s) ≡ values_fed (rounding s) (λ i. history i.0) is (entries_fed s)
  values_are = flat_same _ _ is (λ i h. ap (map (λ (p : Name × ℤ). (key_at (s.who i.0) i.1 p.0, p.1))) (values_taken i h))

  keys_are : keys_fed (rounding s) E is ≡ keys_fed (rounding s) (λ i. history i.0) is
  keys_are = flat_same _ _ is (λ i h. ap (map (key_at (s.who i.0) i.1)) (names_taken i h))

  -- what is answered is what the histories recorded
  pub answered : (ask : Ask) → AddsUp ask.stream.shape → rollup_rows ask (held_of s end history took) ≡ rows_of s history ask
  unfolding rows_of
  answered ask adds =
      rows_recorded ask (state (rounding s) ms) (values_fed (rounding s) E is (entries_fed s)) (keys_fed (rounding s) E is) adds
      (recordings.rollup_recorded (rounding s) (rounding_sound s plans) ms taken is once covered no_parts plus_parts parts_of (parts_fed ask adds (rounding s) (entries_fed s)) sets_total sets_exact (asks ask) (group ask) (fed_added ask adds (rounding s) (entries_fed s) (are_fed s plans ask))
      ∙ ap (λ values. recorded attributes_cmp no_parts plus_parts (asks ask) (group ask) values (keys_fed (rounding s) E is)) (parts_under_keys ask adds (rounding s) (entries_fed s) (λ i x. key_at (s.who i.0) i.1 x) E is))
      ∙ ap (λ values. recorded_rows ask values (keys_fed (rounding s) E is)) values_are
      ∙ ap (recorded_rows ask (values_fed (rounding s) (λ i. history i.0) is (entries_fed s))) keys_are
