-- Where what counts of each incarnation is all that is to count of it, archives change no total.
use Rattle.std.proofs.Common.{◌≡◌, ℕ, Bool, true, false, not, ◌&&◌, cond, inl, inr, List, [], ◌∷◌, ◌++◌, map, filter, Option, Some, None, refl, sym, ap, subst, ◌∙◌}
use mathlib.Core.Bool.{true≢false}
use mathlib.Core.List.{map-map}
use Rattle.std.proofs.lemmas.Bool.{and_parts}
use Rattle.std.proofs.lemmas.List.{map-append}
use Rattle.std.specs.List.{list_any}
use Rattle.std.specs.Option.{option_map_or}
use Rattle.std.specs.declared.cmp.Ordering.{Ordering}
use Rattle.schedule_kit.specs.Deeds.{Made}
use Rattle.schedule_kit.specs.Members.{In, Once}
use Rattle.schedule_kit.specs.Rounds.{Rounding, IsSound}
use Rattle.schedule_kit.specs.Rows.{IsAdded, in_row, values_fed}
use Rattle.schedule_kit.specs.Taken.{newest, entries_taken}
use Rattle.schedule_kit.specs.Totals.{total_where}
use Rattle.schedule_kit.proofs.Members.{filter-In, In-filter, In-append, In-left, In-right, map-In, In-map, flat_map-In, In-flat_map, any-In}
use Rattle.schedule_kit.proofs.Newest.{NewestIs, newest_is}
use Rattle.schedule_kit.proofs.Parts as parts
use Rattle.schedule_kit.proofs.Parts.{AreTaken}
use Rattle.schedule_kit.proofs.Recorded.{Once-append}
use Rattle.schedule_kit.proofs.Totals.{total_same, total-map}
use Rattle.archive_kit.specs.Adopting.{Archiving, Counted, AreArchives, own, adoptees, counted, values_counted, EachOnce, AreTombstones, is_adopted}
use Rattle.archive_kit.proofs.Hiding.{no_archive, never_adopted}
use Rattle.archive_kit.proofs.Lists.{any_member, member_any}
use Rattle.archive_kit.proofs.Counting.{values_total, fed_total}
use Rattle.archive_kit.proofs.Once.{once_same}

module _ {A B : Type 0} (f : A → B) where
  pub once_below : (xs : List A) → Once (map f xs) → Once xs
  once_below [] h = tt
  once_below (x ∷ xs) h = (λ i. h.0 (In-map f x xs i), once_below xs h.1)

  one_of : (xs : List A) → Once (map f xs) → (x y : A) → In x xs → In y xs → f x ≡ f y → x ≡ y
  one_of [] h x y i j e = absurd i
  one_of (z ∷ xs) h x y (inl a) (inl b) e = a ∙ sym b
  one_of (z ∷ xs) h x y (inl a) (inr j) e = absurd (h.0 (subst (λ (v : B). In v (map f xs)) (sym e ∙ ap f a) (In-map f y xs j)))
  one_of (z ∷ xs) h x y (inr i) (inl b) e = absurd (h.0 (subst (λ (v : B). In v (map f xs)) (e ∙ ap f b) (In-map f x xs i)))
  one_of (z ∷ xs) h x y (inr i) (inr j) e = one_of xs h.1 x y i j e

once_filter : {A : Type 0} (p : A → Bool) (xs : List A) → Once xs → Once (filter p xs)
once_filter p [] h = tt
once_filter p (x ∷ xs) h = elim (p x) as (λ b. Once (cond b (x ∷ filter p xs) (filter p xs))) [ true ↦ (λ i. h.0 (filter-In p x xs i).0, once_filter p xs h.1) | false ↦ once_filter p xs h.1 ]

map_itself : {A : Type 0} (f : A → A) (xs : List A) → ((x : A) → f x ≡ x) → map f xs ≡ xs
map_itself f [] h = refl
map_itself f (x ∷ xs) h = ap (λ y. y ∷ map f xs) (h x) ∙ ap (λ l. x ∷ l) (map_itself f xs h)

module _ {N K I X P : Type 0} (r : Rounding N K I X P) (s : IsSound r) (how : Archiving N K I X) (are : AreTombstones r how)
    (ms : List (Made N)) (taken : AreTaken r.who ms) (incarnations : List (ℕ × ℕ)) (once : Once {A = I × ℕ} (map (λ i. (r.who i.0, i.1)) incarnations)) (covered : (m : Made N) → In m ms → In {A = ℕ × ℕ} (m.writer, m.start) incarnations) where
  abbrev adopted : I → ℕ → Bool
  adopted = is_adopted r how ms

  abbrev E : ℕ × ℕ → List N
  E i = entries_taken ms i.0 i.1

  abbrev owns : ℕ × ℕ → Bool
  owns i = not (how.is_archive (r.who i.0)) && not (adopted (r.who i.0) i.1)

  abbrev Adoptees : List (Counted N)
  Adoptees = adoptees r how E incarnations

  abbrev All : List (Counted N)
  All = counted r how adopted E incarnations

  -- the newest collection of an archive has each tombstone that one of its collections has
  grown : (m : Made N) (x : X) → In m ms → In x (r.names m.writer m.entries) → (o : Option (Made N)) → newest ms m.writer m.start ≡ o → NewestIs ms m.writer m.start o → In x (r.names m.writer (entries_taken ms m.writer m.start))
  grown m x i j None e h = absurd (h m i refl refl)
  grown m x i j (Some n) e h =
      let first = parts.newest_first r s ms taken n h.0 (λ a b w t. h.3 a b (w ∙ h.1) (t ∙ h.2)) in
      let its : r.names m.writer (entries_taken ms m.writer m.start) ≡ r.names n.writer n.entries = ap (λ (m' : Option (Made N)). r.names m.writer (option_map_or (λ (m' : Made N). m'.entries) m' [])) e ∙ ap (λ w. r.names w n.entries) (sym h.1) in
      subst (λ (l : List X). In x l) (sym its) (elim (first m i (sym h.1) (sym h.2)) [
        | inl same ↦ subst (λ (a : Made N). In x (r.names a.writer a.entries)) same j
        | inr earlier ↦ parts.names_grow r s m n x (sym h.1) earlier j
      ])

  -- what has a tombstone was adopted by some archive's newest collection
  adoptee_there : (w start : ℕ) → adopted (r.who w) start ≡ true → (c : Counted N) × In c Adoptees × (r.who c.0.0 ≡ r.who w) × (c.0.1 ≡ start)
  adoptee_there w start h =
      let m = any_member (λ (m : Made N). list_any (r.same_name (how.tombstone (r.who w) start)) (r.names m.writer m.entries)) ms h in
      let named = any-In r.same_name s.names_equivalence s.names_exact (how.tombstone (r.who w) start) (r.names m.0.writer m.0.entries) m.2 in
      let by = are.only m.0.writer m.0.entries (how.tombstone (r.who w) start) named (are.are w start) in
      let still = grown m.0 (how.tombstone (r.who w) start) m.1 named (newest ms m.0.writer m.0.start) refl (newest_is ms m.0.writer m.0.start) in
      let c = are.of_adopted m.0.writer w (E (m.0.writer, m.0.start)) start by still in
      (c.0, In-flat_map (λ j. how.adoptions j.0 (E j)) c.0 (m.0.writer, m.0.start) _ (In-filter (λ j. how.is_archive (r.who j.0)) (m.0.writer, m.0.start) incarnations (covered m.0 m.1) by) c.1, c.2, c.3)

  -- and what an archive's newest collection adopted has a tombstone
  pub adoptee_adopted : (c : Counted N) → In c Adoptees → adopted (r.who c.0.0) c.0.1 ≡ true
  adoptee_adopted c h =
      let i = flat_map-In (λ j. how.adoptions j.0 (E j)) c _ h in
      let by = (filter-In (λ j. how.is_archive (r.who j.0)) i.0 incarnations i.1).1 in
      go i.0 by i.2 (newest ms i.0.0 i.0.1) refl (newest_is ms i.0.0 i.0.1)
    where
      go : (i : ℕ × ℕ) → how.is_archive (r.who i.0) ≡ true → In c (how.adoptions i.0 (entries_taken ms i.0 i.1)) → (o : Option (Made N)) → newest ms i.0 i.1 ≡ o → NewestIs ms i.0 i.1 o → adopted (r.who c.0.0) c.0.1 ≡ true
      go i by j None e n =
          let none = subst (λ (l : List N). In c (how.adoptions i.0 l)) (ap (λ (m : Option (Made N)). option_map_or (λ (m : Made N). m.entries) m []) e) j in
          absurd (subst (λ (l : List X). In (how.tombstone (r.who c.0.0) c.0.1) l) (s.none i.0) (are.each i.0 [] c by none))
      go i by j (Some m) e n =
          let here = subst (λ (l : List N). In c (how.adoptions i.0 l)) (ap (λ (m : Option (Made N)). option_map_or (λ (m : Made N). m.entries) m []) e) j in
          let named = subst (λ (w : ℕ). In (how.tombstone (r.who c.0.0) c.0.1) (r.names w m.entries)) (sym n.1) (are.each i.0 m.entries c by here) in
          member_any (λ (m' : Made N). list_any (r.same_name (how.tombstone (r.who c.0.0) c.0.1)) (r.names m'.writer m'.entries)) ms m n.0
          (member_any (r.same_name (how.tombstone (r.who c.0.0) c.0.1)) (r.names m.writer m.entries) (how.tombstone (r.who c.0.0) c.0.1) named (s.names_equivalence.refl (how.tombstone (r.who c.0.0) c.0.1)))

  own_keys : map (λ c. c.0) (own r how adopted E incarnations) ≡ filter owns incarnations
  own_keys = map-map (λ (c : Counted N). c.0) (λ (i : ℕ × ℕ). (i, E i)) (filter owns incarnations) ∙ map_itself (λ (i : ℕ × ℕ). (i.0, i.1)) (filter owns incarnations) (λ i. refl)

  keys_counted : map (λ c. c.0) All ≡ filter owns incarnations ++ map (λ c. c.0) Adoptees
  keys_counted = map-append (λ (c : Counted N). c.0) (own r how adopted E incarnations) Adoptees ∙ ap (λ (l : List (ℕ × ℕ)). l ++ map (λ c. c.0) Adoptees) own_keys

  owns_not : (i : ℕ × ℕ) → owns i ≡ true → (how.is_archive (r.who i.0) ≡ false) × (adopted (r.who i.0) i.1 ≡ false)
  owns_not i e = let p = and_parts _ _ e in (false_of (how.is_archive (r.who i.0)) p.0, false_of (adopted (r.who i.0) i.1) p.1)
    where
      false_of : (b : Bool) → not b ≡ true → b ≡ false
      false_of true e = sym e
      false_of false e = refl

  -- where no incarnation was adopted twice, each counts at most once
  pub counts_once : EachOnce Adoptees → EachOnce All
  counts_once each = subst (λ (l : List (ℕ × ℕ)). Once l) (sym keys_counted)
      (Once-append (filter owns incarnations) (map (λ c. c.0) Adoptees) (once_filter owns incarnations (once_below (λ (i : ℕ × ℕ). (r.who i.0, i.1)) incarnations once)) each (λ i a b.
      let mine = owns_not i (filter-In owns i incarnations a).1 in
      let c = map-In (λ (c : Counted N). c.0) i Adoptees b in
      true≢false (sym (adoptee_adopted c.0 c.1) ∙ ap (λ (j : ℕ × ℕ). adopted (r.who j.0) j.1) (sym c.2) ∙ mine.1)))

  module _ {V : Type 0} (fed : ℕ → List N → List (X × V)) {G : Type 0} (asks : K → Bool) (group : K → G) (zero : V) (plus : V → V → V) (reads : P → V) (Rg : G → G → Ordering) (is : IsAdded r zero plus reads fed asks) (archives : AreArchives r how fed asks group)
      (F : ℕ × ℕ → List N) (each : EachOnce Adoptees) (there : (c : Counted N) → In c Adoptees → In c.0 incarnations)
      (own_are : (i : ℕ × ℕ) → In i incarnations → how.is_archive (r.who i.0) ≡ false → adopted (r.who i.0) i.1 ≡ false → E i ≡ F i)
      (adopted_are : (c : Counted N) → In c Adoptees → c.1 ≡ F c.0) where
    abbrev Tg : G → Counted N → V
    Tg g c = total_where zero plus (λ p. in_row Rg zero plus asks group g (r.key (r.who c.0.0) c.0.1 p.0)) (λ p. p.1) (fed c.0.0 c.1)

    abbrev writers : List (ℕ × ℕ)
    writers = filter (λ i. not (how.is_archive (r.who i.0))) incarnations

    counted_is : (c : Counted N) → In c All → c.1 ≡ F c.0
    counted_is c h = elim (In-append c (own r how adopted E incarnations) Adoptees h) [
      | inl a ↦
          let i = map-In (λ (i : ℕ × ℕ). (i, E i)) c _ a in
          let f = filter-In owns i.0 incarnations i.1 in
          let n = owns_not i.0 f.1 in
          ap (λ (d : Counted N). d.1) i.2 ∙ own_are i.0 f.0 n.0 n.1 ∙ ap (λ (d : Counted N). F d.0) (sym i.2)
      | inr b ↦ adopted_are c b
    ]

    to : (i : ℕ × ℕ) → In i (map (λ c. c.0) All) → In i writers
    to i h = elim (In-append i (filter owns incarnations) (map (λ c. c.0) Adoptees) (subst (λ (l : List (ℕ × ℕ)). In i l) keys_counted h)) [
      | inl a ↦ let f = filter-In owns i incarnations a in In-filter (λ i. not (how.is_archive (r.who i.0))) i incarnations f.0 (ap not (owns_not i f.1).0)
      | inr b ↦
          let c = map-In (λ (c : Counted N). c.0) i Adoptees b in
          let none = no_archive r s how are ms c.0.0.0 c.0.0.1 (adoptee_adopted c.0 c.1) in
          subst (λ (j : ℕ × ℕ). In j writers) (sym c.2) (In-filter (λ i. not (how.is_archive (r.who i.0))) c.0.0 incarnations (there c.0 c.1) (ap not none))
    ]

    back : (i : ℕ × ℕ) → In i writers → In i (map (λ c. c.0) All)
    back i h =
        let f = filter-In (λ i. not (how.is_archive (r.who i.0))) i incarnations h in
        subst (λ (l : List (ℕ × ℕ)). In i l) (sym keys_counted) (elim (adopted (r.who i.0) i.1) as (λ b. adopted (r.who i.0) i.1 ≡ b → In i (filter owns incarnations ++ map (λ c. c.0) Adoptees)) [
          | true ↦ λ e.
              let c = adoptee_there i.0 i.1 e in
              let same : c.0.0 ≡ i = one_of (λ (i : ℕ × ℕ). (r.who i.0, i.1)) incarnations once c.0.0 i (there c.0 c.1) f.0 (λ n. (c.2 n, c.3 n)) in
              In-right i (filter owns incarnations) _ (subst (λ (j : ℕ × ℕ). In j (map (λ c. c.0) Adoptees)) same (In-map (λ (c : Counted N). c.0) c.0 Adoptees c.1))
          | false ↦ λ e. In-left i (filter owns incarnations) _ (In-filter owns i incarnations f.0 (ap (λ b. b && not (adopted (r.who i.0) i.1)) f.1 ∙ ap not e))
        ] refl)

    -- the totals of what counts are those of F of all writers that are no archives
    pub no_total_changes : (g : G) → total_where zero plus (λ p. in_row Rg zero plus asks group g p.0) (λ p. p.1) (values_counted r fed All)
        ≡ total_where zero plus (λ p. in_row Rg zero plus asks group g p.0) (λ p. p.1) (values_fed r F writers fed)
    no_total_changes g =
        values_total r s zero plus reads fed Rg asks group is how archives adopted (never_adopted r s how are ms) g All
        ∙ total_same zero plus is.sum (Tg g) (λ c. Tg g (c.0, F c.0)) All (λ c h. ap (λ (e : List N). Tg g (c.0, e)) (counted_is c h))
        ∙ sym (total-map zero plus is.sum (λ i. Tg g (i, F i)) (λ c. c.0) All)
        ∙ once_same zero plus is.sum (λ i. Tg g (i, F i)) (map (λ c. c.0) All) writers (counts_once each) (once_filter (λ i. not (how.is_archive (r.who i.0))) incarnations (once_below (λ (i : ℕ × ℕ). (r.who i.0, i.1)) incarnations once)) to back
        ∙ sym (fed_total r s zero plus reads fed Rg asks group is how archives adopted (never_adopted r s how are ms) g F writers)
