-- A kit with archives added is sound, and its archives are archives.
use Rattle.std.proofs.Common.{◌≡◌, ℕ, Bool, true, false, cond, inl, inr, List, [], ◌∷◌, ◌++◌, map, refl, sym, ap, subst, ◌∙◌}
use mathlib.Core.Bool.{true≢false}
use Rattle.std.proofs.lemmas.Grind.{flat_map-append}
use Rattle.std.proofs.lemmas.List.{map-append}
use Rattle.std.specs.List.{flat_map, list_any}
use Rattle.schedule_kit.specs.Members.{In, Once}
use Rattle.schedule_kit.specs.Rounds.{Rounding, IsSound}
use Rattle.schedule_kit.specs.Rows.{IsAdded}
use Rattle.schedule_kit.specs.Totals.{total, total_where}
use Rattle.schedule_kit.proofs.Members.{In-append, In-left, In-right, map-In, In-map, flat_map-In, In-flat_map, any-In, In-any}
use Rattle.schedule_kit.proofs.Totals.{total-flat_map, total_zero}
use Rattle.archive_kit.specs.Adopting.{Counted, AreArchives, AreTombstones}
use Rattle.archive_kit.specs.Archived.{Entry, Archivists, recordings, adopted_by, as_entries, distinct_of, archive_names, added_up, archived, archiving, archived_fed, AddAsRead, CanArchive}
use Rattle.archive_kit.specs.Archived.Entry.{Recorded, Adopts}

module _ {N : Type 0} where
  recordings-append : (h more : List (Entry N)) → recordings (h ++ more) ≡ recordings h ++ recordings more
  recordings-append [] more = refl
  recordings-append (Recorded e ∷ es) more = ap (λ l. e ∷ l) (recordings-append es more)
  recordings-append (Adopts w s h ∷ es) more = recordings-append es more

  recordings-map : (h : List N) → recordings (map Recorded h) ≡ h
  recordings-map [] = refl
  recordings-map (e ∷ h) = ap (λ l. e ∷ l) (recordings-map h)

  module _ (may : ℕ → ℕ → Bool) (a : ℕ) where
    adopted-append : (h more : List (Entry N)) → adopted_by may a (h ++ more) ≡ adopted_by may a h ++ adopted_by may a more
    adopted-append [] more = refl
    adopted-append (Recorded e ∷ es) more = adopted-append es more
    adopted-append (Adopts w s h ∷ es) more =
        elim (may a w) as (λ b. cond b (((w, s), h) ∷ adopted_by may a (es ++ more)) (adopted_by may a (es ++ more)) ≡ cond b (((w, s), h) ∷ adopted_by may a es) (adopted_by may a es) ++ adopted_by may a more) [
          | true ↦ ap (λ l. ((w, s), h) ∷ l) (adopted-append es more)
          | false ↦ adopted-append es more
        ]

    adopted-may : (h : List (Entry N)) (c : Counted N) → In c (adopted_by may a h) → may a c.0.0 ≡ true
    adopted-may [] c i = absurd i
    adopted-may (Recorded e ∷ es) c i = adopted-may es c i
    adopted-may (Adopts w s h ∷ es) c i =
        elim (may a w) as (λ b. may a w ≡ b → In c (cond b (((w, s), h) ∷ adopted_by may a es) (adopted_by may a es)) → may a c.0.0 ≡ true) [
          | true ↦ λ e j. elim j [ inl same ↦ ap (λ (d : Counted N). may a d.0.0) same ∙ e | inr k ↦ adopted-may es c k ]
          | false ↦ λ _ j. adopted-may es c j
        ] refl i

module _ {A : Type 0} (same : A → A → Bool) where
  distinct-In : (x : A) (xs : List A) → In x (distinct_of same xs) → In x xs
  distinct-In x [] i = i
  distinct-In x (y ∷ xs) i = elim (list_any (same y) xs) as (λ b. In x (cond b (distinct_of same xs) (y ∷ distinct_of same xs)) → In x (y ∷ xs)) [
    | true ↦ λ j. inr (distinct-In x xs j)
    | false ↦ λ j. elim j [ inl e ↦ inl e | inr k ↦ inr (distinct-In x xs k) ]
  ] i

flat-mapped : {A B C : Type 0} (f : A → List C) (g : B → List C) (lift : A → B) (cs : List A) → ((c : A) → In c cs → f c ≡ g (lift c)) → flat_map f cs ≡ flat_map g (map lift cs)
flat-mapped f g lift [] h = refl
flat-mapped f g lift (c ∷ cs) h = ap (λ l. l ++ flat_map f cs) (h c (inl refl)) ∙ ap (λ l. g (lift c) ++ l) (flat-mapped f g lift cs (λ d i. h d (inr i)))

module _ {N K I X P : Type 0} (r : Rounding N K I X P) (s : IsSound r) (by : Archivists K I X P) where
  abbrev A : Rounding (Entry N) K I X P
  A = archived r by

  abbrev D : List X → List X
  D xs = distinct_of r.same_name xs

  In-distinct : (x : X) (xs : List X) → In x xs → In x (D xs)
  In-distinct x [] i = i
  In-distinct x (y ∷ xs) (inl e) = elim (list_any (r.same_name y) xs) as (λ b. list_any (r.same_name y) xs ≡ b → In x (cond b (D xs) (y ∷ D xs))) [
    | true ↦ λ t. In-distinct x xs (subst (λ (z : X). In z xs) (sym e) (any-In r.same_name s.names_equivalence s.names_exact y xs t))
    | false ↦ λ _. inl e
  ] refl
  In-distinct x (y ∷ xs) (inr i) = elim (list_any (r.same_name y) xs) as (λ b. In x (cond b (D xs) (y ∷ D xs))) [ true ↦ In-distinct x xs i | false ↦ inr (In-distinct x xs i) ]

  distinct-once : (xs : List X) → Once (D xs)
  distinct-once [] = tt
  distinct-once (y ∷ xs) = elim (list_any (r.same_name y) xs) as (λ b. list_any (r.same_name y) xs ≡ b → Once (cond b (D xs) (y ∷ D xs))) [
    | true ↦ λ _. distinct-once xs
    | false ↦ λ f. (λ i. true≢false (sym (In-any r.same_name s.names_equivalence s.names_exact y xs (distinct-In r.same_name y xs i)) ∙ f), distinct-once xs)
  ] refl

  names-append : (x : X) (cs ds : List (Counted N)) → In x (archive_names r by cs) → In x (archive_names r by (cs ++ ds))
  names-append x cs ds i =
      let T : Counted N → X = λ c. by.tombstone (r.who c.0.0) c.0.1 in
      let F : Counted N → List X = λ c. r.names c.0.0 c.1 in
      elim (In-append x (map T cs) (flat_map F cs) i) [
        | inl a ↦ In-left x (map T (cs ++ ds)) (flat_map F (cs ++ ds)) (subst (λ (l : List X). In x l) (sym (map-append T cs ds)) (In-left x (map T cs) (map T ds) a))
        | inr b ↦ In-right x (map T (cs ++ ds)) (flat_map F (cs ++ ds)) (subst (λ (l : List X). In x l) (sym (flat_map-append F cs ds)) (In-left x (flat_map F cs) (flat_map F ds) b))
      ]

  pub archived_sound : IsSound A
  archived_sound = record {
    total = s.total;
    antisymmetric = s.antisymmetric;
    equivalence = s.equivalence;
    exact = s.exact;
    names_equivalence = s.names_equivalence;
    names_exact = s.names_exact;
    key_tells = s.key_tells;
    none = λ w. elim (by.is_archive (r.who w)) as (λ b. cond b [] (r.names w []) ≡ []) [ true ↦ refl | false ↦ s.none w ];
    once = λ w h. elim (by.is_archive (r.who w)) as (λ b. Once (cond b (D (archive_names r by (adopted_by by.may w h))) (r.names w (recordings h)))) [ true ↦ distinct-once _ | false ↦ s.once w (recordings h) ];
    grows = λ w h more x. elim (by.is_archive (r.who w)) as (λ b. In x (cond b (D (archive_names r by (adopted_by by.may w h))) (r.names w (recordings h))) → In x (cond b (D (archive_names r by (adopted_by by.may w (h ++ more)))) (r.names w (recordings (h ++ more))))) [
      | true ↦ λ i. In-distinct x _ (subst (λ (l : List (Counted N)). In x (archive_names r by l)) (sym (adopted-append by.may w h more)) (names-append x (adopted_by by.may w h) (adopted_by by.may w more) (distinct-In r.same_name x _ i)))
      | false ↦ λ i. subst (λ (l : List N). In x (r.names w l)) (sym (recordings-append h more)) (s.grows w (recordings h) (recordings more) x i)
    ];
  }

  module _ {V G : Type 0} (zero : V) (plus : V → V → V) (reads : P → V) (fed : ℕ → List N → List (X × V)) (asks : K → Bool) (group : K → G)
      (is : IsAdded r zero plus reads fed asks) (adds : AddAsRead r by zero plus reads) (can : CanArchive r by asks group) where
    abbrev F : ℕ → List (Entry N) → List (X × V)
    F = archived_fed r by fed

    abbrev Under : X → List (X × V) → V
    Under x l = total_where zero plus (λ p. r.same_name x p.0) (λ p. p.1) l

    up : (i : I) (t : ℕ) (x : X) → asks (r.key i t x) ≡ true → (cs : List (Counted N)) → reads (added_up r by x cs) ≡ total zero plus (λ c. Under x (fed c.0.0 c.1)) cs
    up i t x e [] = adds.none
    up i t x e (c ∷ cs) =
        let rest = up i t x e cs in
        elim (list_any (r.same_name x) (r.names c.0.0 c.1)) as (λ b. list_any (r.same_name x) (r.names c.0.0 c.1) ≡ b
        → reads (cond b (by.add (r.payload c.0.0 c.1 x) (added_up r by x cs)) (added_up r by x cs)) ≡ plus (Under x (fed c.0.0 c.1)) (total zero plus (λ c. Under x (fed c.0.0 c.1)) cs)) [
          | true ↦ λ t'. adds.both _ _ ∙ ap (λ v. plus v (reads (added_up r by x cs))) (is.added c.0.0 c.1 i t x e (any-In r.same_name s.names_equivalence s.names_exact x _ t')) ∙ ap (plus (Under x (fed c.0.0 c.1))) rest
          | false ↦ λ f.
              let none : Under x (fed c.0.0 c.1) ≡ zero = total_zero zero plus is.sum (λ p. cond (r.same_name x p.0) p.1 zero) (fed c.0.0 c.1) (λ p j.
              elim (r.same_name x p.0) as (λ b. r.same_name x p.0 ≡ b → cond b p.1 zero ≡ zero) [
                | true ↦ λ g. absurd (true≢false (sym (In-any r.same_name s.names_equivalence s.names_exact x _ (subst (λ (z : X). In z (r.names c.0.0 c.1)) (sym (s.names_exact x p.0 g)) (is.named c.0.0 c.1 p j))) ∙ f))
                | false ↦ λ _. refl
              ] refl) in
              rest ∙ sym (is.sum.zero_left _) ∙ ap (λ v. plus v (total zero plus (λ c. Under x (fed c.0.0 c.1)) cs)) (sym none)
        ] refl

    pub archived_added : IsAdded A zero plus reads F asks
    archived_added = record {
      sum = is.sum;
      named = λ w h p. elim (by.is_archive (r.who w)) as (λ b. In p (cond b (flat_map (λ c. fed c.0.0 c.1) (adopted_by by.may w h)) (fed w (recordings h))) → In p.0 (cond b (D (archive_names r by (adopted_by by.may w h))) (r.names w (recordings h)))) [
        | true ↦ λ i. let c = flat_map-In (λ c. fed c.0.0 c.1) p (adopted_by by.may w h) i in In-distinct p.0 _ (In-right p.0 (map (λ c. by.tombstone (r.who c.0.0) c.0.1) (adopted_by by.may w h)) _ (In-flat_map (λ c. r.names c.0.0 c.1) p.0 c.0 (adopted_by by.may w h) c.1 (is.named c.0.0.0 c.0.1 p c.2)))
        | false ↦ λ i. is.named w (recordings h) p i
      ];
      added = λ w h i t x e. elim (by.is_archive (r.who w)) as (λ b. In x (cond b (D (archive_names r by (adopted_by by.may w h))) (r.names w (recordings h)))
          → reads (cond b (added_up r by x (adopted_by by.may w h)) (r.payload w (recordings h) x)) ≡ Under x (cond b (flat_map (λ c. fed c.0.0 c.1) (adopted_by by.may w h)) (fed w (recordings h)))) [
            | true ↦ λ _. up i t x e (adopted_by by.may w h) ∙ sym (total-flat_map zero plus is.sum (λ p. cond (r.same_name x p.0) p.1 zero) (λ c. fed c.0.0 c.1) (adopted_by by.may w h))
            | false ↦ λ j. is.added w (recordings h) i t x e j
          ];
    }

    pub archived_archives : AreArchives A (archiving r by) F asks group
    archived_archives = record {
      feeds = λ a h e. ap (λ b. cond b (flat_map (λ c. fed c.0.0 c.1) (adopted_by by.may a h)) (fed a (recordings h))) e
          ∙ flat-mapped (λ (c : Counted N). fed c.0.0 c.1) (λ (c : Counted (Entry N)). F c.0.0 c.1) as_entries (adopted_by by.may a h) (λ c i.
          ap (fed c.0.0) (sym (recordings-map c.1)) ∙ ap (λ b. cond b (flat_map (λ c. fed c.0.0 c.1) (adopted_by by.may c.0.0 (map Recorded c.1))) (fed c.0.0 (recordings (map Recorded c.1)))) (sym (can.own a c.0.0 (adopted-may by.may a h c i))));
      asked = λ a t h c x e i. let d = map-In as_entries c (adopted_by by.may a h) i in can.asked a d.0.0.0 t d.0.0.1 x (adopted-may by.may a h d.0 d.1) ∙ ap (λ (b : Counted (Entry N)). asks (r.key (r.who b.0.0) b.0.1 x)) (sym d.2);
      grouped = λ a t h c x e i. let d = map-In as_entries c (adopted_by by.may a h) i in can.grouped a d.0.0.0 t d.0.0.1 x (adopted-may by.may a h d.0 d.1) ∙ ap (λ (b : Counted (Entry N)). group (r.key (r.who b.0.0) b.0.1 x)) (sym d.2);
    }

    pub archived_tombstones : AreTombstones A (archiving r by)
    archived_tombstones = record {
      tells = can.tells;
      are = can.are;
      only = λ w h x. elim (by.is_archive (r.who w)) as (λ b. by.is_archive (r.who w) ≡ b → In x (cond b (D (archive_names r by (adopted_by by.may w h))) (r.names w (recordings h))) → by.is_tombstone x ≡ true → b ≡ true) [
        | true ↦ λ _ _ _. refl
        | false ↦ λ _ i t. sym (can.plain w (recordings h) x i) ∙ t
      ] refl;
      each = λ a h c e i.
          let d = map-In as_entries c (adopted_by by.may a h) i in
          let T : Counted N → X = λ c. by.tombstone (r.who c.0.0) c.0.1 in
          subst (λ (b : Bool). In (by.tombstone (r.who c.0.0) c.0.1) (cond b (D (archive_names r by (adopted_by by.may a h))) (r.names a (recordings h)))) (sym e)
          (In-distinct _ _ (In-left _ (map T (adopted_by by.may a h)) _ (subst (λ (c : Counted (Entry N)). In (by.tombstone (r.who c.0.0) c.0.1) (map T (adopted_by by.may a h))) (sym d.2) (In-map T d.0 (adopted_by by.may a h) d.1))));
      of_adopted = λ a w h t e n.
          let T : Counted N → X = λ c. by.tombstone (r.who c.0.0) c.0.1 in
          let m = distinct-In r.same_name (by.tombstone (r.who w) t) _ (subst (λ (b : Bool). In (by.tombstone (r.who w) t) (cond b (D (archive_names r by (adopted_by by.may a h))) (r.names a (recordings h)))) e n) in
          elim (In-append (by.tombstone (r.who w) t) (map T (adopted_by by.may a h)) (flat_map (λ c. r.names c.0.0 c.1) (adopted_by by.may a h)) m) [
            | inl q ↦
                let c = map-In T (by.tombstone (r.who w) t) (adopted_by by.may a h) q in
                let same = can.injective w c.0.0.0 t c.0.0.1 c.2 in
                (as_entries c.0, In-map as_entries c.0 (adopted_by by.may a h) c.1, sym same.0, sym same.1)
            | inr q ↦ let c = flat_map-In (λ (c : Counted N). r.names c.0.0 c.1) (by.tombstone (r.who w) t) (adopted_by by.may a h) q in absurd (true≢false (sym (can.are w t) ∙ can.plain c.0.0.0 c.0.1 (by.tombstone (r.who w) t) c.2))
          ];
      never = λ a h c e i. let d = map-In as_entries c (adopted_by by.may a h) i in ap (λ (b : Counted (Entry N)). by.is_archive (r.who b.0.0)) d.2 ∙ can.own a d.0.0.0 (adopted-may by.may a h d.0 d.1);
    }
