-- What a gateway holds of each incarnation.
use Rattle.std.proofs.Common.{◌≡◌, ℕ, ◌<◌, ◌≤◌, ◌⊎◌, inl, inr, List, [], ◌∷◌, Option, Some, None, refl, sym, ap, subst, ◌∙◌, arith}
use Rattle.std.specs.List.{flat_map}
use Rattle.std.specs.Ordering.{eq_by_cmp}
use Rattle.std.specs.Cmp.{Equal-is, eq_by_cmp_equiv}
use Rattle.std.specs.FinMap.{get}
use Rattle.point_kit.specs.declared.cell.Held.TheVariants.{One}
use Rattle.point_kit.specs.Best.{best}
use Rattle.point_kit.specs.States.{points_under}
use Rattle.point_kit.proofs.StateLaws.{get-state_of}
use Rattle.schedule_kit.specs.Deeds.{Made}
use Rattle.schedule_kit.specs.Members.{In}
use Rattle.schedule_kit.specs.Rounds.{Rounding, IsSound, HasNoConflict, points, state}
use Rattle.schedule_kit.specs.Taken.{newest}
use Rattle.schedule_kit.proofs.Members.{filter-In, In-filter, map-In, In-map, flat_map-In, In-flat_map, or_not}
use Rattle.schedule_kit.proofs.History.{IsEarlier}
use Rattle.schedule_kit.proofs.Bests.{best_is}
use Rattle.schedule_kit.proofs.Newest.{NewestIs, newest_is}

none_In : {A : Type 0} (xs : List A) → ((y : A) → In y xs → ⊥) → xs ≡ []
none_In [] h = refl
none_In (x ∷ xs) h = absurd (h x (inl refl))

-- of two collections of one incarnation that were taken one came first, and no two writers share an identity
pub record AreTaken {N I : Type 0} (who : ℕ → I) (ms : List (Made N)) : Type 0 where
  pub order : (m n : Made N) → In m ms → In n ms → m.writer ≡ n.writer → m.start ≡ n.start → (m ≡ n) ⊎ (IsEarlier m n ⊎ IsEarlier n m)
  pub apart : (m n : Made N) → In m ms → In n ms → who m.writer ≡ who n.writer → m.writer ≡ n.writer

module _ {N K I X P : Type 0} (r : Rounding N K I X P) (s : IsSound r) where
  abbrev pub Names : Made N → List X
  Names m = r.names m.writer m.entries

  abbrev pub Payload : Made N → X → P
  Payload m x = r.payload m.writer m.entries x

  -- a later collection has all names of an earlier one
  pub names_grow : (m n : Made N) (x : X) → m.writer ≡ n.writer → IsEarlier m n → In x (Names m) → In x (Names n)
  names_grow m n x w e h =
      subst (λ (l : List N). In x (r.names n.writer l)) (sym e.1.1) (s.grows n.writer m.entries e.1.0 x (subst (λ (v : ℕ). In x (r.names v m.entries)) w h))

  -- where a point under a key comes from
  pub from_round : (ms : List (Made N)) (k : K) (y : ℕ × P) → In y (points_under r.order k (flat_map (points r) ms)) → (m : Made N) × (x : X) × In m ms × In x (Names m) × (k ≡ r.key (r.who m.writer) m.start x) × (y ≡ (m.time, Payload m x))
  from_round ms k y h =
      let under = map-In (λ (p : K × (ℕ × P)). p.1) y _ h in
      let kept = filter-In (λ (p : K × (ℕ × P)). eq_by_cmp r.order k p.0) under.0 _ under.1 in
      let of_made = flat_map-In (points r) under.0 ms kept.0 in
      let of_name = map-In (λ (x : X). (r.key (r.who of_made.0.writer) of_made.0.start x, (of_made.0.time, Payload of_made.0 x))) under.0 _ of_made.2 in
      let tied : k ≡ under.0.0 = s.antisymmetric k under.0.0 ((Equal-is (r.order k under.0.0)).0 kept.1) in
      (of_made.0, of_name.0, of_made.1, of_name.1, tied ∙ ap (λ (p : K × (ℕ × P)). p.0) of_name.2, under.2 ∙ ap (λ (p : K × (ℕ × P)). p.1) of_name.2)

  to_under : (ms : List (Made N)) (m : Made N) (x : X) → In m ms → In x (Names m) → In (m.time, Payload m x) (points_under r.order (r.key (r.who m.writer) m.start x) (flat_map (points r) ms))
  to_under ms m x i h =
      let k = r.key (r.who m.writer) m.start x in
      let here = In-map (λ (z : X). (r.key (r.who m.writer) m.start z, (m.time, Payload m z))) x (Names m) h in
      let whole = In-flat_map (points r) (k, (m.time, Payload m x)) m ms i here in
      In-map (λ (p : K × (ℕ × P)). p.1) (k, (m.time, Payload m x)) _ (In-filter (λ (p : K × (ℕ × P)). eq_by_cmp r.order k p.0) (k, (m.time, Payload m x)) _ whole ((eq_by_cmp_equiv s.total).refl k))

  abbrev IsNewest : List (Made N) → Made N → Type 0
  IsNewest ms n = (m : Made N) → In m ms → m.writer ≡ n.writer → m.start ≡ n.start → (m ≡ n) ⊎ IsEarlier m n

  -- under a name of the newest round stands its point
  pub part_held : (ms : List (Made N)) → AreTaken r.who ms → (n : Made N) → In n ms → IsNewest ms n → (x : X) → In x (Names n) → get (state r ms) (r.key (r.who n.writer) n.start x) ≡ Some (record { time = n.time; held = One (Payload n x) })
  part_held ms taken n i newest_n x h =
      get-state_of s.total s.antisymmetric r.same s.equivalence s.exact (flat_map (points r) ms) (r.key (r.who n.writer) n.start x)
      ∙ best_is r.same s.equivalence s.exact n.time (Payload n x) _ (λ y j.
      let c = from_round ms (r.key (r.who n.writer) n.start x) y j in
      let tells = s.key_tells _ _ _ _ _ _ c.4 in
      let same_writer : c.0.writer ≡ n.writer = sym (taken.apart n c.0 i c.2 tells.0) in
      elim (newest_n c.0 c.2 same_writer (sym tells.1)) [
        | inl e ↦ inr (c.5 ∙ ap (λ (m : Made N). (m.time, Payload m c.1)) e ∙ ap (λ (z : X). (n.time, Payload n z)) (sym tells.2))
        | inr earlier ↦ let t : y.0 ≡ c.0.time = ap (λ (p : ℕ × P). p.0) c.5 in let u : c.0.time < n.time = earlier.0 in inl (omega arith)
      ]) (to_under ms n x i h)

  -- under other names of the incarnation stands nothing
  pub part_none : (ms : List (Made N)) → AreTaken r.who ms → (n : Made N) → In n ms → IsNewest ms n → (x : X) → (In x (Names n) → ⊥) → get (state r ms) (r.key (r.who n.writer) n.start x) ≡ None
  part_none ms taken n i newest_n x h =
      get-state_of s.total s.antisymmetric r.same s.equivalence s.exact (flat_map (points r) ms) (r.key (r.who n.writer) n.start x)
      ∙ ap (best r.same) (none_In _ (λ y j.
      let c = from_round ms (r.key (r.who n.writer) n.start x) y j in
      let tells = s.key_tells _ _ _ _ _ _ c.4 in
      let same_writer : c.0.writer ≡ n.writer = sym (taken.apart n c.0 i c.2 tells.0) in
      let name : In x (Names c.0) = subst (λ (z : X). In z (Names c.0)) (sym tells.2) c.3 in
      elim (newest_n c.0 c.2 same_writer (sym tells.1)) [
        | inl e ↦ h (subst (λ (m : Made N). In x (Names m)) e name)
        | inr earlier ↦ h (names_grow c.0 n x same_writer earlier name)
      ]))

  -- nor anything of an incarnation of which nothing was taken
  pub part_absent : (ms : List (Made N)) (i : I) (t : ℕ) → ((m : Made N) → In m ms → r.who m.writer ≡ i → m.start ≡ t → ⊥) → (x : X) → get (state r ms) (r.key i t x) ≡ None
  part_absent ms i t none x =
      get-state_of s.total s.antisymmetric r.same s.equivalence s.exact (flat_map (points r) ms) (r.key i t x)
      ∙ ap (best r.same) (none_In _ (λ y j.
      let c = from_round ms (r.key i t x) y j in
      let tells = s.key_tells _ _ _ _ _ _ c.4 in
      none c.0 c.2 (sym tells.0) (sym tells.1)))

  -- the newest collection, with the order of all that were taken
  pub newest_first : (ms : List (Made N)) → AreTaken r.who ms → (n : Made N) → In n ms → ((m : Made N) → In m ms → m.writer ≡ n.writer → m.start ≡ n.start → m.time ≤ n.time) → IsNewest ms n
  newest_first ms taken n i most m j w t = elim (taken.order m n j i w t) [
    | inl e ↦ inl e
    | inr ends ↦ elim ends [ inl earlier ↦ inr earlier | inr back ↦ let a : n.time < m.time = back.0 in let b : m.time ≤ n.time = most m j w t in absurd (omega arith) ]
  ]

  under_of : (ms : List (Made N)) → AreTaken r.who ms → (k : K) (m : Made N) (x : X) (e : k ≡ r.key (r.who m.writer) m.start x) (n : Option (Made N)) → In m ms → NewestIs ms m.writer m.start n → HasNoConflict (get (state r ms) k)
  under_of ms taken k m x e None i h = absurd (h m i refl refl)
  under_of ms taken k m x e (Some n) i h =
      let is_newest = newest_first ms taken n h.0 (λ a j w t. h.3 a j (w ∙ h.1) (t ∙ h.2)) in
      let same : k ≡ r.key (r.who n.writer) n.start x = e ∙ ap (λ v. r.key (r.who v) m.start x) (sym h.1) ∙ ap (λ v. r.key (r.who n.writer) v x) (sym h.2) in
      subst (λ (q : K). HasNoConflict (get (state r ms) q)) (sym same) (elim (or_not r.same_name s.names_equivalence s.names_exact x (Names n)) [
        | inl held ↦ subst HasNoConflict (sym (part_held ms taken n h.0 is_newest x held)) (Payload n x, refl)
        | inr not ↦ subst HasNoConflict (sym (part_none ms taken n h.0 is_newest x not)) tt
      ])

  -- no conflict stands
  pub no_conflict : (ms : List (Made N)) → AreTaken r.who ms → (k : K) → HasNoConflict (get (state r ms) k)
  no_conflict ms taken k = go (points_under r.order k (flat_map (points r) ms)) refl
    where
      go : (ps : List (ℕ × P)) → points_under r.order k (flat_map (points r) ms) ≡ ps → HasNoConflict (get (state r ms) k)
      go [] e = subst HasNoConflict (sym (get-state_of s.total s.antisymmetric r.same s.equivalence s.exact (flat_map (points r) ms) k ∙ ap (best r.same) e)) tt
      go (y ∷ ps) e =
          let c = from_round ms k y (subst (λ (l : List (ℕ × P)). In y l) (sym e) (inl refl)) in
          under_of ms taken k c.0 c.1 c.4 (newest ms c.0.writer c.0.start) c.2 (newest_is ms c.0.writer c.0.start)
