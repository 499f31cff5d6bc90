-- What a gateway answers is what was recorded.
use Rattle.std.proofs.Common.{◌≡◌, ℕ, ◌+◌, Bool, true, false, cond, ◌&&◌, ◌||◌, inl, inr, List, [], ◌∷◌, ◌++◌, map, filter, Option, Some, None, refl, sym, ap, subst, ◌∙◌}
use mathlib.Core.List.{map-map}
use Rattle.std.specs.List.{flat_map, list_any}
use Rattle.std.specs.Option.{option_map_or}
use Rattle.std.proofs.lemmas.List.{map-append}
use Rattle.std.specs.declared.cmp.Ordering.{Ordering}
use Rattle.std.specs.Ordering.{eq_by_cmp}
use Rattle.std.specs.Cmp.{IsTotalOrder, Equal-is, eq_by_cmp_equiv}
use Rattle.std.specs.FinMap.{FinMap, IsAntisymmetric, get, find, same_map, entries, from_entries, get-from_entries}
use Rattle.point_kit.specs.declared.cell.Held.TheVariants.{One}
use Rattle.point_kit.specs.declared.cell.Cell.{Cell}
use Rattle.point_kit.specs.Best.{best}
use Rattle.point_kit.specs.States.{points_under, tabulate}
use Rattle.point_kit.proofs.StateLaws.{get-state_of}
use Rattle.schedule_kit.specs.Deeds.{Made}
use Rattle.schedule_kit.specs.Members.{In, Once}
use Rattle.schedule_kit.specs.Rounds.{Rounding, IsSound, points, state}
use Rattle.schedule_kit.specs.Rows.{Row, IsAdded, value_of, is_one, is_conflict, in_row, rollup_row, rollup, values_fed, keys_fed, recorded_row, recorded}
use Rattle.schedule_kit.specs.Taken.{newest, entries_taken}
use Rattle.schedule_kit.specs.Totals.{IsSum, total, total_where}
use Rattle.schedule_kit.proofs.Members.{In-append, map-In, In-map, flat_map-In, In-flat_map}
use Rattle.schedule_kit.proofs.Newest.{NewestIs, newest_is}
use Rattle.schedule_kit.proofs.Parts as parts
use Rattle.schedule_kit.proofs.Parts.{AreTaken}
use Rattle.point_kit.proofs.StateLaws.{find-tabulated}
use Rattle.schedule_kit.proofs.Totals.{any_sum, count_sum, any-total, total_same, total_zero, total-map, total-flat_map, by_name, total-from_entries}

-- lists in which nothing stands twice
module _ {A : Type 0} where
  pub Once-append : (xs ys : List A) → Once xs → Once ys → ((x : A) → In x xs → In x ys → ⊥) → Once (xs ++ ys)
  Once-append [] ys p q apart = q
  Once-append (x ∷ xs) ys p q apart = (λ h. elim (In-append x xs ys h) [ inl a ↦ p.0 a | inr b ↦ apart x (inl refl) b ], Once-append xs ys p.1 q (λ y i j. apart y (inr i) j))

module _ {A B : Type 0} where
  pub Once-map : (f : A → B) → ((x y : A) → f x ≡ f y → x ≡ y) → (xs : List A) → Once xs → Once (map f xs)
  Once-map f tells [] h = tt
  Once-map f tells (x ∷ xs) h = (λ i. let r = map-In f (f x) xs i in h.0 (subst (λ (y : A). In y xs) (sym (tells x r.0 r.2)) r.1), Once-map f tells xs h.1)

module _ {A B C : Type 0} where
  map-flat_map : (g : B → C) (f : A → List B) (h : A → List C) → ((x : A) → map g (f x) ≡ h x) → (xs : List A) → map g (flat_map f xs) ≡ flat_map h xs
  map-flat_map g f h same [] = refl
  map-flat_map g f h same (x ∷ xs) = map-append g (f x) (flat_map f xs) ∙ ap (λ l. l ++ map g (flat_map f xs)) (same x) ∙ ap (λ l. h x ++ l) (map-flat_map g f h same xs)

found-In : {K C : Type 0} {R : K → K → Ordering} → IsAntisymmetric R → (q : K) (es : List (K × C)) (c : C) → find R q es ≡ Some c → In (q, c) es
found-In anti q [] c e = cc
found-In {K} {C} {R = R} anti q (x ∷ es) c e =
    elim (eq_by_cmp R q x.0) as (λ b. eq_by_cmp R q x.0 ≡ b → cond b (Some x.1) (find R q es) ≡ Some c → In (q, c) (x ∷ es)) [
      | true ↦ λ t s. let same : q ≡ x.0 = anti q x.0 ((Equal-is (R q x.0)).0 t) in let value : x.1 ≡ c = cc s in inl (λ i. (same i, sym value i))
      | false ↦ λ t s. inr (found-In anti q es c s)
    ] refl e

In-found : {K C : Type 0} {R : K → K → Ordering} → IsTotalOrder R → (q : K) (es : List (K × C)) → In q (map (λ e. e.0) es) → find R q es ≡ None → ⊥
In-found o q [] i e = i
In-found {K} {C} {R = R} o q (x ∷ es) (inl same) e =
    let tied : eq_by_cmp R q x.0 ≡ true = ap (λ k. eq_by_cmp R q k) (sym same) ∙ (eq_by_cmp_equiv o).refl q in
    let none : Some x.1 ≡ None = sym (ap (λ b. cond b (Some x.1) (find R q es)) tied) ∙ e in
    cc none
In-found {K} {C} {R = R} o q (x ∷ es) (inr i) e =
    elim (eq_by_cmp R q x.0) as (λ b. cond b (Some x.1) (find R q es) ≡ None → ⊥) [ true ↦ λ s. cc s | false ↦ λ s. In-found o q es i s ] e

module _ {N K I X P : Type 0} (r : Rounding N K I X P) (s : IsSound r)
    (ms : List (Made N)) (taken : AreTaken r.who ms)
    (incarnations : List (ℕ × ℕ))
    (once : Once {A = I × ℕ} (map (λ i. (r.who i.0, i.1)) incarnations))
    (covered : (m : Made N) → In m ms → In {A = ℕ × ℕ} (m.writer, m.start) incarnations) where
  abbrev its_entries : ℕ × ℕ → List N
  its_entries i = entries_taken ms i.0 i.1

  abbrev names_of : ℕ × ℕ → List X
  names_of i = r.names i.0 (its_entries i)

  abbrev time_of : ℕ × ℕ → ℕ
  time_of i = option_map_or (λ m. m.time) (newest ms i.0 i.1) 0

  abbrev cell_at : ℕ × ℕ → X → Cell P
  cell_at i x = record { time = time_of i; held = One (r.payload i.0 (its_entries i) x) }

  abbrev cells_of : ℕ × ℕ → List (K × Cell P)
  cells_of i = map (λ x. (r.key (r.who i.0) i.1 x, cell_at i x)) (names_of i)

  -- the cells of the newest collections taken, incarnation by incarnation
  abbrev pub cells : List (K × Cell P)
  cells = flat_map cells_of incarnations

  abbrev Keys : List K
  Keys = keys_fed r its_entries incarnations

  keys_are : map (λ e. e.0) cells ≡ Keys
  keys_are = map-flat_map (λ e. e.0) cells_of (λ i. map (r.key (r.who i.0) i.1) (names_of i)) (λ i. map-map (λ e. e.0) (λ x. (r.key (r.who i.0) i.1 x, cell_at i x)) (names_of i)) incarnations

  keys_once_of : (is : List (ℕ × ℕ)) → Once {A = I × ℕ} (map (λ i. (r.who i.0, i.1)) is) → Once (keys_fed r its_entries is)
  keys_once_of [] h = tt
  keys_once_of (i ∷ is) h =
      Once-append (map (r.key (r.who i.0) i.1) (names_of i)) (keys_fed r its_entries is)
      (Once-map (r.key (r.who i.0) i.1) (λ x y e. (s.key_tells _ _ _ _ _ _ e).2) _ (s.once i.0 (its_entries i)))
      (keys_once_of is h.1)
      (λ k a b.
      let mine = map-In (r.key (r.who i.0) i.1) k _ a in
      let other = flat_map-In (λ j. map (r.key (r.who j.0) j.1) (names_of j)) k is b in
      let its = map-In (r.key (r.who other.0.0) other.0.1) k _ other.2 in
      let tells = s.key_tells _ _ _ _ _ _ (sym mine.2 ∙ its.2) in
      let same : ◌≡◌ {A = I × ℕ} (r.who i.0, i.1) (r.who other.0.0, other.0.1) = λ n. (tells.0 n, tells.1 n) in
      h.0 (subst (λ (p : I × ℕ). In p (map (λ j. (r.who j.0, j.1)) is)) (sym same) (In-map (λ j. (r.who j.0, j.1)) other.0 is other.1)))

  keys_once : Once (map (λ e. e.0) cells)
  keys_once = subst (λ (l : List K). Once l) (sym keys_are) (keys_once_of incarnations once)

  -- what stands in the cells stands at the gateway
  standing : (k : K) (c : Cell P) (i : ℕ × ℕ) (x : X) (n : Option (Made N)) → newest ms i.0 i.1 ≡ n → NewestIs ms i.0 i.1 n → In x (names_of i) → k ≡ r.key (r.who i.0) i.1 x → c ≡ cell_at i x → get (state r ms) k ≡ Some c
  standing k c i x None e h j ek ec =
      let empty : names_of i ≡ [] = ap (λ (m : Option (Made N)). r.names i.0 (option_map_or (λ (m : Made N). m.entries) m [])) e ∙ s.none i.0 in
      absurd (subst (λ (l : List X). In x l) empty j)
  standing k c i x (Some n) e h j ek ec =
      let its : its_entries i ≡ n.entries = ap (λ (m : Option (Made N)). option_map_or (λ (m : Made N). m.entries) m []) e in
      let its_time : time_of i ≡ n.time = ap (λ (m : Option (Made N)). option_map_or (λ (m : Made N). m.time) m 0) e in
      let its_key : k ≡ r.key (r.who n.writer) n.start x = ek ∙ ap (λ v. r.key (r.who v) i.1 x) (sym h.1) ∙ ap (λ v. r.key (r.who n.writer) v x) (sym h.2) in
      let its_name : In x (r.names n.writer n.entries) = subst (λ (v : ℕ). In x (r.names v n.entries)) (sym h.1) (subst (λ (l : List N). In x (r.names i.0 l)) its j) in
      let first = parts.newest_first r s ms taken n h.0 (λ a b w t. h.3 a b (w ∙ h.1) (t ∙ h.2)) in
      let its_cell : ◌≡◌ {A = Cell P} (record { time = n.time; held = One (r.payload n.writer n.entries x) }) c =
      sym (ec ∙ ap (λ t. record { time = t; held = One (r.payload i.0 (its_entries i) x) }) its_time ∙ ap (λ l. record { time = n.time; held = One (r.payload i.0 l x) }) its ∙ ap (λ v. record { time = n.time; held = One (r.payload v n.entries x) }) (sym h.1)) in
      ap (get (state r ms)) its_key ∙ parts.part_held r s ms taken n h.0 first x its_name ∙ ap Some its_cell

  -- what stands at the gateway is of a name in the cells
  name_there : (m : Made N) (x : X) (n : Option (Made N)) → newest ms m.writer m.start ≡ n → NewestIs ms m.writer m.start n → In m ms → In x (r.names m.writer m.entries) → In x (names_of (m.writer, m.start))
  name_there m x None e h i j = absurd (h m i refl refl)
  name_there m x (Some n) e h i j =
      let first = parts.newest_first r s ms taken n h.0 (λ a b w t. h.3 a b (w ∙ h.1) (t ∙ h.2)) in
      let its : names_of (m.writer, m.start) ≡ r.names n.writer n.entries = ap (λ (m' : Option (Made N)). r.names m.writer (option_map_or (λ (m' : Made N). m'.entries) m' [])) e ∙ ap (λ w. r.names w n.entries) (sym h.1) in
      subst (λ (l : List X). In x l) (sym its) (elim (first m i (sym h.1) (sym h.2)) [
        | inl same ↦ subst (λ (a : Made N). In x (r.names a.writer a.entries)) same j
        | inr earlier ↦ parts.names_grow r s m n x (sym h.1) earlier j
      ])

  gets_same : (q : K) (found : Option (Cell P)) → find r.order q cells ≡ found → get (state r ms) q ≡ found
  gets_same q (Some c) e =
      let here = flat_map-In cells_of (q, c) incarnations (found-In s.antisymmetric q cells c e) in
      let name = map-In (λ x. (r.key (r.who here.0.0) here.0.1 x, cell_at here.0 x)) (q, c) _ here.2 in
      standing q c here.0 name.0 (newest ms here.0.0 here.0.1) refl (newest_is ms here.0.0 here.0.1) name.1 (ap (λ (p : K × Cell P). p.0) name.2) (ap (λ (p : K × Cell P). p.1) name.2)
  gets_same q None e = go (points_under r.order q (flat_map (points r) ms)) refl
    where
      go : (ps : List (ℕ × P)) → points_under r.order q (flat_map (points r) ms) ≡ ps → get (state r ms) q ≡ None
      go [] f = get-state_of s.total s.antisymmetric r.same s.equivalence s.exact (flat_map (points r) ms) q ∙ ap (best r.same) f
      go (y ∷ ps) f =
          let c = parts.from_round r s ms q y (subst (λ (l : List (ℕ × P)). In y l) (sym f) (inl refl)) in
          let name = name_there c.0 c.1 (newest ms c.0.writer c.0.start) refl (newest_is ms c.0.writer c.0.start) c.2 c.3 in
          let at_key : In q Keys = subst (λ (k : K). In k Keys) (sym c.4) (In-flat_map (λ i. map (r.key (r.who i.0) i.1) (names_of i)) (r.key (r.who c.0.writer) c.0.start c.1) (c.0.writer, c.0.start) incarnations (covered c.0 c.2) (In-map (r.key (r.who c.0.writer) c.0.start) c.1 _ name)) in
          absurd (In-found s.total q cells (subst (λ (l : List K). In q l) (sym keys_are) at_key) e)

  state_is : state r ms ≡ from_entries {R = r.order} cells
  state_is = same_map s.total s.antisymmetric (state r ms) (from_entries {R = r.order} cells) (λ q. gets_same q (find r.order q cells) refl ∙ sym (get-from_entries s.total cells q))

  -- anything added up over the state is added up over the cells
  pub adds_up : {U : Type 0} (z : U) (p : U → U → U) → IsSum z p → (f : K × Cell P → U) → total z p f (entries (state r ms)) ≡ total z p f cells
  adds_up z p laws f = ap (λ (m : FinMap r.order (Cell P)). total z p f (entries m)) state_is ∙ total-from_entries z p laws s.total s.antisymmetric f cells keys_once

  module _ {V : Type 0} (zero : V) (plus : V → V → V) (reads : P → V) (fed : ℕ → List N → List (X × V)) {G : Type 0} {Rg : G → G → Ordering} (og : IsTotalOrder Rg) (antig : IsAntisymmetric Rg) (asks : K → Bool) (group : K → G) (is : IsAdded r zero plus reads fed asks) where
    abbrev Values : List (K × V)
    Values = values_fed r its_entries incarnations fed

    abbrev fed_of : ℕ × ℕ → List (X × V)
    fed_of i = fed i.0 (its_entries i)

    abbrev rows : G → K → Bool
    rows = in_row Rg zero plus asks group

    -- a key that is asked for reads as what was fed to its name
    read_as : (g : G) (i : ℕ × ℕ) (x : X) → In x (names_of i) → cond (rows g (r.key (r.who i.0) i.1 x)) (reads (r.payload i.0 (its_entries i) x)) zero ≡ cond (rows g (r.key (r.who i.0) i.1 x)) (total_where zero plus (λ p. r.same_name x p.0) (λ p. p.1) (fed_of i)) zero
    read_as g i x h = go (asks (r.key (r.who i.0) i.1 x)) refl
      where
        k : K
        k = r.key (r.who i.0) i.1 x

        go : (b : Bool) → asks (r.key (r.who i.0) i.1 x) ≡ b → cond (asks (r.key (r.who i.0) i.1 x) && eq_by_cmp Rg g (group (r.key (r.who i.0) i.1 x))) (reads (r.payload i.0 (its_entries i) x)) zero ≡ cond (asks (r.key (r.who i.0) i.1 x) && eq_by_cmp Rg g (group (r.key (r.who i.0) i.1 x))) (total_where zero plus (λ p. r.same_name x p.0) (λ p. p.1) (fed_of i)) zero
        go true e = ap (λ (v : V). cond (asks (r.key (r.who i.0) i.1 x) && eq_by_cmp Rg g (group (r.key (r.who i.0) i.1 x))) v zero) (is.added i.0 (its_entries i) (r.who i.0) i.1 x e h)
        go false e = rw e refl

    total_same_row : (g : G) → (rollup_row Rg zero plus asks group reads (entries (state r ms)) g).total ≡ (recorded_row Rg zero plus asks group Values Keys g).total
    total_same_row g =
        adds_up zero plus is.sum (λ e. cond (rows g e.0) (value_of zero reads e.1.held) zero)
        ∙ total-flat_map zero plus is.sum _ cells_of incarnations
        ∙ total_same zero plus is.sum _ _ incarnations (λ i h.
        total-map zero plus is.sum (λ e. cond (rows g e.0) (value_of zero reads e.1.held) zero) (λ x. (r.key (r.who i.0) i.1 x, cell_at i x)) (names_of i)
        ∙ total_same zero plus is.sum _ (λ x. cond (rows g (r.key (r.who i.0) i.1 x)) (total_where zero plus (λ p. r.same_name x p.0) (λ p. p.1) (fed_of i)) zero) (names_of i) (λ x j. read_as g i x j)
        ∙ by_name zero plus is.sum r.same_name s.names_equivalence s.names_exact (λ x. rows g (r.key (r.who i.0) i.1 x)) (names_of i) (s.once i.0 (its_entries i)) (fed_of i) (λ p j. is.named i.0 (its_entries i) p j)
        ∙ sym (total-map zero plus is.sum (λ p. cond (rows g p.0) p.1 zero) (λ p. (r.key (r.who i.0) i.1 p.0, p.1)) (fed_of i)))
        ∙ sym (total-flat_map zero plus is.sum (λ p. cond (rows g p.0) p.1 zero) (λ i. map (λ p. (r.key (r.who i.0) i.1 p.0, p.1)) (fed_of i)) incarnations)

    -- what depends on the keys alone
    by_keys : {U : Type 0} (z : U) (p : U → U → U) → IsSum z p → (f : K → U) → total z p (λ e. f e.0) cells ≡ total z p f Keys
    by_keys z p laws f = sym (total-map z p laws f (λ e. e.0) cells) ∙ ap (total z p f) keys_are

    points_same_row : (g : G) → (rollup_row Rg zero plus asks group reads (entries (state r ms)) g).points ≡ (recorded_row Rg zero plus asks group Values Keys g).points
    points_same_row g =
        adds_up 0 ◌+◌ count_sum (λ e. cond (rows g e.0) (is_one e.1.held) 0)
        ∙ total_same 0 ◌+◌ count_sum _ (λ e. cond (rows g e.0) 1 0) cells (λ e h.
        let here = flat_map-In cells_of e incarnations h in
        let name = map-In (λ x. (r.key (r.who here.0.0) here.0.1 x, cell_at here.0 x)) e _ here.2 in
        ap (λ (c : K × Cell P). cond (rows g c.0) (is_one c.1.held) 0) name.2 ∙ ap (λ (c : K × Cell P). cond (rows g c.0) 1 0) (sym name.2))
        ∙ by_keys 0 ◌+◌ count_sum (λ k. cond (rows g k) 1 0)

    conflicts_same_row : (g : G) → (rollup_row Rg zero plus asks group reads (entries (state r ms)) g).conflicts ≡ 0
    conflicts_same_row g =
        adds_up 0 ◌+◌ count_sum (λ e. cond (rows g e.0) (is_conflict e.1.held) 0)
        ∙ total_zero 0 ◌+◌ count_sum _ cells (λ e h.
        let here = flat_map-In cells_of e incarnations h in
        let name = map-In (λ x. (r.key (r.who here.0.0) here.0.1 x, cell_at here.0 x)) e _ here.2 in
        ap (λ (c : K × Cell P). cond (rows g c.0) (is_conflict c.1.held) 0) name.2
        ∙ elim (rows g (r.key (r.who here.0.0) here.0.1 name.0)) as (λ b. ◌≡◌ {A = ℕ} (cond b 0 0) 0) [ true ↦ refl | false ↦ refl ])

    row_same : (g : G) → rollup_row Rg zero plus asks group reads (entries (state r ms)) g ≡ recorded_row Rg zero plus asks group Values Keys g
    row_same g = λ n. record { total = total_same_row g n; points = points_same_row g n; conflicts = conflicts_same_row g n }

    groups_same : (g : G) → list_any (eq_by_cmp Rg g) (map (λ e. group e.0) (filter (λ e. asks e.0) (entries (state r ms)))) ≡ list_any (eq_by_cmp Rg g) (map group (filter asks Keys))
    groups_same g =
        any-total (eq_by_cmp Rg g) (λ e. asks e.0) (λ e. group e.0) (entries (state r ms))
        ∙ adds_up false ◌||◌ any_sum (λ e. asks e.0 && eq_by_cmp Rg g (group e.0))
        ∙ by_keys false ◌||◌ any_sum (λ k. asks k && eq_by_cmp Rg g (group k))
        ∙ sym (any-total (eq_by_cmp Rg g) asks group Keys)

    row_at : (gs : List G) (f : G → Row V) (g : G) → get (tabulate Rg gs (λ h. Some (f h))) g ≡ cond (list_any (eq_by_cmp Rg g) gs) (Some (f g)) None
    row_at gs f g = get-from_entries og _ g ∙ find-tabulated og antig (λ h. Some (f h)) g gs

    -- a query's answer is what was recorded
    pub rollup_recorded : rollup Rg zero plus asks group reads (state r ms) ≡ recorded Rg zero plus asks group Values Keys
    rollup_recorded = same_map og antig _ _ (λ g.
        row_at (map (λ e. group e.0) (filter (λ e. asks e.0) (entries (state r ms)))) (rollup_row Rg zero plus asks group reads (entries (state r ms))) g
        ∙ ap (λ b. cond b (Some (rollup_row Rg zero plus asks group reads (entries (state r ms)) g)) None) (groups_same g)
        ∙ ap (λ r. cond (list_any (eq_by_cmp Rg g) (map group (filter asks Keys))) (Some r) None) (row_same g)
        ∙ sym (row_at (map group (filter asks Keys)) (recorded_row Rg zero plus asks group Values Keys) g))
