-- What a gateway's points are after its incarnations were joined with what came.
use Rattle.std.proofs.Common.{IfOk, Result, Ok, Err, ◌≡◌, ℕ, ◌+◌, ◌≤◌, ◌^◌, Bool, true, false, cond, List, [], ◌∷◌, map, length, Option, Some, None, refl, sym, ap, subst, ◌∙◌, not, append-nil, count_by}
use mathlib.Core.List.{map-map}
use Rattle.std.specs.Prelude.{filter, is_none}
use Rattle.std.specs.Option.{option_eq}
use Rattle.std.specs.List.{IsDistinct, AllByRecursion, flat_map, list_all}
use Rattle.std.specs.declared.cmp.Ordering.{Ordering}
use Rattle.std.specs.Ordering.{eq_by_cmp, is_eq, ordering_then}
use Rattle.std.specs.Cmp.{IsTotalOrder, IsEquivalence, Equal-is, tied_itself}
use Rattle.std.specs.FinMap.{IsAntisymmetric, get, entries, from_sorted, get-from_sorted, entries-from_sorted, same_map}
use Rattle.std.specs.FinMap.Entries.{find, is_sorted}
use Rattle.attr_kit.specs.Exact.{IsExact}
use Rattle.point_kit.specs.Best.{best}
use Rattle.point_kit.specs.declared.cell.Cell.{Cell}
use Rattle.point_kit.specs.declared.cell.Held.TheVariants.{One}
use Rattle.point_kit.specs.declared.export.Export.{Export}
use Rattle.point_kit.specs.declared.key.Key.{Key}
use Rattle.point_kit.specs.declared.payload.Payload.{Payload}
use Rattle.point_kit.specs.Exports.{key_of, points_of, state}
use Rattle.point_kit.specs.Join.{join_cells}
use Rattle.point_kit.specs.Orders.{key_cmp}
use Rattle.point_kit.specs.Equality.{payload_eq}
use Rattle.point_kit.specs.Join.{join_options}
use Rattle.point_kit.specs.States.{points_under}
use Rattle.point_kit.proofs.BestLaws.{cell_of, best_more}
use Rattle.point_kit.proofs.OrderLaws.{key_total, key_exact}
use Rattle.point_kit.proofs.EqualityLaws.{payload_equivalence, payload_exact}
use Rattle.point_kit.proofs.StateLaws.{get-state_of, get-join_maps}
use Rattle.gateway_kit.specs.Bringing.{is_new, is_change}
use Rattle.gateway_kit.specs.Changing.{KeyedCell, keyed_cells_of}
use Rattle.gateway_kit.specs.Growth.{Grows, GrowsBy, cells_at}
use Rattle.gateway_kit.specs.Keys.{IncarnationKey, ItemKey, incarnation_cmp, item_cmp, whole_key}
use Rattle.gateway_kit.specs.IncarnationState.{IncarnationState}
use Rattle.gateway_kit.specs.Incarnations.{IsWhole, all_points, has_cells, keyed_cells, entries_at}
use Rattle.gateway_kit.specs.Tallies.{Tells}
use Rattle.gateway_kit.specs.declared.growth.Growth.{Growth}
use Rattle.point_kit.specs.Equality.{cell_eq}
use Rattle.point_kit.specs.Exports.{Points, join_points, changed_points}
use Rattle.point_kit.proofs.EqualityLaws.{cell_itself}
use Rattle.gateway_kit.proofs.Counting.{changes_by, longer_by, count_map, unjoined}
use Rattle.gateway_kit.proofs.Entries.{as_T}
use Rattle.gateway_kit.proofs.ExportEntries.{distinct_points, point_key}
use Rattle.gateway_kit.specs.KeyOrders.{incarnation_total, incarnation_exact, compares, split_key}
use Rattle.gateway_kit.proofs.Nested.{find-flatten, sorted_flatten, is_eq-then}

-- ---- one export alone

module _ {K P : Type 0} {R : K → K → Ordering} (o : IsTotalOrder R) (anti : IsAntisymmetric R) (eq : P → P → Bool) (laws : IsEquivalence eq) (exact : IsExact eq) where
  none_under : (q : K) (ps : List (K × (ℕ × P))) → AllByRecursion (λ k. eq_by_cmp R q k ≡ false) (map (λ p. p.0) ps) → points_under R q ps ≡ []
  none_under q [] h = refl
  none_under q (p ∷ ps) h = let rest = none_under q ps h.1 in rw h.0 rest

  -- where no key comes twice, the best of all points under a key is the cell of the one
  best_alone : (q : K) (ps : List (K × (ℕ × P))) → IsDistinct (eq_by_cmp R) (map (λ p. p.0) ps) → best eq (points_under R q ps) ≡ find R q (map (λ p. (p.0, cell_of p.1)) ps)
  unfolding IsDistinct
  best_alone q [] h = refl
  best_alone q (p ∷ ps) h =
      let rest = best_alone q ps h.1 in
      elim (eq_by_cmp R q p.0) as (λ b. eq_by_cmp R q p.0 ≡ b → best eq (map (λ r. r.1) (cond b (p ∷ filter (λ r. eq_by_cmp R q r.0) ps) (filter (λ r. eq_by_cmp R q r.0) ps))) ≡ cond b (Some (cell_of p.1)) (find R q (map (λ r. (r.0, cell_of r.1)) ps))) [
        | true ↦ λ t.
            let none : points_under R q ps ≡ [] = none_under q ps (subst (λ x. AllByRecursion (λ k. eq_by_cmp R x k ≡ false) (map (λ r. r.0) ps)) (sym (anti q p.0 ((Equal-is (R q p.0)).0 t))) h.0) in
            ap (λ l. best eq (p.1 ∷ l)) none ∙ best_more eq laws exact p.1 []
        | false ↦ λ t. rest
      ] refl

-- entries of an incarnation, under whole keys
abbrev pub under : IncarnationKey → List KeyedCell → List (Key × Cell Payload)
under a ts = map (λ t. (whole_key a t.0, t.1)) ts

tied_under : (a : IncarnationKey) (b c : ItemKey) → eq_by_cmp key_cmp (whole_key a b) (whole_key a c) ≡ eq_by_cmp item_cmp b c
tied_under a b c = ap is_eq (compares a a b c ∙ ap (λ r. ordering_then r (item_cmp b c)) (tied_itself incarnation_total a))

distinct_keys : (a : IncarnationKey) (ks : List ItemKey) → IsDistinct (eq_by_cmp item_cmp) ks → IsDistinct (eq_by_cmp key_cmp) (map (whole_key a) ks)
unfolding IsDistinct
distinct_keys a [] h = tt
distinct_keys a (k ∷ ks) h = (others a k ks h.0, distinct_keys a ks h.1)
  where
    others : (a : IncarnationKey) (k : ItemKey) (ks : List ItemKey) → AllByRecursion (λ j. eq_by_cmp item_cmp k j ≡ false) ks → AllByRecursion (λ j. eq_by_cmp key_cmp (whole_key a k) j ≡ false) (map (whole_key a) ks)
    others a k [] h = tt
    others a k (j ∷ ks) h = (tied_under a k j ∙ h.0, others a k ks h.1)

pub distinct_under : (a : IncarnationKey) (ts : List KeyedCell) → IsDistinct (eq_by_cmp item_cmp) (map (λ t. t.0) ts) → IsDistinct (eq_by_cmp key_cmp) (map (λ t. t.0) (under a ts))
distinct_under a ts h = subst (IsDistinct (eq_by_cmp key_cmp)) (map-map (whole_key a) (λ (t : KeyedCell). t.0) ts ∙ sym (map-map (λ (t : Key × Cell Payload). t.0) (λ (t : KeyedCell). (whole_key a t.0, t.1)) ts)) (distinct_keys a (map (λ t. t.0) ts) h)

pub find_under : (a c : IncarnationKey) (b : ItemKey) (ts : List KeyedCell) → find key_cmp (whole_key c b) (under a ts) ≡ cond (eq_by_cmp incarnation_cmp c a) (find item_cmp b ts) None
find_under a c b [] = elim (eq_by_cmp incarnation_cmp c a) as (λ u. ◌≡◌ {A = Option (Cell Payload)} None (cond u None None)) [ true ↦ refl | false ↦ refl ]
find_under a c b (t ∷ ts) =
    (λ i. cond ((ap is_eq (compares c a b t.0) ∙ is_eq-then (incarnation_cmp c a) (item_cmp b t.0)) i) (Some t.1) (find_under a c b ts i))
    ∙ elim (eq_by_cmp incarnation_cmp c a) as (λ u. ◌≡◌ {A = Option (Cell Payload)} (cond (cond u (eq_by_cmp item_cmp b t.0) false) (Some t.1) (cond u (find item_cmp b ts) None)) (cond u (cond (eq_by_cmp item_cmp b t.0) (Some t.1) (find item_cmp b ts)) None)) [ true ↦ refl | false ↦ refl ]

-- the state of one export has its entries
pub state_alone : (e : Export) (q : Key) → get (state (e ∷ [])) q ≡ find key_cmp q (under (e.writer, e.start) (keyed_cells_of e))
state_alone e q =
    get-state_of key_total key_exact payload_eq payload_equivalence payload_exact (flat_map points_of (e ∷ [])) q
    ∙ ap (λ l. best payload_eq (points_under key_cmp q l)) (append-nil (points_of e))
    ∙ best_alone key_total key_exact payload_eq payload_equivalence payload_exact q (points_of e) distinct
    ∙ ap (find key_cmp q) (map-map (λ p. (p.0, cell_of p.1)) (λ p. (key_of e p, (e.time, p.payload))) e.points ∙ sym (map-map (λ (t : KeyedCell). (whole_key (e.writer, e.start) t.0, t.1)) (λ p. (point_key p, record { time = e.time; held = One p.payload })) e.points))
  where
    distinct : IsDistinct (eq_by_cmp key_cmp) (map (λ p. p.0) (points_of e))
    distinct = subst (IsDistinct (eq_by_cmp key_cmp)) (map-map (whole_key (e.writer, e.start)) point_key e.points ∙ sym (map-map (λ p. p.0) (λ p. (key_of e p, (e.time, p.payload))) e.points)) (distinct_keys (e.writer, e.start) (map point_key e.points) (distinct_points e))

-- no key comes twice
pub apart_entries : (e : Export) → IsDistinct (eq_by_cmp item_cmp) (map (λ t. t.0) (keyed_cells_of e))
apart_entries e = subst (IsDistinct (eq_by_cmp item_cmp)) (sym (map-map (λ t. t.0) (λ p. (point_key p, record { time = e.time; held = One p.payload })) e.points)) (distinct_points e)

-- ---- points in incarnations

pub get_points : (ps : List IncarnationState) → is_sorted incarnation_cmp (map keyed_cells ps) ≡ true → (c : IncarnationKey) (b : ItemKey) → get (from_sorted {R = key_cmp} (all_points ps)) (whole_key c b) ≡ find item_cmp b (cells_at c ps)
get_points ps sorted c b =
    get-from_sorted key_cmp (all_points ps) (whole_key c b) (sorted_flatten (Cell Payload) incarnation_cmp item_cmp key_cmp whole_key compares incarnation_total (map keyed_cells ps) (as_T sorted))
    ∙ find-flatten (Cell Payload) incarnation_cmp item_cmp key_cmp whole_key compares incarnation_total c b (map keyed_cells ps) (as_T sorted)

pub entries_points : (ps : List IncarnationState) → is_sorted incarnation_cmp (map keyed_cells ps) ≡ true → entries (from_sorted {R = key_cmp} (all_points ps)) ≡ all_points ps
entries_points ps sorted = entries-from_sorted key_cmp (all_points ps) (sorted_flatten (Cell Payload) incarnation_cmp item_cmp key_cmp whole_key compares incarnation_total (map keyed_cells ps) (as_T sorted))

pub find_listed : (olds : List IncarnationState) → is_sorted incarnation_cmp (map keyed_cells olds) ≡ true → (a : IncarnationKey) (b : ItemKey) → find key_cmp (whole_key a b) (all_points olds) ≡ find item_cmp b (cells_at a olds)
find_listed olds sorted a b = find-flatten (Cell Payload) incarnation_cmp item_cmp key_cmp whole_key compares incarnation_total a b (map keyed_cells olds) (as_T sorted)

-- ---- what incarnations grow by, told by the entries that came

module _ (olds news : List IncarnationState) (len : ℕ) (whole : IsWhole olds len) (came : List (Key × Cell Payload)) (apart : IsDistinct (eq_by_cmp key_cmp) (map (λ e. e.0) came)) (at : (q : Key) → get (from_sorted {R = key_cmp} (all_points news)) q ≡ join_options (join_cells payload_eq) (get (from_sorted {R = key_cmp} (all_points olds)) q) (find key_cmp q came)) where
  pub grown_whole : (more : ℕ) → is_sorted incarnation_cmp (map keyed_cells news) ≡ true → list_all has_cells news ≡ true → more ≡ count_by (is_new key_cmp (all_points olds)) came → len + more ≤ 2 ^ 62 → IsWhole news (len + more)
  grown_whole more sorted filled is within = record {
    sorted = sorted;
    filled = filled;
    counted =
        let longer = longer_by key_total key_exact (join_cells payload_eq) (from_sorted {R = key_cmp} (all_points olds)) (from_sorted (all_points news)) came apart at in
        let listed = sym (entries_points olds whole.sorted) in
        (λ i. (whole.counted ∙ ap length listed) i + (is ∙ ap (λ es. count_by (is_new key_cmp es) came) listed) i) ∙ sym longer ∙ ap length (entries_points news sorted);
    bounded = within;
  }

  pub grown : (g : Growth) (s : Points) → IsWhole news (len + g.more) → g.changed ≡ count_by (is_change key_cmp (join_cells payload_eq) cell_eq (all_points olds)) came → Tells olds news g.before g.after → ((q : Key) → get s q ≡ find key_cmp q came) → GrowsBy olds news len s g
  grown g s longer changed tells is = record {
    whole = longer;
    joins = same_map key_total key_exact _ _ (λ q. at q ∙ sym (get-join_maps key_total key_exact (join_cells payload_eq) (from_sorted (all_points olds)) s q ∙ ap (join_options (join_cells payload_eq) (get {R = key_cmp} (from_sorted (all_points olds)) q)) (is q)));
    changes =
        changed
        ∙ ap (λ es. count_by (is_change key_cmp (join_cells payload_eq) cell_eq es) came) (sym (entries_points olds whole.sorted))
        ∙ sym (changes_by key_total key_exact (join_cells payload_eq) (from_sorted (all_points olds)) (from_sorted (all_points news)) came apart at cell_eq cell_itself);
    tells = tells;
  }

-- where they are of one incarnation
module _ (olds news : List IncarnationState) (len : ℕ) (whole : IsWhole olds len) (a : IncarnationKey) (ts : List KeyedCell) (apart : IsDistinct (eq_by_cmp item_cmp) (map (λ t. t.0) ts)) (s : Points) (is : (q : Key) → get s q ≡ find key_cmp q (under a ts)) where
  joined_at : (more changed : ℕ) → Grows olds news a ts more changed → (q : Key) → get (from_sorted {R = key_cmp} (all_points news)) q ≡ join_options (join_cells payload_eq) (get (from_sorted {R = key_cmp} (all_points olds)) q) (find key_cmp q (under a ts))
  joined_at more changed grows q = subst (λ x. get (from_sorted {R = key_cmp} (all_points news)) x ≡ join_options (join_cells payload_eq) (get (from_sorted {R = key_cmp} (all_points olds)) x) (find key_cmp x (under a ts))) (split_key q).2 (at (split_key q).0 (split_key q).1)
    where
      at : (c : IncarnationKey) (b : ItemKey) → get (from_sorted {R = key_cmp} (all_points news)) (whole_key c b) ≡ join_options (join_cells payload_eq) (get (from_sorted {R = key_cmp} (all_points olds)) (whole_key c b)) (find key_cmp (whole_key c b) (under a ts))
      at c b =
          get_points news grows.sorted c b
          ∙ ap (λ x. find item_cmp b (entries_at x)) (grows.found c)
          ∙ elim (eq_by_cmp incarnation_cmp c a) as (λ u. eq_by_cmp incarnation_cmp c a ≡ u → find item_cmp b (entries_at (cond u (Some grows.cells) (find incarnation_cmp c (map keyed_cells olds)))) ≡ join_options (join_cells payload_eq) (find item_cmp b (cells_at c olds)) (cond u (find item_cmp b ts) None)) [
            | true ↦ λ t. subst (λ x. find item_cmp b (entries grows.cells) ≡ join_options (join_cells payload_eq) (find item_cmp b (cells_at x olds)) (find item_cmp b ts)) (sym (incarnation_exact c a ((Equal-is (incarnation_cmp c a)).0 t))) (grows.joined b)
            | false ↦ λ t. unjoined (join_cells payload_eq) (find item_cmp b (cells_at c olds))
          ] refl
          ∙ sym (λ i. join_options (join_cells payload_eq) (get_points olds whole.sorted c b i) (find_under a c b ts i))

  pub one_grown : (g : Growth) → Grows olds news a ts g.more g.changed → len + g.more ≤ 2 ^ 62 → Tells olds news g.before g.after → GrowsBy olds news len s g
  one_grown g grows within tells =
      let at = joined_at g.more g.changed grows in
      let more_keys = count_map (is_new key_cmp (all_points olds)) (is_new item_cmp (cells_at a olds)) (λ t. (whole_key a t.0, t.1)) (λ t. ap is_none (find_listed olds whole.sorted a t.0)) ts in
      let changes = count_map (is_change key_cmp (join_cells payload_eq) cell_eq (all_points olds)) (is_change item_cmp (join_cells payload_eq) cell_eq (cells_at a olds)) (λ t. (whole_key a t.0, t.1))
      (λ t. ap (λ x. not (option_eq cell_eq x (join_options (join_cells payload_eq) x (Some t.1)))) (find_listed olds whole.sorted a t.0)) ts in
      grown olds news len whole (under a ts) (distinct_under a ts apart) at g s
      (grown_whole olds news len whole (under a ts) (distinct_under a ts apart) at g.more grows.sorted grows.filled (grows.more_keys ∙ sym more_keys) within)
      (grows.changes ∙ sym changes) tells is

  -- the same where a call may be refused
  pub held_grown : {E : Type 0} (r : Result Growth E) → IfOk r (λ g. Grows olds news a ts g.more g.changed) → IfOk r (λ g. len + g.more ≤ 2 ^ 62) → IfOk r (λ g. Tells olds news g.before g.after) → IfOk r (λ g. GrowsBy olds news len s g)
  held_grown (Err e) grows within tells = tt
  held_grown (Ok g) grows within tells = one_grown g grows within tells

-- an export without points adds nothing
pub joined_nothing : (e : Export) → e.points ≡ [] → (m : Points) → m ≡ join_points m (state (e ∷ []))
joined_nothing e none m = same_map key_total key_exact _ _ (λ q.
    unjoined (join_cells payload_eq) (get m q)
    ∙ ap (join_options (join_cells payload_eq) (get m q)) (sym (state_alone e q ∙ ap (λ ps. find key_cmp q (under (e.writer, e.start) (map (λ p. (point_key p, record { time = e.time; held = One p.payload })) ps))) none))
    ∙ sym (get-join_maps key_total key_exact (join_cells payload_eq) m (state (e ∷ [])) q))

pub changed_nothing : (m : Points) → 0 ≡ changed_points m m
unfolding IsDistinct
changed_nothing m = sym (changes_by key_total key_exact (join_cells payload_eq) m m [] tt (λ q. unjoined (join_cells payload_eq) (get m q)) cell_eq cell_itself)
