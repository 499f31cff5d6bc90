-- The numbers of a page's rows are those of what was fed, whatever writers fed it.
use Rattle.std.proofs.Common.{◌≡◌, ℕ, ℤ, pos, ◌+◌, ◌+ℤ◌, ◌&&◌, ◌||◌, not, Bool, true, false, cond, inl, inr, List, [], ◌∷◌, ◌++◌, map, filter, fold, length, Option, Some, None, refl, sym, ap, subst, ◌∙◌, arith}
use Rattle.std.specs.Prelude.{count_by, int_le}
use Rattle.std.specs.Cmp.{Equal-is, eq_by_cmp_equiv, int_cmp_total}
use Rattle.std.specs.FinMap.{entries, int_cmp-IsAntisymmetric}
use Rattle.std.specs.List.{flat_map, list_all, list_any, sum_by}
use Rattle.std.specs.Option.{option_map_or}
use Rattle.std.specs.Ordering.{eq_by_cmp, int_cmp}
use Rattle.std.proofs.lemmas.Bool.{and_parts}
use Rattle.std.proofs.lemmas.Int.{ints}
use Rattle.std.proofs.lemmas.List.Sums.{sum_by-cons}
use Rattle.std.proofs.lemmas.Slice.Eq.{bytes_eq-Decides}
use Rattle.agg_kit.specs.Payloads as payloads
use Rattle.gateway_kit.specs.Walks.{is_of}
use Rattle.point_kit.specs.Orders.{bounds_of}
use Rattle.point_kit.specs.declared.cell.Held.TheVariants.{One}
use Rattle.point_kit.specs.declared.key.Key.{Key}
use Rattle.point_kit.specs.declared.payload.Payload.{Payload}
use Rattle.point_kit.specs.declared.shape.Shape.{Shape}
use Rattle.point_kit.specs.declared.stream.Stream.{Stream}
use Rattle.point_kit.specs.declared.writer_id.WriterId.{WriterId}
use Rattle.rollup_kit.specs.Naming.{Name}
use Rattle.rollup_kit.specs.Recordings.{by_keys, values_under}
use Rattle.schedule_kit.specs.Deeds.{Made}
use Rattle.schedule_kit.specs.Members.{In, Once}
use Rattle.schedule_kit.specs.Rounds.{Rounding, IsSound, state}
use Rattle.schedule_kit.specs.Rows.{values_fed}
use Rattle.schedule_kit.specs.Taken.{newest, entries_taken}
use Rattle.schedule_kit.specs.Totals.{IsSum, total, total_where}
use Rattle.schedule_kit.proofs.Members.{any-In, filter-In, In-filter, In-flat_map, In-map, map-In}
use Rattle.schedule_kit.proofs.Mixed.{total-ones}
use Rattle.schedule_kit.proofs.Parts.{AreTaken}
use Rattle.schedule_kit.proofs.Recorded as recorded
use Rattle.schedule_kit.proofs.Totals.{any_sum, count_sum, by_name, total-flat_map, total-map, total_same, total_zero}
use Rattle.page_kit.specs.Bounds.{bounds_in, buckets_in, count_up_to, has_bound, is_shown, rising, service_bounds, shared_bounds, values_up_to, within_room}
use Rattle.page_kit.specs.Families as families
use Rattle.page_kit.specs.Families.{Measured, is_claimed, metric_cmp, metrics_of, own_names, rank_cmp, rank_of, ranked, shown_after, shown_metrics}
use Rattle.page_kit.specs.Labels.{labels_cmp, row_labels}
use Rattle.page_kit.specs.Metrics.{claims, family, kind_of, metric_of}
use Rattle.page_kit.specs.Names.{same}
use Rattle.page_kit.specs.Page.{asked_cells, is_left_in, left_in}
use Rattle.page_kit.specs.Recorded.{AreNumbers, IsRecorded, goes_to, is_asked, row_values}
use Rattle.page_kit.specs.Rows.{row_bounds, rows}
use Rattle.page_kit.specs.Totals.{KeyedCell, count_in, count_of, is_conflict, sum_in, sum_of}
use Rattle.page_kit.specs.declared.labels.Label.{Label}
use Rattle.page_kit.specs.declared.metric.Kind.{Kind}
use Rattle.page_kit.specs.declared.metric.Kind.TheVariants.{Updown, Counter, Gauge, Histogram}
use Rattle.page_kit.specs.declared.metric.Metric.{Metric}
use Rattle.attr_kit.specs.Orders.{text_cmp}
use Rattle.page_kit.proofs.GroupLaws.{in_group, in_ordered}
use Rattle.page_kit.proofs.PageLaws.{labels_total}
use Rattle.page_kit.proofs.Shared.{filter_twice}
use Rattle.page_kit.proofs.Telling.{metrics_total, one_metric, one_service, same_labels}

-- numbers added up
pub whole_sum : IsSum (pos 0) ◌+ℤ◌
whole_sum = record { assoc = λ a b c. omega (arith, ints); comm = λ a b. omega (arith, ints); zero_left = λ a. omega (arith, ints) }

fold_whole : {A : Type 0} (f : A → ℤ) (a : ℤ) (xs : List A) → fold (λ s x. s +ℤ f x) a xs ≡ a +ℤ total (pos 0) ◌+ℤ◌ f xs
fold_whole f a [] = omega (arith, ints)
fold_whole f a (x ∷ xs) = fold_whole f (a +ℤ f x) xs ∙ whole_sum.assoc a (f x) (total (pos 0) ◌+ℤ◌ f xs)

pub fold_total : {A : Type 0} (f : A → ℤ) (xs : List A) → fold (λ s x. s +ℤ f x) (pos 0) xs ≡ total (pos 0) ◌+ℤ◌ f xs
fold_total f xs = fold_whole f (pos 0) xs ∙ whole_sum.zero_left (total (pos 0) ◌+ℤ◌ f xs)

counted_total : {A : Type 0} (f : A → ℕ) (xs : List A) → sum_by f xs ≡ total 0 ◌+◌ f xs
counted_total f [] = refl
counted_total f (x ∷ xs) = sum_by-cons f x xs ∙ ap (λ n. f x + n) (counted_total f xs)

any_total : {A : Type 0} (q : A → Bool) (xs : List A) → list_any q xs ≡ total false ◌||◌ q xs
any_total q [] = refl
any_total q (x ∷ xs) = ap (λ b. q x || b) (any_total q xs)

-- where none of some tests passes, no one does
none_passes : {A : Type 0} (q : A → Bool) (x : A) (xs : List A) → total false ◌||◌ q xs ≡ false → In x xs → q x ≡ false
none_passes q x [] e i = absurd i
none_passes q x (y ∷ ys) e (inl same) = ap q same ∙ (or_no (q y) (total false ◌||◌ q ys) e).0
  where
    or_no : (a b : Bool) → (a || b) ≡ false → (a ≡ false) × (b ≡ false)
    or_no true b f = absurd cc
    or_no false b f = (refl, f)
none_passes q x (y ∷ ys) e (inr i) = none_passes q x ys (later (q y) (total false ◌||◌ q ys) e) i
  where
    later : (a b : Bool) → (a || b) ≡ false → b ≡ false
    later true b f = absurd cc
    later false b f = f

all_In : {A : Type 0} (q : A → Bool) (x : A) (xs : List A) → list_all q xs ≡ true → In x xs → q x ≡ true
all_In q x [] e i = absurd i
all_In q x (y ∷ ys) e (inl same) = ap q same ∙ (and_parts (q y) (list_all q ys) e).0
all_In q x (y ∷ ys) e (inr i) = all_In q x ys (and_parts (q y) (list_all q ys) e).1 i

module _ {U : Type 0} (z : U) (p : U → U → U) (laws : IsSum z p) where
  kept_total : {A : Type 0} (b : Bool) (f : A → U) (x : A) (xs : List A) → total z p f (cond b (x ∷ xs) xs) ≡ p (cond b (f x) z) (total z p f xs)
  kept_total true f x xs = refl
  kept_total false f x xs = sym (laws.zero_left (total z p f xs))

  -- what passes, added up
  total_filter : {A : Type 0} (q : A → Bool) (f : A → U) (xs : List A) → total z p f (filter q xs) ≡ total_where z p q f xs
  total_filter q f [] = refl
  total_filter q f (x ∷ xs) = kept_total (q x) f x (filter q xs) ∙ ap (p (cond (q x) (f x) z)) (total_filter q f xs)

  -- the values under a name, each weighed
  pub weighed_under : (weigh : ℤ → U) (same : Name → Name → Bool) (x : Name) (vs : List (Name × ℤ)) → total z p weigh (values_under same x vs) ≡ total_where z p (λ (v : Name × U). same x v.0) (λ v. v.1) (map (λ v. (v.0, weigh v.1)) vs)
  weighed_under weigh same x [] = refl
  weighed_under weigh same x (v ∷ vs) = at (same x v.0) ∙ ap (p (cond (same x v.0) (weigh v.1) z)) (weighed_under weigh same x vs)
    where
      at : (b : Bool) → total z p weigh (map (λ w. w.1) (cond b (v ∷ filter (λ w. same x w.0) vs) (filter (λ w. same x w.0) vs))) ≡ p (cond b (weigh v.1) z) (total z p weigh (values_under same x vs))
      at true = refl
      at false = sym (laws.zero_left (total z p weigh (values_under same x vs)))

module _ (bound : ℤ) where
  pub bound_In : (bounds : List ℤ) → list_any (eq_by_cmp int_cmp bound) bounds ≡ true → In bound bounds
  bound_In bounds e = any-In (eq_by_cmp int_cmp) (eq_by_cmp_equiv int_cmp_total) (λ x y t. int_cmp-IsAntisymmetric x y ((Equal-is (int_cmp x y)).0 t)) bound bounds e

  -- a bound that cells share is one of each
  shared_has : (cells : List KeyedCell) (e : KeyedCell) → In bound (shared_bounds cells) → In e cells → has_bound bound e ≡ true
  unfolding shared_bounds
  shared_has [] e b i = absurd i
  shared_has (x ∷ xs) e b i =
      let passes = (filter-In (λ l. is_shown l && list_all (has_bound l) (x ∷ xs)) bound (rising (bounds_in x)) b).1 in
      all_In (has_bound bound) e (x ∷ xs) (and_parts (is_shown bound) (list_all (has_bound bound) (x ∷ xs)) passes).1 i

  -- each cell of a row has the row's bounds
  row_has : (all cells : List KeyedCell) → ((e f : KeyedCell) → In e cells → In f cells → e.0.writer.service ≡ f.0.writer.service) → ((e : KeyedCell) → In e cells → In e all)
      → In bound (row_bounds all cells) → (e : KeyedCell) → In e cells → has_bound bound e ≡ true
  unfolding service_bounds
  row_has all [] told sub b e i = absurd i
  row_has all (x ∷ xs) told sub b e i =
      shared_has (filter (λ y. same x.0.writer.service y.0.writer.service) all) e b
      (In-filter (λ y. same x.0.writer.service y.0.writer.service) e all (sub e i) ((bytes_eq-Decides x.0.writer.service e.0.writer.service).1 (told x e (inl refl) i)))

-- a metric that is shown is one of all
shown_in : (claimed : List (List ℕ)) (m : Measured) (ms : List Measured) → In m (shown_after claimed ms) → In m ms
shown_in claimed m [] i = i
shown_in claimed m (x ∷ ms) i = at (is_claimed claimed x) (shown_in (claims x.0 ++ claimed) m ms) i
  where
    at : (b : Bool) → (In m (shown_after (claims x.0 ++ claimed) ms) → In m ms) → In m (cond b (shown_after (claims x.0 ++ claimed) ms) (x ∷ shown_after (claims x.0 ++ claimed) ms)) → In m (x ∷ ms)
    at true later j = inr (later j)
    at false later (inl e) = inl e
    at false later (inr j) = inr (later j)

shown_metric : (cells : List KeyedCell) (m : Measured) → In m (shown_metrics cells) → In m (metrics_of cells)
unfolding shown_metrics families.by_name ranked
shown_metric cells m i =
    in_ordered rank_cmp rank_of m (metrics_of cells)
    (shown_in own_names m (ranked (metrics_of cells)) (in_ordered text_cmp (λ (n : Measured). family n.0) m (shown_after own_names (ranked (metrics_of cells))) i))

metric_cells : (cells : List KeyedCell) (m : Measured) → In m (metrics_of cells) → m.1 ≡ filter (λ e. eq_by_cmp metric_cmp m.0 (metric_of e.0.stream)) cells
unfolding metrics_of
metric_cells cells m i = in_group metrics_total (λ (e : KeyedCell). metric_of e.0.stream) cells m i

row_cells : (cells : List KeyedCell) (r : List Label × List KeyedCell) → In r (rows cells) → r.1 ≡ filter (λ e. eq_by_cmp labels_cmp r.0 (row_labels e.0)) cells
unfolding rows
row_cells cells r i = in_group labels_total (λ (e : KeyedCell). row_labels e.0) cells r i

-- What a payload tells of the values that it is of: what they add up to, how many they are, and how many are not above each bound. Of a
-- gauge nothing is said.
pub record Tells (shape : Shape) (payload : Payload) (values : List ℤ) : Type 0 where
  pub sum : (kind_of shape ≡ Gauge → ⊥) → sum_in (One payload) ≡ total (pos 0) ◌+ℤ◌ (λ v. v) values
  pub count : kind_of shape ≡ Histogram → count_in (One payload) ≡ total 0 ◌+◌ (λ _. 1) values
  pub up_to : kind_of shape ≡ Histogram → (bound : ℤ) → In bound (bounds_of shape)
      → count_up_to bound (bounds_of shape) (buckets_in (One payload)) ≡ total 0 ◌+◌ (λ v. cond (int_le v bound) 1 0) values

-- Of whatever writers, whose keys have the streams of their names: where each payload tells the values that were fed to its name, the numbers
-- of a page are those of what was fed.
module _ {N : Type 0} (q : Rounding N Key WriterId Name Payload) (sound : IsSound (by_keys q)) (of_stream : (i : WriterId) (s : ℕ) (x : Name) → (q.key i s x).stream ≡ x.0)
    (ms : List (Made N)) (taken : AreTaken q.who ms) (is : List (ℕ × ℕ)) (once : Once {A = WriterId × ℕ} (map (λ i. (q.who i.0, i.1)) is))
    (covered : (m : Made N) → In m ms → In {A = ℕ × ℕ} (m.writer, m.start) is) (fed : ℕ → List N → List (Name × ℤ))
    (named : (i : ℕ × ℕ) → In i is → (v : Name × ℤ) → In v (fed i.0 (entries_taken ms i.0 i.1)) → In v.0 (q.names i.0 (entries_taken ms i.0 i.1)))
    (tells : (i : ℕ × ℕ) → In i is → (x : Name) → In x (q.names i.0 (entries_taken ms i.0 i.1))
    → Tells x.0.shape (q.payload i.0 (entries_taken ms i.0 i.1) x) (values_under q.same_name x (fed i.0 (entries_taken ms i.0 i.1)))) where
  abbrev r : Rounding N Key WriterId Name Payload
  r = by_keys q

  abbrev held : List KeyedCell
  held = entries (state r ms)

  -- of each incarnation the cells of its newest collection taken
  abbrev entries_at : ℕ × ℕ → List N
  entries_at i = entries_taken ms i.0 i.1

  abbrev names_at : ℕ × ℕ → List Name
  names_at i = q.names i.0 (entries_at i)

  abbrev key_of : ℕ × ℕ → Name → Key
  key_of i x = q.key (q.who i.0) i.1 x

  abbrev payload_of_name : ℕ × ℕ → Name → Payload
  payload_of_name i x = q.payload i.0 (entries_at i) x

  abbrev cell_of : ℕ × ℕ → Name → KeyedCell
  cell_of i x = (key_of i x, record { time = option_map_or (λ (m : Made N). m.time) (newest ms i.0 i.1) 0; held = One (payload_of_name i x) })

  abbrev cells_of : ℕ × ℕ → List KeyedCell
  cells_of i = map (cell_of i) (names_at i)

  abbrev cells : List KeyedCell
  cells = flat_map cells_of is

  abbrev its_values : ℕ × ℕ → Name → List ℤ
  its_values i x = values_under q.same_name x (fed i.0 (entries_at i))

  -- what was fed to all of them
  abbrev pub all_fed : List (Key × ℤ)
  all_fed = values_fed r entries_at is fed

  adds_up : {U : Type 0} (z : U) (p : U → U → U) → IsSum z p → (f : KeyedCell → U) → total z p f held ≡ total z p f cells
  adds_up z p laws f = recorded.adds_up r sound ms taken is once covered z p laws f

  -- what passes among what a gateway holds, added up, is what passes among what was fed
  module _ {U : Type 0} (z : U) (p : U → U → U) (laws : IsSum z p) (asks : Key → Bool) (reads : KeyedCell → U) (weigh : ℤ → U)
      (good : (i : ℕ × ℕ) → In i is → (x : Name) → In x (names_at i) → asks (key_of i x) ≡ true → reads (cell_of i x) ≡ total z p weigh (its_values i x)) where
    abbrev weighed : ℕ × ℕ → List (Name × U)
    weighed i = map (λ v. (v.0, weigh v.1)) (fed i.0 (entries_at i))

    abbrev fed_at : ℕ × ℕ → List (Key × ℤ)
    fed_at i = map (λ v. (key_of i v.0, v.1)) (fed i.0 (entries_at i))

    abbrev read_where : KeyedCell → U
    read_where e = cond (asks e.0) (reads e) z

    abbrev weighed_where : Key × ℤ → U
    weighed_where v = cond (asks v.0) (weigh v.1) z

    read_as : (i : ℕ × ℕ) → In i is → (x : Name) → In x (names_at i) → read_where (cell_of i x) ≡ cond (asks (key_of i x)) (total_where z p (λ (v : Name × U). q.same_name x v.0) (λ v. v.1) (weighed i)) z
    read_as i j x there = go (asks (key_of i x)) refl
      where
        go : (b : Bool) → asks (key_of i x) ≡ b → cond b (reads (cell_of i x)) z ≡ cond b (total_where z p (λ (v : Name × U). q.same_name x v.0) (λ v. v.1) (weighed i)) z
        go true e = good i j x there e ∙ weighed_under z p laws weigh q.same_name x (fed i.0 (entries_at i))
        go false e = refl

    named_too : (i : ℕ × ℕ) → In i is → (v : Name × U) → In v (weighed i) → In v.0 (names_at i)
    named_too i there v j =
        let w = map-In (λ (w : Name × ℤ). (w.0, weigh w.1)) v (fed i.0 (entries_at i)) j in
        subst (λ (x : Name). In x (names_at i)) (sym (ap (λ (w : Name × U). w.0) w.2)) (named i there w.0 w.1)

    of_incarnation : (i : ℕ × ℕ) → In i is → total z p read_where (cells_of i) ≡ total z p weighed_where (fed_at i)
    of_incarnation i j =
        total-map z p laws read_where (cell_of i) (names_at i)
        ∙ total_same z p laws (λ x. read_where (cell_of i x)) (λ x. cond (asks (key_of i x)) (total_where z p (λ (v : Name × U). q.same_name x v.0) (λ v. v.1) (weighed i)) z) (names_at i) (λ x k. read_as i j x k)
        ∙ by_name z p laws q.same_name sound.names_equivalence sound.names_exact (λ x. asks (key_of i x)) (names_at i) (sound.once i.0 (entries_at i)) (weighed i) (λ v k. named_too i j v k)
        ∙ total-map z p laws (λ (v : Name × U). cond (asks (key_of i v.0)) v.1 z) (λ (v : Name × ℤ). (v.0, weigh v.1)) (fed i.0 (entries_at i))
        ∙ sym (total-map z p laws weighed_where (λ (v : Name × ℤ). (key_of i v.0, v.1)) (fed i.0 (entries_at i)))

    added : total z p read_where held ≡ total z p weighed_where all_fed
    added =
        adds_up z p laws read_where ∙ total-flat_map z p laws read_where cells_of is ∙ total_same z p laws (λ i. total z p read_where (cells_of i)) (λ i. total z p weighed_where (fed_at i)) is (λ i j. of_incarnation i j)
        ∙ sym (total-flat_map z p laws weighed_where fed_at is)

  module _ (service but : Option (List ℕ)) (m : Measured) (there : In m (shown_metrics (left_in but (asked_cells service (state r ms))))) (w : List Label × List KeyedCell) (here : In w (rows m.1)) where
    abbrev asks : Key → Bool
    asks = goes_to service but m.0 w.0

    abbrev of_metric : KeyedCell → Bool
    of_metric e = eq_by_cmp metric_cmp m.0 (metric_of e.0.stream)

    abbrev of_labels : KeyedCell → Bool
    of_labels e = eq_by_cmp labels_cmp w.0 (row_labels e.0)

    abbrev values : List ℤ
    values = row_values service but m.0 w.0 all_fed

    its_row : w.1 ≡ filter of_labels m.1
    its_row = row_cells m.1 w here

    -- the row has the cells of its keys
    picked : w.1 ≡ filter (λ e. asks e.0) held
    picked =
        let all = left_in but (asked_cells service (state r ms)) in
        its_row ∙ ap (filter of_labels) (metric_cells all m (shown_metric all m there)) ∙ filter_twice of_metric of_labels all
        ∙ left but (λ e. of_metric e && of_labels e) (asked_cells service (state r ms)) ∙ served service (λ e. is_left_in but e.0 && (of_metric e && of_labels e))
      where
        left : (o : Option (List ℕ)) (p : KeyedCell → Bool) (es : List KeyedCell) → filter p (left_in o es) ≡ filter (λ e. is_left_in o e.0 && p e) es
        left None p es = refl
        left (Some scope) p es = filter_twice (λ (e : KeyedCell). is_left_in (Some scope) e.0) p es

        served : (o : Option (List ℕ)) (p : KeyedCell → Bool) → filter p (asked_cells o (state r ms)) ≡ filter (λ e. is_asked o e.0 && p e) held
        served None p = refl
        served (Some t) p = filter_twice (λ (e : KeyedCell). is_of t e.0.writer) p held

    row_is : {U : Type 0} (z : U) (p : U → U → U) → IsSum z p → (reads : KeyedCell → U) (weigh : ℤ → U)
        → ((i : ℕ × ℕ) → In i is → (x : Name) → In x (names_at i) → asks (key_of i x) ≡ true → reads (cell_of i x) ≡ total z p weigh (its_values i x)) → total z p reads w.1 ≡ total z p weigh values
    row_is z p laws reads weigh good =
        ap (total z p reads) picked ∙ total_filter z p laws (λ (e : KeyedCell). asks e.0) reads held ∙ added z p laws asks reads weigh good
        ∙ sym (total_filter z p laws (λ (v : Key × ℤ). asks v.0) (λ v. weigh v.1) all_fed) ∙ sym (total-map z p laws weigh (λ (v : Key × ℤ). v.1) (filter (λ v. asks v.0) all_fed))

    -- no conflict stands in it
    no_conflict : list_any is_conflict w.1 ≡ false
    no_conflict =
        any_total is_conflict w.1 ∙ row_is false ◌||◌ any_sum is_conflict (λ _. false) (λ i j x k t. sym (total_zero false ◌||◌ any_sum (λ _. false) (its_values i x) (λ _ _. refl)))
        ∙ total_zero false ◌||◌ any_sum (λ _. false) values (λ _ _. refl)

    -- a key of the row is of its metric
    its_kind : (e : KeyedCell) → asks e.0 ≡ true → kind_of e.0.stream.shape ≡ m.0.kind
    its_kind e t =
        let left = (and_parts (is_asked service e.0) (is_left_in but e.0 && (of_metric e && of_labels e)) t).1 in
        let both = (and_parts (is_left_in but e.0) (of_metric e && of_labels e) left).1 in
        ap (λ (n : Metric). n.kind) (sym (one_metric m.0 (metric_of e.0.stream) (and_parts (of_metric e) (of_labels e) both).0))

    -- a name of the row is of its metric
    name_kind : (i : ℕ × ℕ) (x : Name) → asks (key_of i x) ≡ true → kind_of x.0.shape ≡ m.0.kind
    name_kind i x t = ap (λ (s : Stream). kind_of s.shape) (sym (of_stream (q.who i.0) i.1 x)) ∙ its_kind (cell_of i x) t

    sums : (m.0.kind ≡ Gauge → ⊥) → sum_of w.1 ≡ payloads.total values
    unfolding sum_of
    sums other =
        fold_total (λ (e : KeyedCell). sum_in e.1.held) w.1
        ∙ row_is (pos 0) ◌+ℤ◌ whole_sum (λ e. sum_in e.1.held) (λ v. v) (λ i j x k t. (tells i j x k).sum (λ g. other (sym (name_kind i x t) ∙ g)))
        ∙ sym (fold_total (λ v. v) values)

    counts : m.0.kind ≡ Histogram → count_of w.1 ≡ length values
    unfolding count_of
    counts kind =
        counted_total (λ (e : KeyedCell). count_in e.1.held) w.1
        ∙ row_is 0 ◌+◌ count_sum (λ e. count_in e.1.held) (λ _. 1) (λ i j x k t. (tells i j x k).count (name_kind i x t ∙ kind))
        ∙ total-ones values

    in_row : (e : KeyedCell) → In e w.1 → In e m.1 × (of_labels e ≡ true)
    in_row e i = filter-In of_labels e m.1 (subst (λ (l : List KeyedCell). In e l) its_row i)

    one_of_row : (e f : KeyedCell) → In e w.1 → In f w.1 → e.0.writer.service ≡ f.0.writer.service
    one_of_row e f i j = one_service e.0 f.0 (sym (same_labels w.0 (row_labels e.0) (in_row e i).1) ∙ same_labels w.0 (row_labels f.0) (in_row f j).1)

    module _ (bound : ℤ) (shown : In bound (row_bounds m.1 w.1)) where
      -- each key of the row has the bound
      abbrev lacks : KeyedCell → Bool
      lacks e = asks e.0 && not (has_bound bound e)

      none_lacks : (e : KeyedCell) → In e held → lacks e ≡ false
      none_lacks e i = go (asks e.0) refl
        where
          go : (b : Bool) → asks e.0 ≡ b → (b && not (has_bound bound e)) ≡ false
          go true t = ap not (row_has bound m.1 w.1 one_of_row (λ f j. (in_row f j).0) shown e (subst (λ (l : List KeyedCell). In e l) (sym picked) (In-filter (λ (f : KeyedCell). asks f.0) e held i t)))
          go false t = refl

      has_it : (e : KeyedCell) → In e cells → asks e.0 ≡ true → has_bound bound e ≡ true
      has_it e i t = had (has_bound bound e) (sym (ap (λ b. b && not (has_bound bound e)) t) ∙ none_passes lacks e cells (sym (adds_up false ◌||◌ any_sum lacks) ∙ total_zero false ◌||◌ any_sum lacks held none_lacks) i)
        where
          had : (b : Bool) → not b ≡ false → b ≡ true
          had true n = refl
          had false n = absurd cc

      counted_of : (i : ℕ × ℕ) → In i is → (x : Name) → In x (names_at i) → asks (key_of i x) ≡ true → kind_of x.0.shape ≡ Histogram
          → count_up_to bound (bounds_in (cell_of i x)) (buckets_in (One (payload_of_name i x))) ≡ total 0 ◌+◌ (λ v. cond (int_le v bound) 1 0) (its_values i x)
      counted_of i j x k t kind =
          let stream = of_stream (q.who i.0) i.1 x in
          let there : In bound (bounds_of x.0.shape) =
          subst (λ (s : Stream). In bound (bounds_of s.shape)) stream
          (bound_In bound (bounds_in (cell_of i x)) (has_it (cell_of i x) (In-flat_map cells_of (cell_of i x) i is j (In-map (cell_of i) x (names_at i) k)) t)) in
          ap (λ (s : Stream). count_up_to bound (bounds_of s.shape) (buckets_in (One (payload_of_name i x)))) stream ∙ (tells i j x k).up_to kind bound there

      up_to : m.0.kind ≡ Histogram → values_up_to bound w.1 ≡ within_room (count_by (λ v. int_le v bound) values)
      unfolding values_up_to
      up_to kind = ap within_room (
          counted_total (λ (e : KeyedCell). count_up_to bound (bounds_in e) (buckets_in e.1.held)) w.1
          ∙ row_is 0 ◌+◌ count_sum (λ e. count_up_to bound (bounds_in e) (buckets_in e.1.held)) (λ v. cond (int_le v bound) 1 0) (λ i j x k t. counted_of i j x k t (name_kind i x t ∙ kind))
          ∙ sym (counted_total (λ v. cond (int_le v bound) 1 0) values)
          )

    numbers : (k : Kind) → m.0.kind ≡ k → AreNumbers k (row_bounds m.1 w.1) w.1 values
    numbers Updown e = sums (λ g. absurd (cc))
    numbers Counter e = sums (λ g. absurd (cc))
    numbers Gauge e = tt
    numbers Histogram e = (sums (λ g. absurd (cc)), counts e, λ bound shown. up_to bound shown e)

    pub are_recorded : IsRecorded m w values
    are_recorded = record { shown = no_conflict; numbers = numbers m.0.kind refl }
