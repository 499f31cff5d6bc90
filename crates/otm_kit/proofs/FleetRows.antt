-- The rows of the program's fleet: one, of all recordings, where there is any.
use Rattle.std.proofs.Common.{◌≡◌, ◌∙◌, ◌+◌, ◌*◌, ◌<◌, ◌==◌, ℕ, zero, suc, ℤ, pos, ◌+ℤ◌, true, false, cond, ◌&&◌, List, [], ◌∷◌, ◌++◌, map, filter, fold, rules, length, replicate, drop, Some, None, refl, sym, subst, ap, arith, slice_get, slice_index_or, mul_assoc, mul-zero, suc-mul, ◌≤◌, inl, inr}
use Rattle.std.specs.List.{flat_map}
use Rattle.std.specs.Ordering.{eq_by_cmp}
use Rattle.std.specs.FinMap.{entries, entries-insert, len-entries, len-empty}
use Rattle.std.specs.FinMap as finmap
use Rattle.std.specs.FinMap.Entries.{put}
use Rattle.std.proofs.lemmas.Grind.{flat_map-append}
use Rattle.agg_kit.specs.Entries.{Entry, arrivals}
use Rattle.agg_kit.specs.Feeding.{add_once, distinct, fed, goes_to, has_set, own_sets, sets_of}
use Rattle.attr_kit.specs.Keeping.{kept}
use Rattle.attr_kit.specs.declared.attr_set.AttrSet.{AttrSet}
use Rattle.attr_kit.specs.declared.keep.Keep.TheVariants.{All, Only}
use Rattle.fleet_kit.specs.Setups.{no_writer, entries_recorded, writers_of}
use Rattle.fleet_kit.specs.declared.setup.FleetSetup.{FleetSetup}
use Rattle.plan_kit.specs.Feeds.{plan_of, wanted_of}
use Rattle.plan_kit.specs.Plans.{Planned, feeds_of}
use Rattle.plan_kit.specs.declared.feed.Feed.{Feed}
use Rattle.point_kit.specs.declared.key.Key.{Key}
use Rattle.point_kit.specs.declared.stream.Stream.{Stream}
use Rattle.point_kit.specs.declared.writer_id.WriterId.{WriterId}
use Rattle.rollup_kit.proofs.RowsMixed.{in_row, row_at}
use Rattle.rollup_kit.proofs.SetOrders.{sets_total}
use Rattle.rollup_kit.specs.Asks.{Attributes, attributes_cmp, asks, group}
use Rattle.rollup_kit.specs.Fleets.{Task, entries_of}
use Rattle.rollup_kit.specs.Naming.{Name, key_at, names_from, values_from}
use Rattle.rollup_kit.specs.Parts.{Parts, no_parts, parts_of_value}
use Rattle.rollup_kit.specs.Rollups.{recorded_rows, row_of}
use Rattle.rollup_kit.specs.Writers.{Writers, entries_fed, rounding, rows_of}
use Rattle.schedule_kit.specs.Rows as rows
use Rattle.schedule_kit.specs.Taken.{incarnations_from}
use Rattle.otm_kit.specs.FleetSetups.{IsFleetSetup, fleet_ask, fleet_plan, fleet_task, fleet_tasks, fleet_writer, fleet_writers, one}
use Rattle.otm_kit.specs.FleetTexts.{sum_in, total_line}
use Rattle.gateway_kit.specs.GatewayState.{GatewayState}
use Rattle.std.proofs.lemmas.Bool.{cases_lt, ne_eqb}
use Rattle.point_kit.specs.States.{tabulate}

-- the counter's stream
abbrev stream : Stream
stream = fleet_ask.stream

stream_is : fleet_plan.streams ≡ stream ∷ []
unfolding plan_of wanted_of
stream_is = refl

abbrev feed : Feed
feed = record { stream = 0; keep = All }

feed_is : feeds_of fleet_plan 0 ≡ feed ∷ []
unfolding plan_of wanted_of
feed_is = refl

-- what one recording brings to the stream
abbrev arrival : AttrSet × ℤ
arrival = ([], pos 1)

brings : (m : ℕ) → arrivals fleet_plan 0 (replicate m one) ≡ replicate m arrival
brings zero = refl
brings (suc m) = rw feed_is (ap (λ l. arrival ∷ l) (brings m))

module _ {A B : Type 0} (f : A → B) (x : A) where
  map_copies : (m : ℕ) → map f (replicate m x) ≡ replicate m (f x)
  map_copies zero = refl
  map_copies (suc m) = ap (λ l. f x ∷ l) (map_copies m)

-- the set that so many recordings feed
abbrev set_fed : ℕ → AttrSet
set_fed m = goes_to (own_sets fleet_plan.limit (replicate m arrival)) []

feeds : (m : ℕ) → fed fleet_plan 0 (replicate m one) ≡ replicate m (set_fed m, pos 1)
unfolding fed
feeds m = ap (λ xs. map (λ (x : AttrSet × ℤ). (goes_to (own_sets fleet_plan.limit xs) x.0, x.1)) xs) (brings m) ∙ map_copies (λ (x : AttrSet × ℤ). (goes_to (own_sets fleet_plan.limit (replicate m arrival)) x.0, x.1)) arrival m

nil_right : {A : Type 0} (xs : List A) → xs ++ [] ≡ xs
nil_right [] = refl
nil_right (x ∷ xs) = ap (λ l. x ∷ l) (nil_right xs)

values_are : (m : ℕ) → values_from fleet_plan (replicate m one) 0 fleet_plan.streams ≡ replicate m ((stream, set_fed m), pos 1)
values_are m =
    ap (values_from fleet_plan (replicate m one) 0) stream_is ∙ nil_right _
    ∙ ap (map (λ (x : AttrSet × ℤ). ((stream, x.0), x.1))) (feeds m) ∙ map_copies (λ (x : AttrSet × ℤ). ((stream, x.0), x.1)) (set_fed m, pos 1) m

-- the attribute sets of the points of so many recordings
abbrev sets : ℕ → List AttrSet
sets m = distinct (sets_of (fed fleet_plan 0 (replicate m one)))

names_are : (m : ℕ) → names_from fleet_plan (replicate m one) 0 fleet_plan.streams ≡ map (λ a. (stream, a)) (sets m)
names_are m = ap (names_from fleet_plan (replicate m one) 0) stream_is ∙ nil_right _

abbrev fold_sets : List AttrSet → List AttrSet → List AttrSet
fold_sets seen xs = fold add_once seen xs

-- sets once added stay
full : (x : AttrSet) (seen xs : List AttrSet) → (y : AttrSet) × (ys : List AttrSet) × (fold_sets (x ∷ seen) xs ≡ y ∷ ys)
full x seen [] = (x, seen, refl)
full x seen (a ∷ xs) = elim (has_set (x ∷ seen) a) as (λ b. (y : AttrSet) × (ys : List AttrSet) × (fold_sets (cond b (x ∷ seen) ((x ∷ seen) ++ a ∷ [])) xs ≡ y ∷ ys)) [
  | true ↦ full x seen xs
  | false ↦ full x (seen ++ a ∷ []) xs
]

some_set : (m : ℕ) → (y : AttrSet) × (ys : List AttrSet) × (sets (suc m) ≡ y ∷ ys)
some_set m =
    let rest = full (set_fed (suc m)) [] (sets_of (replicate m (set_fed (suc m), pos 1))) in
    (rest.0, rest.1, ap (λ xs. distinct (sets_of xs)) (feeds (suc m)) ∙ rest.2)

no_set : sets zero ≡ []
no_set = ap (λ xs. distinct (sets_of xs)) (feeds zero)

-- ---- one row

no_length : {A : Type 0} (xs : List A) → length xs ≡ 0 → xs ≡ []
no_length [] e = refl
no_length (x ∷ xs) e = absurd (omega arith)

nothing_kept : (a : AttrSet) → kept (Only []) a ≡ []
nothing_kept [] = refl
nothing_kept (p ∷ ps) = nothing_kept ps

-- keys that are asked for
abbrev AreAsked : List Key → Type 0
AreAsked [] = Unit {0}
AreAsked (k ∷ ks) = (asks fleet_ask k ≡ true) × AreAsked ks

-- values of 1 that are asked for
abbrev AreOnes : List (Key × ℤ) → Type 0
AreOnes [] = Unit {0}
AreOnes (v ∷ vs) = (asks fleet_ask v.0 ≡ true) × (v.1 ≡ pos 1) × AreOnes vs

asked_more : (xs ys : List Key) → AreAsked xs → AreAsked ys → AreAsked (xs ++ ys)
asked_more [] ys h k = k
asked_more (x ∷ xs) ys h k = (h.0, asked_more xs ys h.1 k)

ones_more : (xs ys : List (Key × ℤ)) → AreOnes xs → AreOnes ys → AreOnes (xs ++ ys)
ones_more [] ys h k = k
ones_more (x ∷ xs) ys h k = (h.0, h.1, ones_more xs ys h.2 k)

asked_key : (id : WriterId) (start : ℕ) (a : AttrSet) → asks fleet_ask (key_at id start (stream, a)) ≡ true
asked_key id start a = refl

keys_asked : (id : WriterId) (start : ℕ) (xs : List AttrSet) → AreAsked (map (key_at id start) (map (λ a. (stream, a)) xs))
keys_asked id start [] = tt
keys_asked id start (a ∷ xs) = (asked_key id start a, keys_asked id start xs)

values_ones : (id : WriterId) (start : ℕ) (a : AttrSet) (m : ℕ) → AreOnes (map (λ (p : Name × ℤ). (key_at id start p.0, p.1)) (replicate m ((stream, a), pos 1)))
values_ones id start a zero = tt
values_ones id start a (suc m) = (asked_key id start a, refl, values_ones id start a m)

module _ (f : Attributes → rows.Row Parts) where
  abbrev table : List Key → List (Attributes × rows.Row Parts)
  table ks = entries (tabulate attributes_cmp (map (group fleet_ask) (filter (asks fleet_ask) ks)) (λ g. Some (f g)))

  -- one more key
  more : (k : Key) (ks : List Key) → asks fleet_ask k ≡ true → table (k ∷ ks) ≡ put attributes_cmp [] (f []) (table ks)
  more k ks asked =
      ap (λ b. entries (tabulate attributes_cmp (map (group fleet_ask) (cond b (k ∷ filter (asks fleet_ask) ks) (filter (asks fleet_ask) ks))) (λ g. Some (f g)))) asked
      ∙ entries-insert sets_total _ (group fleet_ask k) (f (group fleet_ask k))
      ∙ ap (λ g. put attributes_cmp g (f g) (table ks)) (nothing_kept k.attrs)

  no_rows : table [] ≡ []
  no_rows = no_length (entries (finmap.empty {X = rows.Row Parts} {R = attributes_cmp})) (sym (len-entries (finmap.empty {X = rows.Row Parts} {R = attributes_cmp})) ∙ len-empty attributes_cmp (rows.Row Parts))

  one_row : (k : Key) (ks : List Key) → AreAsked (k ∷ ks) → table (k ∷ ks) ≡ ([], f []) ∷ []
  one_row k [] h = more k [] h.0 ∙ ap (put attributes_cmp [] (f [])) no_rows
  one_row k (l ∷ ks) h = more k (l ∷ ks) h.0 ∙ ap (put attributes_cmp [] (f [])) (one_row l ks h.1)

asked_in_row : (k : Key) → asks fleet_ask k ≡ true → in_row fleet_ask [] k ≡ true
asked_in_row k h = ap (λ b. b && eq_by_cmp attributes_cmp [] (group fleet_ask k)) h ∙ ap (eq_by_cmp attributes_cmp []) (nothing_kept k.attrs)

-- their sum is their number
sums : (vs : List (Key × ℤ)) (ks : List Key) → AreOnes vs → (row_at fleet_ask vs ks []).total.sum ≡ pos (length vs)
sums [] ks h = refl
sums (v ∷ vs) ks h =
    ap (λ b. (cond b (parts_of_value stream.shape v.1) no_parts).sum +ℤ (row_at fleet_ask vs ks []).total.sum) (asked_in_row v.0 h.0)
    ∙ ap (λ n. n +ℤ (row_at fleet_ask vs ks []).total.sum) h.1
    ∙ ap (λ n. pos 1 +ℤ n) (sums vs ks h.2) ∙ ap pos (let next : 1 + length vs ≡ suc (length vs) = omega arith in next)

-- the sum in the rows of values of 1 is how many there are, where there are keys
sum_of_rows : (vs : List (Key × ℤ)) (k : Key) (ks : List Key) → AreOnes vs → AreAsked (k ∷ ks) → sum_in (recorded_rows fleet_ask vs (k ∷ ks)) ≡ pos (length vs)
unfolding recorded_rows
sum_of_rows vs k ks ones asked =
    ap (λ es. sum_in (map (λ (e : Attributes × rows.Row Parts). row_of fleet_ask e.0 e.1 None) es)) (one_row (row_at fleet_ask vs (k ∷ ks)) k ks asked)
    ∙ sums vs (k ∷ ks) ones

no_sum : (vs : List (Key × ℤ)) → sum_in (recorded_rows fleet_ask vs []) ≡ pos 0
unfolding recorded_rows
no_sum vs = ap (λ es. sum_in (map (λ (e : Attributes × rows.Row Parts). row_of fleet_ask e.0 e.1 None) es)) (no_rows (row_at fleet_ask vs []))

-- ---- all writers

suc_times : (n m : ℕ) → suc n * m ≡ m + n * m
suc_times n m = omega (arith, suc-mul n m)

copies : {A : Type 0} (x : A) (n m : ℕ) → replicate n x ++ replicate m x ≡ replicate (n + m) x
copies x zero m = ap (λ k. replicate k x) (let same : m ≡ 0 + m = omega arith in same)
copies x (suc n) m = ap (λ l. x ∷ l) (copies x n m) ∙ ap (λ k. replicate k x) (let same : suc (n + m) ≡ suc n + m = omega arith in same)

length_mapped : {A B : Type 0} (f : A → B) (xs : List A) → length (map f xs) ≡ length xs
length_mapped f [] = refl
length_mapped f (x ∷ xs) = ap suc (length_mapped f xs)

length_copies : {A : Type 0} (x : A) (n : ℕ) → length (replicate n x) ≡ n
length_copies x zero = refl
length_copies x (suc n) = ap suc (length_copies x n)

length_both : {A : Type 0} (xs ys : List A) → length (xs ++ ys) ≡ length xs + length ys
length_both [] ys = omega arith
length_both (x ∷ xs) ys = ap suc (length_both xs ys) ∙ omega arith

-- these writers have the plan and so many recordings each
abbrev AreAlike : Writers → (ℕ → List Entry) → ℕ → List (ℕ × ℕ) → Type 0
AreAlike s h m [] = Unit {0}
AreAlike s h m (i ∷ is) = (s.plan i.0 ≡ fleet_plan) × (h i.0 ≡ replicate m one) × AreAlike s h m is

module _ (s : Writers) (h : ℕ → List Entry) (m : ℕ) where
  abbrev values : List (ℕ × ℕ) → List (Key × ℤ)
  values is = rows.values_fed (rounding s) (λ i. h i.0) is (entries_fed s)

  abbrev keys : List (ℕ × ℕ) → List Key
  keys is = rows.keys_fed (rounding s) (λ i. h i.0) is

  own_values : (w : ℕ) → s.plan w ≡ fleet_plan → h w ≡ replicate m one → entries_fed s w (h w) ≡ replicate m ((stream, set_fed m), pos 1)
  own_values w plan recordings = ap (λ es. values_from (s.plan w) es 0 (s.plan w).streams) recordings ∙ ap (λ (p : Planned). values_from p (replicate m one) 0 p.streams) plan ∙ values_are m

  own_names : (w : ℕ) → s.plan w ≡ fleet_plan → h w ≡ replicate m one → names_from (s.plan w) (h w) 0 (s.plan w).streams ≡ map (λ a. (stream, a)) (sets m)
  own_names w plan recordings = ap (λ es. names_from (s.plan w) es 0 (s.plan w).streams) recordings ∙ ap (λ (p : Planned). names_from p (replicate m one) 0 p.streams) plan ∙ names_are m

  ones : (is : List (ℕ × ℕ)) → AreAlike s h m is → AreOnes (values is)
  ones [] alike = tt
  ones (i ∷ is) alike = ones_more _ (values is) (rw (own_values i.0 alike.0 alike.1) (values_ones (s.who i.0) i.1 (set_fed m) m)) (ones is alike.2)

  asked : (is : List (ℕ × ℕ)) → AreAlike s h m is → AreAsked (keys is)
  asked [] alike = tt
  asked (i ∷ is) alike = asked_more _ (keys is) (rw (own_names i.0 alike.0 alike.1) (keys_asked (s.who i.0) i.1 (sets m))) (asked is alike.2)

  count : (is : List (ℕ × ℕ)) → AreAlike s h m is → length (values is) ≡ length is * m
  count [] alike = let none : 0 ≡ 0 * m = omega arith in none
  count (i ∷ is) alike =
      let own : length (map (λ (p : Name × ℤ). (key_at (s.who i.0) i.1 p.0, p.1)) (entries_fed s i.0 (h i.0))) ≡ m =
      length_mapped (λ (p : Name × ℤ). (key_at (s.who i.0) i.1 p.0, p.1)) (entries_fed s i.0 (h i.0)) ∙ ap length (own_values i.0 alike.0 alike.1) ∙ length_copies ((stream, set_fed m), pos 1) m in
      length_both (map (λ (p : Name × ℤ). (key_at (s.who i.0) i.1 p.0, p.1)) (entries_fed s i.0 (h i.0))) (values is)
      ∙ ap (λ n. n + length (values is)) own ∙ ap (λ n. m + n) (count is alike.2) ∙ sym (suc_times (length is) m)

alike_from : (s : Writers) (h : ℕ → List Entry) (m k : ℕ) (starts : List ℕ) → ((w : ℕ) → w < k + length starts → (s.plan w ≡ fleet_plan) × (h w ≡ replicate m one)) → AreAlike s h m (incarnations_from k starts)
alike_from s h m k [] f = tt
alike_from s h m k (x ∷ xs) f = let own = f k (omega arith) in (own.0, own.1, alike_from s h m (suc k) xs (λ w lt. f w (omega arith)))

count_from : (k : ℕ) (starts : List ℕ) → length (incarnations_from k starts) ≡ length starts
count_from k [] = refl
count_from k (x ∷ xs) = ap suc (count_from (suc k) xs)

no_keys : (s : Writers) (h : ℕ → List Entry) (is : List (ℕ × ℕ)) → AreAlike s h zero is → keys s h zero is ≡ []
no_keys s h [] alike = refl
no_keys s h (i ∷ is) alike =
    ap (λ xs. map (key_at (s.who i.0) i.1) xs ++ keys s h zero is) (own_names s h zero i.0 alike.0 alike.1 ∙ ap (map (λ a. (stream, a))) no_set) ∙ no_keys s h is alike.2

some_keys : (s : Writers) (h : ℕ → List Entry) (m : ℕ) (i : ℕ × ℕ) (is : List (ℕ × ℕ)) → AreAlike s h (suc m) (i ∷ is) → (k : Key) × (ks : List Key) × (keys s h (suc m) (i ∷ is) ≡ k ∷ ks)
some_keys s h m i is alike =
    let set = some_set m in
    (_, _, ap (λ xs. map (key_at (s.who i.0) i.1) xs ++ keys s h (suc m) is) (own_names s h (suc m) i.0 alike.0 alike.1 ∙ ap (map (λ a. (stream, a))) set.2))

total_of : (s : Writers) (h : ℕ → List Entry) (m : ℕ) (is : List (ℕ × ℕ)) → AreAlike s h m is → sum_in (recorded_rows fleet_ask (values s h m is) (keys s h m is)) ≡ pos (length is * m)
total_of s h m [] alike = no_sum [] ∙ ap pos (let none : 0 ≡ 0 * m = omega arith in none)
total_of s h zero (i ∷ is) alike =
    ap (λ ks. sum_in (recorded_rows fleet_ask (values s h zero (i ∷ is)) ks)) (no_keys s h (i ∷ is) alike) ∙ no_sum (values s h zero (i ∷ is)) ∙ ap pos (sym (mul-zero (length (i ∷ is))))
total_of s h (suc m) (i ∷ is) alike =
    let some = some_keys s h m i is alike in
    let asks_all : AreAsked (some.0 ∷ some.1) = subst AreAsked some.2 (asked s h (suc m) (i ∷ is) alike) in
    ap (λ ks. sum_in (recorded_rows fleet_ask (values s h (suc m) (i ∷ is)) ks)) some.2
    ∙ sum_of_rows (values s h (suc m) (i ∷ is)) some.0 some.1 (ones s h (suc m) (i ∷ is) alike) asks_all
    ∙ ap pos (count s h (suc m) (i ∷ is) alike)

-- ---- the setup

same_number : (w : ℕ) → (w == w) ≡ true
same_number w = search rules

own_jobs : (r each w : ℕ) → entries_of (replicate r (fleet_task each w)) w ≡ replicate (r * each) one
own_jobs zero each w = ap (λ n. replicate n one) (let none : 0 ≡ 0 * each = omega arith in none)
own_jobs (suc r) each w =
    ap (λ b. cond b (replicate each one) [] ++ entries_of (replicate r (fleet_task each w)) w) (same_number w)
    ∙ ap (λ l. replicate each one ++ l) (own_jobs r each w) ∙ copies one each (r * each) ∙ ap (λ n. replicate n one) (sym (suc_times r each))

other_jobs : (r each v w : ℕ) → (v == w) ≡ false → entries_of (replicate r (fleet_task each v)) w ≡ []
other_jobs zero each v w differ = refl
other_jobs (suc r) each v w differ =
    ap (λ b. cond b (replicate each one) [] ++ entries_of (replicate r (fleet_task each v)) w) differ ∙ other_jobs r each v w differ

not_same : (v w : ℕ) → (v ≡ w → ⊥) → (v == w) ≡ false
not_same v w differ = ne_eqb v w differ

no_jobs : (n r each w : ℕ) → n ≤ w → entries_of (fleet_tasks n r each) w ≡ []
no_jobs zero r each w le = refl
no_jobs (suc n) r each w le =
    flat_map-append (λ (j : Task). cond (j.writer == w) j.entries []) (fleet_tasks n r each) (replicate r (fleet_task each n))
    ∙ ap (λ l. l ++ entries_of (replicate r (fleet_task each n)) w) (no_jobs n r each w (omega arith))
    ∙ other_jobs r each n w (not_same n w (λ e. omega arith))

jobs_of : (n r each w : ℕ) → w < n → entries_of (fleet_tasks n r each) w ≡ replicate (r * each) one
jobs_of zero r each w lt = absurd (omega arith)
jobs_of (suc n) r each w lt =
    flat_map-append (λ (j : Task). cond (j.writer == w) j.entries []) (fleet_tasks n r each) (replicate r (fleet_task each n))
    ∙ elim (cases_lt w n) [
      | inl below ↦
          ap (λ l. l ++ entries_of (replicate r (fleet_task each n)) w) (jobs_of n r each w below)
          ∙ ap (λ l. replicate (r * each) one ++ l) (other_jobs r each n w (not_same n w (λ e. omega arith))) ∙ nil_right _
      | inr above ↦
          let same : n ≡ w = omega arith in
          ap (λ l. l ++ entries_of (replicate r (fleet_task each n)) w) (no_jobs n r each w (omega arith))
          ∙ ap (λ v. entries_of (replicate r (fleet_task each v)) w) same ∙ own_jobs r each w
    ]

-- the plan and the start of each writer
abbrev plans : List (WriterId × Planned × ℕ) → List (Planned × ℕ)
plans ws = map (λ w. (w.1, w.2)) ws

plans_both : (vs ws : List (WriterId × Planned × ℕ)) → plans (vs ++ ws) ≡ plans vs ++ plans ws
plans_both [] ws = refl
plans_both (v ∷ vs) ws = ap (λ l. (v.1, v.2) ∷ l) (plans_both vs ws)

plans_alike : (n : ℕ) → plans (fleet_writers n) ≡ replicate n (fleet_plan, 1)
plans_alike zero = refl
plans_alike (suc n) =
    plans_both (fleet_writers n) (fleet_writer n ∷ []) ∙ ap (λ l. l ++ (fleet_plan, 1) ∷ []) (plans_alike n)
    ∙ copies (fleet_plan, 1) n 1 ∙ ap (λ k. replicate k (fleet_plan, 1)) (let next : n + 1 ≡ suc n = omega arith in next)

plan_at : (ws : List (WriterId × Planned × ℕ)) (n w : ℕ) → plans ws ≡ replicate n (fleet_plan, 1) → w < n → (slice_index_or ws w no_writer).1 ≡ fleet_plan
plan_at [] zero w e lt = absurd (omega arith)
plan_at [] (suc n) w e lt = cc
plan_at (x ∷ ws) zero w e lt = absurd (omega arith)
plan_at (x ∷ ws) (suc n) zero e lt = ap (λ (l : List (Planned × ℕ)). (slice_index_or l 0 (x.1, x.2)).0) e
plan_at (x ∷ ws) (suc n) (suc w) e lt = plan_at ws n w (ap (drop 1) e) (omega arith)

-- each gateway's sum is the number of all recordings
pub total_is : (writers recorders each gateways : ℕ) (s : FleetSetup) → IsFleetSetup writers recorders each gateways s → sum_in (rows_of (writers_of s) (entries_recorded s) fleet_ask) ≡ pos (writers * recorders * each)
unfolding rows_of
total_is writers recorders each gateways s setup =
    let alike_plans : plans s.writers.items ≡ replicate writers (fleet_plan, 1) = ap plans setup.writers ∙ plans_alike writers in
    let starts = (writers_of s).starts in
    let long : length starts ≡ writers =
    length_mapped (λ (w : WriterId × Planned × ℕ). w.2) s.writers.items ∙ sym (length_mapped (λ (w : WriterId × Planned × ℕ). (w.1, w.2)) s.writers.items) ∙ ap length alike_plans ∙ length_copies (fleet_plan, 1) writers in
    let alike = alike_from (writers_of s) (entries_recorded s) (recorders * each) 0 starts (λ w lt.
    (plan_at s.writers.items writers w alike_plans (omega arith), ap (λ ts. entries_of ts w) setup.jobs ∙ jobs_of writers recorders each w (omega arith))) in
    total_of (writers_of s) (entries_recorded s) (recorders * each) (incarnations_from 0 starts) alike
    ∙ ap (λ n. pos (n * (recorders * each))) (count_from 0 starts ∙ long) ∙ ap pos (sym (mul_assoc writers recorders each))

-- lines of gateways that all have one total
pub lines_are : (sum : GatewayState → ℤ) (total : ℕ) (gs : List GatewayState) → ((k : ℕ) (g : GatewayState) → slice_get gs k ≡ Some g → sum g ≡ pos total)
    → flat_map (λ g. total_line g.id (sum g)) gs ≡ flat_map (λ id. total_line id (pos total)) (map (λ g. g.id) gs)
lines_are sum total [] each = refl
lines_are sum total (g ∷ gs) each =
    ap (λ n. total_line g.id n ++ flat_map (λ g. total_line g.id (sum g)) gs) (each 0 g refl)
    ∙ ap (λ l. total_line g.id (pos total) ++ l) (lines_are sum total gs (λ k x at. each (suc k) x at))
