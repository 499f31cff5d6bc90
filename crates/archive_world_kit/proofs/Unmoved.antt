-- Where each counts up to its last collection, the values of each row of a page come to what those of all workers come to.
use Rattle.std.proofs.Common.{◌≡◌, ℕ, ℤ, pos, ◌+◌, ◌+ℤ◌, Bool, true, false, not, ◌&&◌, cond, List, [], ◌∷◌, ◌++◌, map, filter, fold, length, Option, Some, None, refl, sym, ap, subst, ◌∙◌, true≢false}
use Rattle.std.specs.Prelude.{codes, count_by, int_le, nat_eq}
use Rattle.std.proofs.lemmas.Bool.{eq-eqb}
use Rattle.std.proofs.lemmas.List.{map-append}
use Rattle.std.proofs.lemmas.List.Sums.{sum_by-cons}
use Rattle.std.specs.Cmp.{eq_by_cmp_equiv, int_cmp_total}
use Rattle.std.specs.Cmp.Lexicographic.{pointwise}
use Rattle.std.specs.List.{flat_map, sum_by}
use Rattle.std.specs.Ordering.{eq_by_cmp, int_cmp, int_eq, nat_cmp}
use Rattle.agg_kit.specs.Payloads as payloads
use Rattle.archive_kit.proofs.Counting.{fed_total, values_total}
use Rattle.archive_kit.proofs.Headline.{none_changes}
use Rattle.archive_kit.proofs.Lists.{no_member}
use Rattle.archive_kit.proofs.Hiding.{never_adopted}
use Rattle.archive_kit.proofs.Written.{written_tombstones}
use Rattle.archive_kit.specs.Adopting.{AreArchives, AreTombstones, Counted, adoptees, counted, is_adopted, own, values_counted}
use Rattle.archive_world_kit.proofs.Page.{named}
use Rattle.archive_world_kit.proofs.Services.{adopted_service}
use Rattle.archive_world_kit.proofs.Exactness.{equivalence}
use Rattle.archive_world_kit.specs.Adopted.{Archives, counted_by, telling}
use Rattle.archive_world_kit.specs.Answers.{AreLast, Feeds, HasProperBounds, recordings_by, workers}
use Rattle.archive_world_kit.specs.Steps.{History, HasIdentities, HasSoundRounds, deeds, rounding}
use Rattle.attr_kit.specs.Exact.{IsExact, exact_signed, exact_unsigned}
use Rattle.gateway_kit.specs.Keys.{ItemKey, whole_key}
use Rattle.page_kit.proofs.Fed.{fold_total, whole_sum}
use Rattle.page_kit.specs.Families.{metric_cmp}
use Rattle.page_kit.specs.Labels.{label_name, labels, labels_cmp, row_labels, value_text}
use Rattle.page_kit.specs.Metrics.{kind_of, metric_of}
use Rattle.page_kit.specs.Page.{is_left_in}
use Rattle.page_kit.specs.Recorded.{AreNumbers, goes_to, is_asked}
use Rattle.page_kit.specs.Bounds.{within_room}
use Rattle.page_kit.specs.Totals.{KeyedCell}
use Rattle.point_kit.proofs.OrderLaws.{key_total, key_exact}
use Rattle.point_kit.specs.Orders.{key_cmp}
use Rattle.point_kit.specs.declared.key.Key.{Key}
use Rattle.point_kit.specs.declared.payload.Payload.{Payload}
use Rattle.point_kit.specs.declared.shape.Shape.{Shape}
use Rattle.point_kit.specs.declared.shape.Shape.TheVariants as shapes
use Rattle.point_kit.specs.declared.writer_id.WriterId.{WriterId}
use Rattle.schedule_kit.proofs.Mixed.{total-ones}
use Rattle.schedule_kit.proofs.Members.{map-In}
use Rattle.schedule_kit.proofs.Totals.{count_sum, total-append, total-flat_map, total-map, total_same}
use Rattle.schedule_kit.specs.Deeds.Holder.{AtGateway}
use Rattle.schedule_kit.specs.Members.{In}
use Rattle.schedule_kit.specs.Rounds.{IsSound, Rounding}
use Rattle.schedule_kit.specs.Rows.{IsAdded, values_fed}
use Rattle.schedule_kit.specs.Taken.{incarnations, recorded_up_to, taken_collections}
use Rattle.schedule_kit.specs.Totals.{IsSum, total, total_where}

abbrev one_group : Key → ℕ
one_group k = 0

and_true : (b : Bool) → (b && true) ≡ b
and_true true = refl
and_true false = refl

-- a test passes the keys of writers of one service alike
abbrev pub IsOfService : (Key → Bool) → Type 0
IsOfService test = (v w : WriterId) → v.service ≡ w.service → (s t : ℕ) (x : ItemKey) → test (whole_key (v, s) x) ≡ test (whole_key (w, t) x)

same_labels : (v w : WriterId) → v.service ≡ w.service → (s t : ℕ) (x : ItemKey) → row_labels (whole_key (v, s) x) ≡ row_labels (whole_key (w, t) x)
unfolding row_labels
same_labels v w one s t x =
    ap (λ (service : List ℕ). labels ((codes "service_name", service) ∷ (codes "otel_scope_name", x.0.scope) ∷ map (λ p. (label_name p.0, value_text p.1)) x.1)) one

same_asked : (service : Option (List ℕ)) → IsOfService (is_asked service)
same_asked None v w one s t x = refl
same_asked (Some service) v w one s t x = ap (λ (own : List ℕ). pointwise nat_eq own service) one

same_left : (but : Option (List ℕ)) → IsOfService (is_left_in but)
same_left None v w one s t x = refl
same_left (Some scope) v w one s t x = refl

pub same_row : (service but : Option (List ℕ)) (m : _) (row : _) → IsOfService (goes_to service but m row)
same_row service but m row v w one s t x n =
    same_asked service v w one s t x n
    && (same_left but v w one s t x n && (eq_by_cmp metric_cmp m (metric_of x.0) && eq_by_cmp labels_cmp row (same_labels v w one s t x n)))

module _ {V : Type 0} (zero : V) (plus : V → V → V) (laws : IsSum zero plus) (weigh : ℤ → V) where
  -- values that pass, each weighed
  passing : (test : Key → Bool) (vs : List (Key × ℤ)) → total zero plus weigh (map (λ v. v.1) (filter (λ v. test v.0) vs))
      ≡ total_where zero plus (λ (v : Key × V). test v.0) (λ v. v.1) (map (λ v. (v.0, weigh v.1)) vs)
  passing test [] = refl
  passing test (v ∷ vs) = at (test v.0) ∙ ap (plus (cond (test v.0) (weigh v.1) zero)) (passing test vs)
    where
      at : (b : Bool) → total zero plus weigh (map (λ w. w.1) (cond b (v ∷ filter (λ w. test w.0) vs) (filter (λ w. test w.0) vs)))
          ≡ plus (cond b (weigh v.1) zero) (total zero plus weigh (map (λ w. w.1) (filter (λ w. test w.0) vs)))
      at true = refl
      at false = sym (laws.zero_left (total zero plus weigh (map (λ w. w.1) (filter (λ w. test w.0) vs))))

  abbrev weighed_all : {X : Type 0} → List (X × ℤ) → List (X × V)
  weighed_all vs = map (λ v. (v.0, weigh v.1)) vs

  abbrev to_keys : {U : Type 0} → (ItemKey → Key) → List (ItemKey × U) → List (Key × U)
  to_keys key vs = map (λ v. (key v.0, v.1)) vs

  moved : (key : ItemKey → Key) (vs : List (ItemKey × ℤ)) → to_keys key (weighed_all vs) ≡ weighed_all (to_keys key vs)
  moved key [] = refl
  moved key (v ∷ vs) = ap (λ (l : List (Key × V)). (key v.0, weigh v.1) ∷ l) (moved key vs)

  -- each under its key
  keyed : {C : Type 0} (key : C → ItemKey → Key) (values : C → List (ItemKey × ℤ)) (cs : List C)
      → flat_map (λ (c : C). to_keys (key c) (weighed_all (values c))) cs ≡ weighed_all (flat_map (λ (c : C). to_keys (key c) (values c)) cs)
  keyed key values [] = refl
  keyed {C} key values (c ∷ cs) =
      let each : C → List (Key × ℤ) = λ c. to_keys (key c) (values c) in
      ap (λ (l : List (Key × V)). l ++ flat_map (λ (c : C). to_keys (key c) (weighed_all (values c))) cs) (moved (key c) (values c))
      ∙ ap (λ (l : List (Key × V)). weighed_all (each c) ++ l) (keyed key values cs)
      ∙ sym (map-append (λ (v : Key × ℤ). (v.0, weigh v.1)) (each c) (flat_map each cs))

  weighed_flat : {A : Type 0} (f : A → List (ItemKey × ℤ)) (cs : List A) → weighed_all (flat_map f cs) ≡ flat_map (λ (c : A). weighed_all (f c)) cs
  weighed_flat f [] = refl
  weighed_flat f (c ∷ cs) =
      map-append (λ (v : ItemKey × ℤ). (v.0, weigh v.1)) (f c) (flat_map f cs) ∙ ap (λ (l : List (ItemKey × V)). weighed_all (f c) ++ l) (weighed_flat f cs)

module _ {N : Type 0} (h : History N) (sound : HasSoundRounds h) (told : HasIdentities h) (a : Archives h) (g : ℕ)
    (fed : ℕ → List N → List (ItemKey × ℤ)) (feed : Feeds a fed) (proper : HasProperBounds a) (last : ℕ × ℕ → List N) (are : AreLast a g last)
    (test : Key → Bool) (of_service : IsOfService test) where
  abbrev r : Rounding N Key WriterId ItemKey Payload
  r = rounding h.writing

  -- the values under the keys that pass
  abbrev row_of : List (Key × ℤ) → List ℤ
  row_of values = map (λ v. v.1) (filter (λ v. test v.0) values)

  abbrev is : List (ℕ × ℕ)
  is = incarnations h.starts (deeds h.steps)

  abbrev E : ℕ × ℕ → List N
  E i = recorded_up_to h.starts (deeds h.steps) (AtGateway g) i

  tombs : AreTombstones r (telling a)
  tombs = written_tombstones r (record { key = λ i start x. refl; same = λ x y. refl; instances = a.are.instances }) a.is_archive a.adoptions a.held a.are.driven

  module _ {V : Type 0} (zero : V) (plus : V → V → V) (laws : IsSum zero plus) (eq : V → V → Bool) (itself : (v : V) → eq v v ≡ true) (exact : IsExact eq) (weigh : ℤ → V) where
    abbrev weighed : ℕ → List N → List (ItemKey × V)
    weighed w es = map (λ v. (v.0, weigh v.1)) (fed w es)

    -- writers whose payloads are what was fed, weighed
    abbrev q : Rounding N Key WriterId ItemKey V
    q = record {
      order = key_cmp;
      same = eq;
      same_name = r.same_name;
      key = r.key;
      who = r.who;
      names = r.names;
      payload = λ w es x. total_where zero plus (λ p. r.same_name x p.0) (λ p. p.1) (weighed w es);
    }

    q_sound : IsSound q
    q_sound = record {
      total = key_total;
      antisymmetric = key_exact;
      equivalence = equivalence eq itself exact;
      exact = exact;
      names_equivalence = sound.names_equivalence;
      names_exact = sound.names_exact;
      key_tells = sound.key_tells;
      none = sound.none;
      once = sound.once;
      grows = sound.grows;
    }

    q_tombs : AreTombstones q (telling a)
    q_tombs = record { tells = tombs.tells; are = tombs.are; only = tombs.only; each = tombs.each; of_adopted = tombs.of_adopted; never = tombs.never }

    added : IsAdded q zero plus (λ v. v) weighed test
    added = record {
      sum = laws;
      named = λ w es p i.
          let v = map-In (λ (v : ItemKey × ℤ). (v.0, weigh v.1)) p (fed w es) i in
          subst (λ (x : ItemKey). In x (r.names w es)) (sym (ap (λ (v : ItemKey × V). v.0) v.2)) (named h sound told a g fed feed proper w es v.0 v.1);
      added = λ w es i start x asked there. refl;
    }

    archives : AreArchives q (telling a) weighed test one_group
    archives = record {
      feeds = λ b es e. ap (map (λ (v : ItemKey × ℤ). (v.0, weigh v.1))) (feed.feeds b es e) ∙ weighed_flat zero plus laws weigh (λ (c : Counted N). fed c.0.0 c.1) (a.adoptions b es);
      asked = λ b start es c x e i. of_service (h.writing.who b) (h.writing.who c.0.0) (adopted_service h a b es c e i) start c.0.1 x;
      grouped = λ b start es c x e i. refl;
    }

    abbrev adopted : WriterId → ℕ → Bool
    adopted = is_adopted q (telling a) (taken_collections h.starts (deeds h.steps) (AtGateway g))

    never : (w start : ℕ) → a.is_archive (h.writing.who w) ≡ true → adopted (h.writing.who w) start ≡ false
    never = never_adopted q q_sound (telling a) q_tombs (taken_collections h.starts (deeds h.steps) (AtGateway g))

    abbrev rest : ℕ × ℕ → List N
    rest i = cond (adopted (h.writing.who i.0) i.1) [] (E i)

    -- what one incarnation adds to the row
    abbrev T : Counted N → V
    T c = total_where zero plus (λ p. test (whole_key (h.writing.who c.0.0, c.0.1) p.0) && true) (λ p. p.1) (weighed c.0.0 c.1)

    T_none : (i : ℕ × ℕ) → T (i, []) ≡ zero
    T_none i =
        let none : weighed i.0 [] ≡ [] = no_member (weighed i.0 []) (λ p k. subst (λ (l : List ItemKey). In p.0 l) (sound.none i.0) (added.named i.0 [] p k)) in
        ap (λ (l : List (ItemKey × V)). total_where zero plus (λ p. test (whole_key (h.writing.who i.0, i.1) p.0) && true) (λ p. p.1) l) none

    T_archive : (i : ℕ × ℕ) (es : List N) → a.is_archive (h.writing.who i.0) ≡ true → T (i, es) ≡ total zero plus T (a.adoptions i.0 es)
    T_archive i es e =
        ap (λ (l : List (ItemKey × V)). total_where zero plus (λ p. test (whole_key (h.writing.who i.0, i.1) p.0) && true) (λ p. p.1) l) (archives.feeds i.0 es e)
        ∙ total-flat_map zero plus laws (λ p. cond (test (whole_key (h.writing.who i.0, i.1) p.0) && true) p.1 zero) (λ c. weighed c.0.0 c.1) (a.adoptions i.0 es)
        ∙ total_same zero plus laws _ T (a.adoptions i.0 es) (λ c j.
        total_same zero plus laws _ (λ p. cond (test (whole_key (h.writing.who c.0.0, c.0.1) p.0) && true) p.1 zero) (weighed c.0.0 c.1) (λ p k.
        ap (λ b. cond (b && true) p.1 zero) (archives.asked i.0 i.1 es c p.0 e j)))

    abbrev owns : ℕ × ℕ → Bool
    owns i = not (a.is_archive (h.writing.who i.0)) && not (adopted (h.writing.who i.0) i.1)

    abbrev of_archive : ℕ × ℕ → Bool
    of_archive i = a.is_archive (h.writing.who i.0)

    abbrev Own : List (ℕ × ℕ) → V
    Own js = total zero plus (λ i. T (i, E i)) js

    abbrev Theirs : List (ℕ × ℕ) → V
    Theirs js = total zero plus (λ i. total zero plus T (a.adoptions i.0 (E i))) js

    swap : (u v w : V) → plus u (plus v w) ≡ plus v (plus u w)
    swap u v w = sym (laws.assoc u v w) ∙ ap (λ x. plus x w) (laws.comm u v) ∙ laws.assoc v u w

    abbrev Step : ℕ × ℕ → List (ℕ × ℕ) → Bool → Bool → Type 0
    Step i js b d = plus (T (i, cond d [] (E i))) (total zero plus (λ i. T (i, rest i)) js)
        ≡ plus (Own (cond (not b && not d) (i ∷ filter owns js) (filter owns js))) (Theirs (cond b (i ∷ filter of_archive js) (filter of_archive js)))

    cases : (i : ℕ × ℕ) (js : List (ℕ × ℕ)) → total zero plus (λ i. T (i, rest i)) js ≡ plus (Own (filter owns js)) (Theirs (filter of_archive js))
        → (b d : Bool) → of_archive i ≡ b → adopted (h.writing.who i.0) i.1 ≡ d → Step i js b d
    cases i js so_far true true e f = absurd (true≢false (sym f ∙ never i.0 i.1 e))
    cases i js so_far true false e f = ap (plus (T (i, E i))) so_far ∙ swap (T (i, E i)) (Own (filter owns js)) (Theirs (filter of_archive js))
        ∙ ap (λ x. plus (Own (filter owns js)) (plus x (Theirs (filter of_archive js)))) (T_archive i (E i) e)
    cases i js so_far false true e f = ap (λ x. plus x (total zero plus (λ i. T (i, rest i)) js)) (T_none i) ∙ laws.zero_left _ ∙ so_far
    cases i js so_far false false e f = ap (plus (T (i, E i))) so_far ∙ sym (laws.assoc (T (i, E i)) (Own (filter owns js)) (Theirs (filter of_archive js)))

    step : (i : ℕ × ℕ) (js : List (ℕ × ℕ)) → total zero plus (λ i. T (i, rest i)) js ≡ plus (Own (filter owns js)) (Theirs (filter of_archive js))
        → (b d : Bool) → of_archive i ≡ b → adopted (h.writing.who i.0) i.1 ≡ d → Step i js (of_archive i) (adopted (h.writing.who i.0) i.1)
    step i js so_far b d e f = subst (λ (x : Bool). Step i js x (adopted (h.writing.who i.0) i.1)) (sym e) (subst (λ (x : Bool). Step i js b x) (sym f) (cases i js so_far b d e f))

    parted : (js : List (ℕ × ℕ)) → total zero plus (λ i. T (i, rest i)) js ≡ plus (Own (filter owns js)) (Theirs (filter of_archive js))
    parted [] = sym (laws.zero_left zero)
    parted (i ∷ js) = step i js (parted js) (of_archive i) (adopted (h.writing.who i.0) i.1) refl refl

    abbrev row_total : List (Key × V) → V
    row_total values = total_where zero plus (λ v. test v.0 && true) (λ v. v.1) values

    same_total : row_total (values_fed q rest is weighed) ≡ row_total (values_fed q last (workers a) weighed)
    same_total =
        fed_total q q_sound zero plus (λ v. v) weighed nat_cmp test one_group added (telling a) archives adopted never 0 rest is ∙ parted is
        ∙ ap (λ x. plus x (Theirs (filter of_archive is))) (sym (total-map zero plus laws T (λ i. (i, E i)) (filter owns is)))
        ∙ ap (plus (total zero plus T (own q (telling a) adopted E is))) (sym (total-flat_map zero plus laws T (λ i. a.adoptions i.0 (E i)) (filter of_archive is)))
        ∙ sym (total-append zero plus laws T (own q (telling a) adopted E is) (adoptees q (telling a) E is))
        ∙ sym (values_total q q_sound zero plus (λ v. v) weighed nat_cmp test one_group added (telling a) archives adopted never 0 (counted q (telling a) adopted E is))
        ∙ none_changes q q_sound h.fits h.starts h.gateways told (deeds h.steps) h.is.lawful (AtGateway g) zero plus (λ v. v) weighed nat_cmp test one_group
        added (telling a) q_tombs archives last are.once are.there are.others are.adopted 0

    row_weighed : (F : ℕ × ℕ → List N) (js : List (ℕ × ℕ)) → total zero plus weigh (row_of (values_fed r F js fed)) ≡ row_total (values_fed q F js weighed)
    row_weighed F js =
        passing zero plus laws weigh test (values_fed r F js fed)
        ∙ ap (λ l. total_where zero plus (λ (v : Key × V). test v.0) (λ v. v.1) l) (sym (keyed zero plus laws weigh (λ (i : ℕ × ℕ) x. r.key (r.who i.0) i.1 x) (λ i. fed i.0 (F i)) js))
        ∙ (λ n. total_where zero plus (λ (v : Key × V). sym (and_true (test v.0)) n) (λ v. v.1) (values_fed q F js weighed))

    carried : total zero plus weigh (row_of (recordings_by a fed g)) ≡ total zero plus weigh (row_of (values_fed r last (workers a) fed))
    carried = row_weighed rest is ∙ same_total ∙ sym (row_weighed last (workers a))

  abbrev before : List ℤ
  before = row_of (recordings_by a fed g)

  abbrev after : List ℤ
  after = row_of (values_fed r last (workers a) fed)

  whole_itself : (v : ℤ) → int_eq v v ≡ true
  whole_itself v = (eq_by_cmp_equiv int_cmp_total).refl v

  sums : payloads.total before ≡ payloads.total after
  sums = fold_total (λ v. v) before ∙ carried (pos 0) ◌+ℤ◌ whole_sum int_eq whole_itself exact_signed (λ v. v) ∙ sym (fold_total (λ v. v) after)

  counts : (weigh : ℤ → ℕ) → total 0 ◌+◌ weigh before ≡ total 0 ◌+◌ weigh after
  counts weigh = carried 0 ◌+◌ count_sum nat_eq (λ n. eq-eqb n n refl) exact_unsigned weigh

  by_test : (p : ℤ → Bool) (vs : List ℤ) → count_by p vs ≡ total 0 ◌+◌ (λ v. cond (p v) 1 0) vs
  by_test p [] = refl
  by_test p (v ∷ vs) = sum_by-cons (λ v. cond (p v) 1 0) v vs ∙ ap (λ n. cond (p v) 1 0 + n) (by_test p vs)

  counted_to : (bound : ℤ) → count_by (λ v. int_le v bound) before ≡ count_by (λ v. int_le v bound) after
  counted_to bound = by_test (λ v. int_le v bound) before ∙ counts (λ v. cond (int_le v bound) 1 0) ∙ sym (by_test (λ v. int_le v bound) after)

  lengths : length before ≡ length after
  lengths = sym (total-ones before) ∙ counts (λ _. 1) ∙ total-ones after

  pub numbers_carried : (shape : Shape) (bounds : List ℤ) (cells : List KeyedCell) → AreNumbers (kind_of shape) bounds cells before → AreNumbers (kind_of shape) bounds cells after
  numbers_carried (shapes.Sum true) bounds cells are = are ∙ sums
  numbers_carried (shapes.Sum false) bounds cells are = are ∙ sums
  numbers_carried shapes.Gauge bounds cells are = tt
  numbers_carried (shapes.Histogram limits) bounds cells are = (are.0 ∙ sums, are.1 ∙ lengths, λ bound there. are.2 bound there ∙ ap within_room (counted_to bound))
