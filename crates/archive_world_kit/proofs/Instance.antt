-- A history with an adoption: what its writers write, what happened, and what nodes hold.
use Rattle.std.proofs.Common.{◌≡◌, ◌≢◌, ℕ, ℤ, pos, zero, suc, ◌+ℤ◌, ◌<◌, ◌≤◌, Bool, true, false, ◌&&◌, ◌||◌, ◌==◌, cond, if◌then◌else◌, inl, inr, List, [], ◌∷◌, ◌++◌, map, filter, length, Some, None, refl, sym, ap, subst, ◌∙◌, arith, true≢false}
use Rattle.std.specs.Prelude.{All, nat_lt, IsTrue}
use Rattle.std.specs.Int.{to_be_bytes, w128}
use Rattle.std.proofs.lemmas.Bool.{and_parts, eqb-true, ltb-true, ne_eqb, or_parts}
use Rattle.std.proofs.lemmas.Bool.Decides.{nat_tests}
use Rattle.std.proofs.lemmas.Int.{ints}
use Rattle.std.proofs.lemmas.List.Elements.{All-cons, All-nil}
use Rattle.std.specs.Cmp.{Equal-is, IsEquivalence, eq_by_cmp_equiv}
use Rattle.std.specs.FinMap.{get, empty}
use Rattle.std.specs.List.{flat_map, list_all}
use Rattle.std.specs.Ordering.{eq_by_cmp}
use Rattle.agg_kit.specs.Payloads.{payload_of}
use Rattle.archive_kit.proofs.Driving.{early_none}
use Rattle.archive_kit.proofs.Lists.{not_true}
use Rattle.archive_kit.proofs.Showing.{shown_twice}
use Rattle.archive_kit.proofs.Tombstones.{names_no_tombstone}
use Rattle.archive_kit.proofs.Hiding.{never_adopted}
use Rattle.archive_kit.proofs.Written.{written_tombstones}
use Rattle.archive_kit.specs.Adopting.{AreTombstones, Counted, EachOnce, is_adopted}
use Rattle.archive_kit.specs.Keeping.{kept_points}
use Rattle.archive_kit.specs.Archive.{adopted, early_faults, exported_points, fresh, is_of_archive, tombstone_of}
use Rattle.archive_kit.specs.declared.adopt_fault.AdoptFault.TheVariants as faults
use Rattle.archive_kit.specs.Driving.Call.{Adopt}
use Rattle.archive_kit.specs.Showing.{hides, shown}
use Rattle.archive_kit.specs.Stepping.{Joins, JoinsAndDrops, JoinsOrSkips}
use Rattle.archive_kit.specs.Tombstones.{IsInstance, names_key, set_eq, stream_eq, tombstones}
use Rattle.archive_kit.specs.Totals.{is_gauge}
use Rattle.archive_kit.specs.Written.{IsDriven, AreDriven, is_tombstone_name, name_of, our_archiving, tombstone_name}
use Rattle.archive_world_kit.proofs.Exactness.{equivalence}
use Rattle.archive_world_kit.proofs.Single.{cell, entries_only, get_only, joined_in, joined_only, nothing_hidden, only, only_hides, only_shown}
use Rattle.archive_world_kit.proofs.Alike.{alike}
use Rattle.archive_world_kit.proofs.Rows.{rows_unchanged}
use Rattle.archive_world_kit.proofs.Services.{are_asked}
use Rattle.archive_world_kit.specs.Adopted.{Archives, HoldsJust, adopted_by, keys_by, telling}
use Rattle.archive_world_kit.specs.Answers.{AreLast, Feeds, HasProperBounds, workers}
use Rattle.archive_world_kit.specs.Steps.{IsExported, Step, Writing, Seen, History, HaveHappened, deeds, rounding}
use Rattle.archive_world_kit.specs.Steps.Step.{Did, Forgot}
use Rattle.archive_world_kit.specs.Instance.{IsArchived, IsWorked, MeetAll, begun, counted_point, counter, identity}
use Rattle.agg_kit.proofs.Distinct as sets
use Rattle.attr_kit.proofs.Firsts.{none_of, when_none}
use Rattle.attr_kit.specs.Exact.{IsExact, exact_pairs}
use Rattle.gateway_kit.specs.KeyOrders.{incarnation_total}
use Rattle.gateway_kit.specs.Keys.{ItemKey, whole_key}
use Rattle.gateway_kit.specs.Queries.{incarnation_points, is_of_incarnation}
use Rattle.gossip_kit.specs.Views.{MessageModel, NodeModel}
use Rattle.point_kit.proofs.EqualityLaws.{payload_equivalence, payload_exact}
use Rattle.point_kit.proofs.OrderLaws.{key_total, key_exact}
use Rattle.point_kit.specs.Exact.{exact_streams}
use Rattle.point_kit.specs.Exports.{Points, join_points, points_of, state}
use Rattle.point_kit.specs.Orders.{key_cmp}
use Rattle.point_kit.specs.contracts.stream.StreamEq.TheImpl.Laws as stream_laws
use Rattle.point_kit.specs.contracts.writer_id.WriterIdEq.TheImpl.Laws as id_laws
use Rattle.point_kit.specs.contracts.writer_id.WriterIdPartialEq.TheImpl as writers
use Rattle.point_kit.specs.declared.cell.Cell.{Cell}
use Rattle.point_kit.specs.declared.cell.Held.TheVariants.{One}
use Rattle.point_kit.specs.declared.export.Export.{Export}
use Rattle.point_kit.specs.declared.export_point.ExportPoint.{ExportPoint}
use Rattle.point_kit.specs.declared.key.Key.{Key}
use Rattle.point_kit.specs.declared.payload.Payload.{Payload}
use Rattle.point_kit.specs.declared.payload.Payload.TheVariants as payloads
use Rattle.point_kit.specs.declared.shape.Shape.{Shape}
use Rattle.point_kit.specs.declared.shape.Shape.TheVariants as shapes
use Rattle.point_kit.specs.declared.stream.Stream.{Stream}
use Rattle.point_kit.specs.declared.writer_id.WriterId.{WriterId}
use Rattle.plan_kit.specs.Plans.{is_proper}
use Rattle.rollup_kit.specs.Asks.{asks}
use Rattle.rollup_kit.specs.Recordings.{values_under}
use Rattle.rollup_kit.specs.Rollups.{AddsUp, recorded_rows, rollup_rows}
use Rattle.rollup_kit.specs.declared.ask.Ask.{Ask}
use Rattle.schedule_kit.proofs.Members.{map-In}
use Rattle.schedule_kit.specs.Deeds.{AreLawful, IsTold}
use Rattle.schedule_kit.specs.Deeds.Deed.{Wrote, Delivered}
use Rattle.schedule_kit.specs.Deeds.Holder.{AtGateway}
use Rattle.schedule_kit.specs.Members.{In, Once}
use Rattle.schedule_kit.specs.Rounds.{IsSound}
use Rattle.schedule_kit.specs.Rows.{values_fed}
use Rattle.schedule_kit.specs.Schedule.Act.{Measured, Collected}
use Rattle.schedule_kit.specs.Taken.{recorded_up_to, taken_collections}

abbrev pub same : ItemKey → ItemKey → Bool
same a b = stream_eq a.0 b.0 && set_eq a.1 b.1

pub same_own : (y : ItemKey) → same y y ≡ true
same_own y = rw (stream_laws.laws-law.refl y.0, sets.itself y.1) refl

pub same_exact : IsExact same
same_exact = exact_pairs exact_streams sets.same

same_equivalence : IsEquivalence same
same_equivalence = equivalence same same_own same_exact

-- the counter's stream is no tombstones'
abbrev is_sum : Shape → Bool
is_sum (shapes.Sum monotonic) = true
is_sum shapes.Gauge = false
is_sum (shapes.Histogram bounds) = false

pub no_tombstone : stream_eq tombstones counter ≡ false
no_tombstone = not_true (stream_eq tombstones counter) (λ e. true≢false (sym (ap (λ (s : Stream). is_sum s.shape) (exact_streams tombstones counter e))))

pub a_tombstone : stream_eq tombstones tombstones ≡ true
a_tombstone = stream_laws.laws-law.refl tombstones

-- bytes, by their test
below : (bytes : List ℕ) → list_all (λ b. nat_lt b 256) bytes ≡ true → All (λ b. b < 256) bytes
below [] e = All-nil (λ b. b < 256)
below (b ∷ bytes) e = let both = and_parts (nat_lt b 256) _ e in All-cons (λ b. b < 256) b bytes (ltb-true b 256 both.0) (below bytes both.1)

pub instances_are : (instance : ℕ) → length (to_be_bytes w128 instance) ≡ 16 → list_all (λ b. nat_lt b 256) (to_be_bytes w128 instance) ≡ true → IsInstance (identity instance)
instances_are instance long e = record { sixteen = long; bytes = below (to_be_bytes w128 instance) e }

-- what entries bring, where there are some
abbrev pub filled : {A : Type 0} → List ℤ → List A → List A
filled [] xs = []
filled (e ∷ es) xs = xs

module _ (worker archive : WriterId) (total : ℕ) where
  abbrev pub value : ℤ
  value = pos total

  -- the name of the counter's point, and of the worker's tombstone
  abbrev pub x : ItemKey
  x = (counter, [])

  abbrev pub t : ItemKey
  t = tombstone_name worker 100

  abbrev pub kx : Key
  kx = whole_key (worker, 100) x

  abbrev pub p : Payload
  p = payloads.Sum value

  -- the second writer is the archive
  abbrev pub is_worker : Bool → WriterId
  is_worker b = if b then archive else worker

  abbrev pub who : ℕ → WriterId
  who w = is_worker (w == 1)

  abbrev pub worked : List ℤ → List (ItemKey × ℤ)
  worked h = map (λ v. (x, v)) h

  abbrev pub worked_payload : List ℤ → ItemKey → Payload
  worked_payload h y = payload_of y.0.shape (values_under same y (worked h))

  abbrev pub fed_by : Bool → List ℤ → List (ItemKey × ℤ)
  fed_by b h = if b then filled h ((x, value) ∷ []) else worked h

  abbrev pub fed : ℕ → List ℤ → List (ItemKey × ℤ)
  fed w h = fed_by (w == 1) h

  -- the worker feeds its counter, the archive writes what it adopted and a tombstone
  abbrev pub names_by : Bool → List ℤ → List ItemKey
  names_by b h = if b then filled h (x ∷ t ∷ []) else filled h (x ∷ [])

  abbrev pub marked : Bool → Payload
  marked b = if b then payloads.Gauge (pos 200) else p

  abbrev pub payload_by : Bool → List ℤ → ItemKey → Payload
  payload_by b h y = if b then marked (stream_eq tombstones y.0) else worked_payload h y

  abbrev pub writing : Writing ℤ
  writing = record { who = who; names = λ w h. names_by (w == 1) h; payload = λ w h y. payload_by (w == 1) h y }

  names_none : (b : Bool) → names_by b [] ≡ []
  names_none true = refl
  names_none false = refl

  apart_names : In x (t ∷ []) → ⊥
  apart_names i = elim i [
    | inl e ↦ true≢false (sym a_tombstone ∙ ap (stream_eq tombstones) (sym (ap (λ (y : ItemKey). y.0) e)) ∙ no_tombstone)
    | inr none ↦ none
  ]

  names_once : (b : Bool) (h : List ℤ) → Once (names_by b h)
  names_once true [] = tt
  names_once true (e ∷ es) = (apart_names, ((λ i. i), tt))
  names_once false [] = tt
  names_once false (e ∷ es) = ((λ i. i), tt)

  names_grow : (b : Bool) (h more : List ℤ) (y : ItemKey) → In y (names_by b h) → In y (names_by b (h ++ more))
  names_grow true [] more y i = absurd i
  names_grow true (e ∷ es) more y i = i
  names_grow false [] more y i = absurd i
  names_grow false (e ∷ es) more y i = i

  pub sound : IsSound (rounding writing)
  sound = record {
    total = key_total;
    antisymmetric = key_exact;
    equivalence = payload_equivalence;
    exact = payload_exact;
    names_equivalence = same_equivalence;
    names_exact = same_exact;
    key_tells = λ i j a b y z e. (ap (λ (k : Key). k.writer) e, ap (λ (k : Key). k.start) e, λ n. ((e n).stream, (e n).attrs));
    none = λ w. names_none (w == 1);
    once = λ w h. names_once (w == 1) h;
    grows = λ w h more y i. names_grow (w == 1) h more y i;
  }

  -- the payload of the one value
  worked_one : worked_payload (value ∷ []) x ≡ p
  worked_one =
      ap (λ b. payload_of counter.shape (map (λ (v : ItemKey × ℤ). v.1) (cond b ((x, value) ∷ []) []))) (same_own x)
      ∙ ap payloads.Sum none_more
    where
      none_more : pos 0 +ℤ pos total ≡ pos total
      none_more = omega (arith, ints)

  -- what stands in the exports
  module _ (first second : Export) (plain kept keeper : NodeModel) (one : IsWorked worker total first)
      (joined : Joins (state (first ∷ [])) empty (begun 1) plain)
      (took : JoinsOrSkips (state (first ∷ [])) empty (begun 2) kept) (shows : kept.gateway.points ≡ kept_points empty (state (first ∷ [])))
      (two : IsArchived worker archive kept.gateway.points second)
      (took_again : JoinsOrSkips (state (second ∷ [])) kept.acked kept keeper) where
    pub points_first : points_of first ≡ (kx, (200, p)) ∷ []
    points_first n = map (λ q. (record { writer = one.writer n; start = one.start n; stream = q.stream; attrs = q.attrs }, (one.time n, q.payload))) (one.points n)

    -- nothing that came is hidden, so none was left out
    pub taken : JoinsAndDrops (state (first ∷ [])) empty (begun 2) kept
    taken = joined_in kx (200, p) [] first points_first empty (begun 2) kept (nothing_hidden kx) took

    pub plain_holds : plain.gateway.points ≡ only kx p
    plain_holds = joined.points ∙ joined_only kx p first points_first

    pub kept_holds : kept.gateway.points ≡ only kx p
    kept_holds = shows ∙ ap (shown names_key) (joined_only kx p first points_first) ∙ only_shown kx p no_tombstone

    abbrev cells : List (Key × Cell Payload)
    cells = incarnation_points worker 100 kept.gateway.points

    cells_are : cells ≡ (kx, cell kx p) ∷ []
    cells_are =
        ap (incarnation_points worker 100) kept_holds
        ∙ ap (filter (λ (e : Key × Cell Payload). is_of_incarnation worker 100 e.0)) (entries_only kx p)
        ∙ ap (λ b. cond b ((kx, cell kx p) ∷ []) []) ((eq_by_cmp_equiv incarnation_total).refl (worker, 100))

    abbrev wrote : List (Key × Cell Payload) → List ExportPoint
    wrote held = exported_points (adopted (fresh archive 100 10) worker 100 held)

    wrote_are : wrote cells ≡ counted_point total ∷ tombstone_of worker 100 200 ∷ []
    wrote_are = ap wrote cells_are

    points_second : points_of second ≡ (whole_key (archive, 100) x, (300, p)) ∷ (whole_key (archive, 100) t, (300, payloads.Gauge (pos 200))) ∷ []
    points_second n = map (λ q. (record { writer = two.writer n; start = two.start n; stream = q.stream; attrs = q.attrs }, (two.time n, q.payload))) ((two.points ∙ wrote_are) n)

    pub again : JoinsAndDrops (state (second ∷ [])) kept.acked kept keeper
    again =
        joined_in (whole_key (archive, 100) x) (300, p) _ second points_second kept.acked kept keeper
        (ap (λ (m : Points). hides names_key m (whole_key (archive, 100) x)) kept_holds ∙ only_hides kx p no_tombstone (whole_key (archive, 100) x)) took_again

    -- the archive is not the worker
    abbrev is_archive : WriterId → Bool
    is_archive w = (writers.ghosts).eq archive w

    pub own : is_archive archive ≡ true
    own = id_laws.laws-law.refl archive

    pub not_own : is_archive worker ≡ false
    not_own =
        (or_parts _ _ (when_none (is_of_archive (fresh archive 100 10) worker cells) faults.IsArchive
        (none_of (early_faults (fresh archive 100 10) worker 100 cells) (early_none (fresh archive 100 10) ((worker, 100), cells) two.accepted)).1.0)).0

    differ : archive ≡ worker → ⊥
    differ e = true≢false (sym own ∙ ap is_archive e ∙ not_own)

    is_one : (w : ℕ) → is_archive (who w) ≡ true → w ≡ 1
    is_one w e = go (w == 1) refl
      where
        go : (b : Bool) → (w == 1) ≡ b → w ≡ 1
        go true i = eqb-true w 1 i
        go false i = absurd (true≢false (sym e ∙ ap (λ b. is_archive (is_worker b)) i ∙ not_own))

    is_none : (w : ℕ) → is_archive (who w) ≡ false → (w == 1) ≡ false
    is_none w e = not_true (w == 1) (λ i. true≢false (sym own ∙ sym (ap (λ b. is_archive (is_worker b)) i) ∙ e))

    -- the history
    abbrev pub starts : List ℕ
    starts = 100 ∷ 100 ∷ []

    abbrev plain_at : ℕ → NodeModel
    plain_at n = if nat_lt n 3 then begun 1 else plain

    abbrev keeper_at : ℕ → NodeModel
    keeper_at n =
        if nat_lt n 4 then begun 2
        else if nat_lt n 5 then taken.between
        else if nat_lt n 8 then kept
        else if nat_lt n 9 then again.between
        else keeper

    abbrev no_mail : MessageModel
    no_mail = record { from = 0; to = 0; points = empty; delta = None; ack = None }

    abbrev pub seen : Seen ℤ
    seen = record {
      node = λ ss g. if g == 0 then plain_at (length ss) else if g == 1 then keeper_at (length ss) else begun 0;
      export = λ k. if k == 1 then first else second;
      mail = λ k. no_mail;
    }

    abbrev pub collected : List (Step ℤ)
    collected = Did (Wrote 0 (Collected 200 false)) ∷ Did (Wrote 0 (Measured value)) ∷ []

    abbrev pub took_plain : List (Step ℤ)
    took_plain = Did (Delivered 1 0) ∷ collected

    abbrev pub took_first : List (Step ℤ)
    took_first = Forgot 1 taken.gone ∷ Did (Delivered 1 1) ∷ took_plain

    abbrev pub archived : List (Step ℤ)
    archived = Did (Wrote 1 (Collected 300 false)) ∷ Did (Wrote 1 (Measured value)) ∷ took_first

    abbrev pub steps : List (Step ℤ)
    steps = Forgot 1 again.gone ∷ Did (Delivered 2 1) ∷ archived

    abbrev pub fits : ℕ → List ℤ → ℤ → Bool
    fits w h e = true

    pub lawful : AreLawful fits starts 2 (deeds steps)
    lawful =
        let l01 : 0 < 1 = omega arith in
        let l02 : 0 < 2 = omega arith in
        let l12 : 1 < 2 = omega arith in
        let e11 : 1 ≤ 1 = omega arith in
        let e22 : 2 ≤ 2 = omega arith in
        let early : 100 < 200 = omega arith in
        let late : 100 < 300 = omega arith in
        ((l02, e22, l12), ((l12, (refl, late)), ((l12, (refl, refl)), ((l01, e11, l12), ((l01, e11, l02), ((l02, (refl, early)), ((l02, (refl, refl)), tt)))))))

    pub apart : (g k : ℕ) → g < 2 → k < 2 → (seen.node [] g).gateway.id ≡ (seen.node [] k).gateway.id → g ≡ k
    apart zero zero a b e = refl
    apart zero (suc zero) a b e = absurd (omega (arith, e))
    apart zero (suc (suc k)) a b e = absurd (omega (arith, b))
    apart (suc zero) zero a b e = absurd (omega (arith, e))
    apart (suc zero) (suc zero) a b e = refl
    apart (suc zero) (suc (suc k)) a b e = absurd (omega (arith, b))
    apart (suc (suc g)) k a b e = absurd (omega (arith, a))

    -- nodes other than one stay
    abbrev nodes : NodeModel → NodeModel → ℕ → NodeModel
    nodes a b k = if k == 0 then a else if k == 1 then b else begun 0

    plain_moves : (a c b : NodeModel) (k : ℕ) → k ≢ 0 → nodes a b k ≡ nodes c b k
    plain_moves a c b k ne = go (k == 0) (ne_eqb k 0 ne)
      where
        go : (q : Bool) → q ≡ false → (if q then a else if k == 1 then b else begun 0) ≡ (if q then c else if k == 1 then b else begun 0)
        go true e = absurd (true≢false e)
        go false e = refl

    keeper_moves : (a b c : NodeModel) (k : ℕ) → k ≢ 1 → nodes a b k ≡ nodes a c k
    keeper_moves a b c k ne = ap (λ q. if k == 0 then a else if q then b else begun 0) (ne_eqb k 1 ne) ∙ sym (ap (λ q. if k == 0 then a else if q then c else begun 0) (ne_eqb k 1 ne))

    begins : (g : ℕ) → seen.node [] g ≡ begun (seen.node [] g).gateway.id
    begins g = go (g == 0) (g == 1)
      where
        go : (a b : Bool) → (if a then begun 1 else if b then begun 2 else begun 0) ≡ begun (if a then begun 1 else if b then begun 2 else begun 0).gateway.id
        go true b = refl
        go false true = refl
        go false false = refl

    exports_first : IsExported writing starts seen (deeds collected) 1
    exports_first = (
      record { number = 1; writer = 0; start = 100; time = 200; before = 1; entries = value ∷ [] },
      refl,
      points_first ∙ ap (λ (q : Payload). (kx, (200, q)) ∷ []) (sym worked_one),
    )

    exports_second : IsExported writing starts seen (deeds archived) 2
    exports_second = (
      record { number = 2; writer = 1; start = 100; time = 300; before = 5; entries = value ∷ [] },
      refl,
      points_second ∙ (λ n. (whole_key (archive, 100) x, (300, marked (sym no_tombstone n))) ∷ (whole_key (archive, 100) t, (300, marked (sym a_tombstone n))) ∷ []),
    )

    pub happened : HaveHappened writing starts seen steps
    happened = (
      ((again.hidden, again.drops), keeper_moves plain keeper again.between),
      (
        ((exports_second, inl again.joins), keeper_moves plain again.between kept),
        (
          (λ k. refl),
          (
            (λ k. refl),
            (
              ((taken.hidden, taken.drops), keeper_moves plain kept taken.between),
              (
                ((exports_first, inl taken.joins), keeper_moves plain taken.between (begun 2)),
                (
                  ((exports_first, inl joined), plain_moves plain (begun 1) (begun 2)),
                  (
                    (λ k. refl),
                    ((λ k. refl), begins),
                  ),
                ),
              ),
            ),
          ),
        ),
      ),
    )

    abbrev pub history : History ℤ
    history = record {
      writing = writing;
      starts = starts;
      seen = seen;
      fits = fits;
      gateways = 2;
      steps = steps;
      is = record { lawful = lawful; apart = apart; happened = happened };
    }

    pub identities : IsTold who starts
    identities v w a b e = go (v == 1) (w == 1) refl refl
      where
        go : (c d : Bool) → (v == 1) ≡ c → (w == 1) ≡ d → v ≡ w
        go true true i j = eqb-true v 1 i ∙ sym (eqb-true w 1 j)
        go true false i j = absurd (differ (sym (ap is_worker i) ∙ e ∙ ap is_worker j))
        go false true i j = absurd (differ (sym (ap is_worker j) ∙ sym e ∙ ap is_worker i))
        go false false i j =
            let l : v < 2 = a in
            let k : w < 2 = b in
            grind (arith, nat_tests, l, k, i, j)

    -- what the archive adopts
    abbrev pub adoption : Counted ℤ
    adoption = ((0, 100), value ∷ [])

    abbrev pub adoptions : ℕ → List ℤ → List (Counted ℤ)
    adoptions a h = filled h (adoption ∷ [])

    pub adoption_is : (h : List ℤ) (c : Counted ℤ) → In c (filled h (adoption ∷ [])) → c ≡ adoption
    adoption_is [] c i = absurd i
    adoption_is (e ∷ es) c i = elim i [ inl same ↦ same | inr none ↦ absurd none ]

    abbrev held : ℕ → Counted ℤ → List (Key × Cell Payload)
    held a c = cells

    marks : (q : ExportPoint) → In q (counted_point total ∷ tombstone_of worker 100 200 ∷ []) → marked (stream_eq tombstones q.stream) ≡ q.payload
    marks q i = elim i [
      | inl e ↦ subst (λ (q : ExportPoint). marked (stream_eq tombstones q.stream) ≡ q.payload) (sym e) (ap marked no_tombstone)
      | inr j ↦ elim j [
        | inl e ↦ subst (λ (q : ExportPoint). marked (stream_eq tombstones q.stream) ≡ q.payload) (sym e) (ap marked a_tombstone)
        | inr none ↦ absurd none
      ]
    ]

    drives : (h : List ℤ) → IsDriven (rounding writing) (our_archiving is_archive adoptions) held 1 h
    drives [] = record { start = 100; limit = 10; calls = []; accepted = tt; adopts = refl; names = refl; payloads = λ q i. absurd i }
    drives (e ∷ es) = record {
      start = 100;
      limit = 10;
      calls = Adopt ((worker, 100), cells) ∷ [];
      accepted = (two.accepted, tt);
      adopts = refl;
      names = ap (map name_of) (sym wrote_are);
      payloads = λ q i. marks q (subst (λ (l : List ExportPoint). In q l) wrote_are i);
    }

    its_name : (h : List ℤ) (y : ItemKey) → In y (filled h (x ∷ [])) → y ≡ x
    its_name [] y i = absurd i
    its_name (e ∷ es) y i = elim i [ inl same ↦ same | inr none ↦ absurd none ]

    -- a writer that is no archive has the counter's name alone
    names_of : (w : ℕ) (h : List ℤ) (y : ItemKey) → is_archive (who w) ≡ false → In y (writing.names w h) → y ≡ x
    names_of w h y e i = its_name h y (subst (λ b. In y (names_by b h)) (is_none w e) i)

    pub driven : AreDriven (rounding writing) (our_archiving is_archive adoptions) held
    driven = record {
      each = λ a h e. subst (λ v. IsDriven (rounding writing) (our_archiving is_archive adoptions) held v h) (sym (is_one a e)) (drives h);
      never = λ a h c e i. subst (λ (d : Counted ℤ). is_archive (who d.0.0) ≡ false) (sym (adoption_is h c i)) not_own;
      plain = λ w h y e i. subst (λ (z : ItemKey). is_tombstone_name z ≡ false) (sym (names_of w h y e i)) no_tombstone;
    }

    -- the keeper held just the one point
    abbrev at : ItemKey → Cell Payload
    at y = record { time = 200; held = One (worked_payload (value ∷ []) y) }

    holds : (y : ItemKey) → cond (eq_by_cmp key_cmp (whole_key (worker, 100) y) kx) (Some (cell kx p)) None
        ≡ (if same y x || false then Some (at y) else None)
    holds y = go (same y x) refl
      where
        go : (b : Bool) → same y x ≡ b → cond (eq_by_cmp key_cmp (whole_key (worker, 100) y) kx) (Some (cell kx p)) None
            ≡ (if same y x || false then Some (at y) else None)
        go true i =
            ap (λ q. cond q (Some (cell kx p)) None)
            (ap (λ (z : ItemKey). eq_by_cmp key_cmp (whole_key (worker, 100) z) kx) (same_exact y x i) ∙ (eq_by_cmp_equiv key_total).refl kx)
            ∙ ap (λ (q : Payload). Some (record { time = 200; held = One q })) (sym worked_one ∙ ap (worked_payload (value ∷ [])) (sym (same_exact y x i)))
            ∙ ap (λ q. if q || false then Some (at y) else None) (sym i)
        go false i =
            let untied : eq_by_cmp key_cmp (whole_key (worker, 100) y) kx ≡ false = not_true _ (λ q.
            let key : kx ≡ whole_key (worker, 100) y = sym (key_exact (whole_key (worker, 100) y) kx ((Equal-is (key_cmp (whole_key (worker, 100) y) kx)).0 q)) in
            let name : x ≡ y = λ n. ((key n).stream, (key n).attrs) in
            true≢false (sym (same_own x) ∙ ap (λ (z : ItemKey). same z x) name ∙ i)) in
            ap (λ q. cond q (Some (cell kx p)) None) untied ∙ ap (λ q. if q || false then Some (at y) else None) (sym i)

    pub just : HoldsJust writing adoption kept.gateway.points
    just = record {
      time = 200;
      parts = λ y. ap (λ (m : Points). get m (whole_key (worker, 100) y)) kept_holds ∙ get_only kx p (whole_key (worker, 100) y) ∙ holds y;
    }

    module _ (of_worker : IsInstance worker) (of_archive : IsInstance archive) where
      pub instances : (b : Bool) → IsInstance (is_worker b)
      instances true = of_archive
      instances false = of_worker

      abbrev pub archives : Archives history
      archives = record {
        is_archive = is_archive;
        adoptions = adoptions;
        held = held;
        are = record {
          instances = λ w. instances (w == 1);
          driven = driven;
          were = λ a h c e i. subst (λ (d : Counted ℤ). (points : Points) × HoldsJust writing d points × (cells ≡ incarnation_points (who d.0.0) d.0.1 points))
              (sym (adoption_is h c i)) (kept.gateway.points, just, refl);
        };
      }

      -- what is fed
      fed_is : (es : List ℤ) (q : ItemKey × ℤ) → In q (worked es) → q.0 ≡ x
      fed_is es q i = ap (λ (z : ItemKey × ℤ). z.0) (map-In (λ (v : ℤ). (x, v)) q es i).2

      fed_named : (es : List ℤ) (q : ItemKey × ℤ) → In q (worked es) → In q.0 (filled es (x ∷ []))
      fed_named [] q i = absurd i
      fed_named (e ∷ es) q i = inl (fed_is (e ∷ es) q i)

      all_fed : (es : List ℤ) → fed 1 es ≡ flat_map (λ (c : Counted ℤ). fed c.0.0 c.1) (filled es (adoption ∷ []))
      all_fed [] = refl
      all_fed (e ∷ es) = refl

      pub feeds : Feeds archives fed
      feeds = record {
        named = λ w es q e i. subst (λ b. In q.0 (names_by b es)) (sym (is_none w e)) (fed_named es q (subst (λ b. In q (fed_by b es)) (is_none w e) i));
        plain = λ w es q e i. ap (λ b. is_gauge (payload_by b es q.0)) (is_none w e)
            ∙ ap (λ (y : ItemKey). is_gauge (worked_payload es y)) (fed_is es q (subst (λ b. In q (fed_by b es)) (is_none w e) i));
        payload = λ w es y e adds there. ap (λ b. payload_by b es y) (is_none w e)
            ∙ ap (λ b. payload_of y.0.shape (values_under same y (fed_by b es))) (sym (is_none w e));
        feeds = λ a es e. subst (λ v. fed v es ≡ flat_map (λ (c : Counted ℤ). fed c.0.0 c.1) (filled es (adoption ∷ []))) (sym (is_one a e)) (all_fed es);
      }

      pub proper : HasProperBounds archives
      proper w es y e i = subst (λ (z : ItemKey). IsTrue (is_proper z.0.shape)) (sym (names_of w es y e i)) refl

      -- what was adopted, and what each recorded up to its last collection
      abbrev recorded_at : ℕ → ℕ × ℕ → List ℤ
      recorded_at g i = recorded_up_to starts (deeds steps) (AtGateway g) i

      abbrev adoptees_by : ℕ → Bool → Bool → List (Counted ℤ)
      adoptees_by g a b = flat_map (λ i. adoptions i.0 (recorded_at g i)) (cond a ((0, 100) ∷ cond b ((1, 100) ∷ []) []) (cond b ((1, 100) ∷ []) []))

      pub adopted_kept : adopted_by archives 1 ≡ adoption ∷ []
      adopted_kept = ap (λ a. adoptees_by 1 a (is_archive archive)) not_own ∙ ap (adoptees_by 1 false) own

      pub adopted_plain : adopted_by archives 0 ≡ []
      adopted_plain = ap (λ a. adoptees_by 0 a (is_archive archive)) not_own ∙ ap (adoptees_by 0 false) own

      abbrev pub last : ℕ × ℕ → List ℤ
      last i = value ∷ []

      others_last : (g : ℕ) → recorded_at g (0, 100) ≡ value ∷ [] → (i : ℕ × ℕ) → In i ((0, 100) ∷ (1, 100) ∷ []) → is_archive (who i.0) ≡ false
          → recorded_at g i ≡ last i
      others_last g is i there e = elim there [
        | inl same ↦ subst (λ (j : ℕ × ℕ). recorded_at g j ≡ last j) (sym same) is
        | inr j ↦ elim j [
          | inl same ↦ absurd (true≢false (sym own ∙ ap (λ (k : ℕ × ℕ). is_archive (who k.0)) (sym same) ∙ e))
          | inr none ↦ absurd none
        ]
      ]

      pub last_plain : AreLast archives 0 last
      last_plain = record {
        once = subst (λ (l : List (Counted ℤ)). EachOnce l) (sym adopted_plain) tt;
        there = λ c i. absurd (subst (λ (l : List (Counted ℤ)). In c l) adopted_plain i);
        adopted = λ c i. absurd (subst (λ (l : List (Counted ℤ)). In c l) adopted_plain i);
        others = λ i there e free. others_last 0 refl i there e;
      }

      it_is : (c : Counted ℤ) → In c (adopted_by archives 1) → c ≡ adoption
      it_is c i = elim (subst (λ (l : List (Counted ℤ)). In c l) adopted_kept i) [ inl same ↦ same | inr none ↦ absurd none ]

      pub last_kept : AreLast archives 1 last
      last_kept = record {
        once = subst (λ (l : List (Counted ℤ)). EachOnce l) (sym adopted_kept) ((λ i. i), tt);
        there = λ c i. inl (ap (λ (d : Counted ℤ). d.0) (it_is c i));
        adopted = λ c i. ap (λ (d : Counted ℤ). d.1) (it_is c i);
        others = λ i there e free. others_last 1 refl i there e;
      }

      pub met : MeetAll total plain keeper
      met = record {
        h = history;
        sound = sound;
        identities = identities;
        archives = archives;
        fed = fed;
        feeds = feeds;
        proper = proper;
        last = last;
        last_plain = last_plain;
        last_kept = last_kept;
        plain_is = refl;
        keeper_is = refl;
        none = adopted_plain;
        adopted = adopted_kept;
      }

      -- the keys that are shown
      tombs : AreTombstones (rounding writing) (telling archives)
      tombs = written_tombstones (rounding writing) (record { key = λ i s y. refl; same = λ y z. refl; instances = λ w. instances (w == 1) })
          is_archive adoptions held driven

      abbrev was : ℕ → ℕ → Bool
      was g w = is_adopted (rounding writing) (telling archives) (taken_collections starts (deeds steps) (AtGateway g)) (who w) 100

      apart_marks : same t x ≡ false
      apart_marks = ap (λ b. b && set_eq t.1 x.1) no_tombstone

      worker_was : was 1 0 ≡ true
      worker_was =
          ap (λ q. (q || false) || ((q || (same t t || false)) || false)) apart_marks
          ∙ ap (λ q. (false || false) || ((false || (q || false)) || false)) (same_own t)

      worker_was_not : was 0 0 ≡ false
      worker_was_not = ap (λ q. (q || false) || false) apart_marks

      archive_was_not : (g : ℕ) → was g 1 ≡ false
      archive_was_not g = never_adopted (rounding writing) sound (telling archives) tombs (taken_collections starts (deeds steps) (AtGateway g)) 1 100 own

      abbrev keys_of : Bool → Bool → List ℤ → List Key
      keys_of a b es =
          map (whole_key (worker, 100)) (names_by false (cond a [] (value ∷ [])))
          ++ (map (whole_key (archive, 100)) (names_by true (cond b [] es)) ++ [])

      keys_kept : keys_by archives 1 ≡ whole_key (archive, 100) x ∷ whole_key (archive, 100) t ∷ []
      keys_kept = ap (λ a. keys_of a (was 1 1) (value ∷ [])) worker_was ∙ ap (λ b. keys_of true b (value ∷ [])) (archive_was_not 1)

      keys_plain : keys_by archives 0 ≡ kx ∷ []
      keys_plain = ap (λ a. keys_of a (was 0 1) []) worker_was_not ∙ ap (λ b. keys_of false b []) (archive_was_not 0)

      -- so both answer alike
      pub rows_same : keeper.gateway.points ≡ kept_points kept.gateway.points (state (second ∷ [])) → (ask : Ask) → AddsUp ask.stream.shape
          → rollup_rows ask keeper.gateway.points ≡ rollup_rows ask plain.gateway.points
      rows_same shows_it ask adds =
          let settled : shown names_key keeper.gateway.points ≡ keeper.gateway.points =
          ap (shown names_key) shows_it ∙ shown_twice key_total key_exact names_key names_no_tombstone (join_points kept.gateway.points (state (second ∷ []))) ∙ sym shows_it in
          let values = values_fed (rounding writing) last (workers archives) fed in
          let no_mark : asks ask (whole_key (archive, 100) t) ≡ false = not_true _ (λ e.
          subst (λ (s : Stream). AddsUp s.shape) (exact_streams ask.stream tombstones (and_parts _ _ e).0) adds) in
          ap (rollup_rows ask) (sym settled)
          ∙ rows_unchanged history sound identities archives 1 ask adds fed feeds last last_kept
          ∙ ap (recorded_rows ask values) keys_kept
          ∙ alike ask values (whole_key (archive, 100) x) (whole_key (archive, 100) t) kx
          ((are_asked history archives ask).asked 1 100 (value ∷ []) adoption x own (inl refl)) refl no_mark
          ∙ ap (recorded_rows ask values) (sym keys_plain)
          ∙ sym (rows_unchanged history sound identities archives 0 ask adds fed feeds last last_plain)
          ∙ ap (rollup_rows ask) (ap (shown names_key) plain_holds ∙ only_shown kx p no_tombstone ∙ sym plain_holds)
