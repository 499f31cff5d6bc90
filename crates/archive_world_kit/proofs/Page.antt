-- The numbers of the page of what a node shows, where archives are among the writers.
use Rattle.std.proofs.Common.{◌≡◌, ℕ, ℤ, pos, ◌+◌, ◌+ℤ◌, Bool, true, false, not, cond, if◌then◌else◌, List, [], ◌∷◌, Option, refl, sym, ap, subst, ◌∙◌, arith, true≢false}
use Rattle.std.specs.Prelude.{int_le}
use Rattle.agg_kit.specs.Payloads.{payload_of}
use Rattle.archive_kit.specs.Adding.{add_buckets, add_payloads}
use Rattle.archive_kit.specs.Adopting.{AreTombstones, is_adopted, not_adopted}
use Rattle.archive_kit.specs.Telling.{count_told, sum_told}
use Rattle.archive_kit.specs.Tombstones.{names_key, stream_eq}
use Rattle.archive_kit.proofs.Hiding.{hide_whole}
use Rattle.archive_kit.proofs.Rest.{entries_rest, rest_taken, shown_is}
use Rattle.archive_kit.proofs.Telling.{counts_add, sums_add, whole_sum}
use Rattle.archive_kit.proofs.Written.{written_tombstones}
use Rattle.archive_world_kit.specs.Adopted.{Archives, telling}
use Rattle.archive_world_kit.specs.Answers.{Feeds, HasProperBounds, recordings_by}
use Rattle.archive_world_kit.specs.Steps.{History, HasIdentities, HasSoundRounds, deeds, rounding, shown_by}
use Rattle.archive_world_kit.proofs.Nodes.{node_shows}
use Rattle.archive_world_kit.proofs.Weighing.{archive_reads, weighed_added}
use Rattle.gateway_kit.specs.Keys.{ItemKey}
use Rattle.page_kit.specs.Bounds.{buckets_in, count_up_to}
use Rattle.page_kit.specs.Families.{Measured, shown_metrics}
use Rattle.page_kit.specs.Page.{asked_cells, left_in}
use Rattle.page_kit.specs.Recorded.{IsRecorded, row_values}
use Rattle.page_kit.specs.Rows.{rows}
use Rattle.page_kit.specs.Totals.{count_in, sum_in}
use Rattle.page_kit.proofs.Fed.{Tells, are_recorded}
use Rattle.page_kit.proofs.Recordings.{count_of_values, sum_of_values, tells_by, up_to_of_values}
use Rattle.plan_kit.specs.Plans.{is_proper}
use Rattle.point_kit.specs.Exact.{exact_streams}
use Rattle.point_kit.specs.Exports.{Points}
use Rattle.point_kit.specs.contracts.stream.StreamEq.TheImpl.Laws as stream_laws
use Rattle.point_kit.specs.declared.cell.Held.TheVariants.{One}
use Rattle.point_kit.specs.declared.key.Key.{Key}
use Rattle.point_kit.specs.declared.payload.Payload.{Payload}
use Rattle.point_kit.specs.declared.payload.Payload.TheVariants as payloads
use Rattle.point_kit.specs.declared.shape.Shape.{Shape}
use Rattle.point_kit.specs.declared.shape.Shape.TheVariants as shapes
use Rattle.point_kit.specs.declared.stream.Stream.{Stream}
use Rattle.point_kit.specs.declared.writer_id.WriterId.{WriterId}
use Rattle.rollup_kit.specs.Recordings.{values_under}
use Rattle.rollup_kit.specs.Rollups.{AddsUp}
use Rattle.schedule_kit.specs.Deeds.{Made}
use Rattle.schedule_kit.specs.Deeds.Holder.{AtGateway}
use Rattle.schedule_kit.specs.Members.{In}
use Rattle.schedule_kit.specs.Rounds.{Rounding, state}
use Rattle.schedule_kit.specs.Rows.{values_fed}
use Rattle.schedule_kit.specs.Taken.{entries_taken, incarnations, recorded_up_to, taken_collections}
use Rattle.schedule_kit.proofs.Incarnations.{incarnations_once, made_in}
use Rattle.schedule_kit.proofs.Members.{filter-In, In-map}
use Rattle.schedule_kit.proofs.Taking.{are_taken, taken_made, up_to_newest}
use Rattle.schedule_kit.proofs.Totals.{count_sum, total_zero}

sum_is : (p : Payload) → sum_in (One p) ≡ sum_told p
sum_is (payloads.Sum a) = refl
sum_is (payloads.Gauge v) = refl
sum_is (payloads.Hist c s l r) = refl

count_is : (p : Payload) → count_in (One p) ≡ count_told p
count_is (payloads.Sum a) = refl
count_is (payloads.Gauge v) = refl
count_is (payloads.Hist c s l r) = refl

-- buckets up to a bound add up
module _ (bound : ℤ) where
  none_up : (limits : List ℤ) → count_up_to bound limits [] ≡ 0
  none_up [] = refl
  none_up (limit ∷ limits) = refl

  buckets_up : (limits : List ℤ) (l m : List ℕ) → count_up_to bound limits (add_buckets l m) ≡ count_up_to bound limits l + count_up_to bound limits m
  buckets_up [] l m = refl
  buckets_up (limit ∷ limits) [] m = sym (count_sum.zero_left (count_up_to bound (limit ∷ limits) m))
  buckets_up (limit ∷ limits) (x ∷ l) [] = omega arith
  buckets_up (limit ∷ limits) (x ∷ l) (y ∷ m) =
      let rest = buckets_up limits l m in
      elim (int_le limit bound) as (λ b. (if b then x + y else 0) + count_up_to bound limits (add_buckets l m)
      ≡ ((if b then x else 0) + count_up_to bound limits l) + ((if b then y else 0) + count_up_to bound limits m)) [
        | true ↦ omega arith
        | false ↦ omega arith
      ]

  nothing_added : (l : List ℕ) → l ≡ add_buckets l []
  nothing_added [] = refl
  nothing_added (x ∷ l) = refl

  abbrev buckets : Payload → List ℕ
  buckets p = buckets_in (One p)

  buckets_both : (p q : Payload) → buckets (add_payloads p q) ≡ add_buckets (buckets p) (buckets q)
  buckets_both (payloads.Sum a) (payloads.Sum b) = refl
  buckets_both (payloads.Sum a) (payloads.Gauge v) = refl
  buckets_both (payloads.Sum a) (payloads.Hist d t m q) = refl
  buckets_both (payloads.Gauge v) q = refl
  buckets_both (payloads.Hist c s l r) (payloads.Sum b) = nothing_added l
  buckets_both (payloads.Hist c s l r) (payloads.Gauge v) = nothing_added l
  buckets_both (payloads.Hist c s l r) (payloads.Hist d t m q) = refl

  abbrev up : List ℤ → Payload → ℕ
  up bounds p = count_up_to bound bounds (buckets p)

  up_both : (bounds : List ℤ) (p q : Payload) → up bounds (add_payloads p q) ≡ up bounds p + up bounds q
  up_both bounds p q = ap (count_up_to bound bounds) (buckets_both p q) ∙ buckets_up bounds (buckets p) (buckets q)

module _ {N : Type 0} (h : History N) (sound : HasSoundRounds h) (told : HasIdentities h) (a : Archives h) (g : ℕ)
    (fed : ℕ → List N → List (ItemKey × ℤ)) (feed : Feeds a fed) (proper : HasProperBounds a) where
  abbrev r : Rounding N Key WriterId ItemKey Payload
  r = rounding h.writing

  abbrev is_archive : ℕ → Bool
  is_archive w = a.is_archive (h.writing.who w)

  abbrev under : ℕ → List N → ItemKey → List ℤ
  under w es x = values_under r.same_name x (fed w es)

  -- of a stream alone
  abbrev wants : Stream → Key → Bool
  wants stream k = stream_eq stream k.stream

  itself : (stream : Stream) → stream_eq stream stream ≡ true
  itself stream = (stream_laws.laws-law).refl stream

  proper_of : (stream : Stream) (w : ℕ) (es : List N) (x : ItemKey) → is_archive w ≡ false → In x (r.names w es) → stream ≡ x.0 → is_proper stream.shape ≡ true
  proper_of stream w es x e there same = ap (λ (s : Stream). is_proper s.shape) same ∙ proper w es x e there

  of_shape : (x : ItemKey) (bounds : List ℤ) → x.0.shape ≡ shapes.Histogram bounds → AddsUp x.0.shape
  of_shape x bounds is = subst AddsUp (sym is) tt

  -- what an archive writes tells the values of what it adopted
  archive_tells : (b : ℕ) (es : List N) (x : ItemKey) → In x (r.names b es) → Tells x.0.shape (r.payload b es x) (under b es x)
  archive_tells b es x there =
      tells_by x.0.shape (r.payload b es x) (under b es x)
      (λ adds. sum_is (r.payload b es x)
      ∙ archive_reads a fed feed (pos 0) ◌+ℤ◌ whole_sum sum_told sums_add (λ v. refl) (λ v. v) x.0 adds
      (λ w es y e k same vs. sym (sum_is (payload_of x.0.shape vs)) ∙ sum_of_values x.0.shape vs adds)
      (wants x.0) (λ k t. exact_streams x.0 k.stream t) sound b es x 0 (itself x.0) there)
      (λ bounds is. count_is (r.payload b es x)
      ∙ archive_reads a fed feed 0 ◌+◌ count_sum count_told counts_add (λ v. refl) (λ _. 1) x.0 (of_shape x bounds is)
      (λ w es y e k same vs. ap (λ (s : Shape). count_told (payload_of s vs)) is ∙ sym (count_is (payload_of (shapes.Histogram bounds) vs)) ∙ count_of_values bounds vs)
      (wants x.0) (λ k t. exact_streams x.0 k.stream t) sound b es x 0 (itself x.0) there)
      (λ bounds is bound within.
      archive_reads a fed feed 0 ◌+◌ count_sum (up bound bounds) (up_both bound bounds) (λ v. none_up bound bounds) (λ v. cond (int_le v bound) 1 0) x.0 (of_shape x bounds is)
      (λ w es y e k same vs. ap (λ (s : Shape). up bound bounds (payload_of s vs)) is
      ∙ up_to_of_values bound bounds vs (ap (λ (s : Shape). is_proper s) (sym is) ∙ proper_of x.0 w es y e k same) within)
      (wants x.0) (λ k t. exact_streams x.0 k.stream t) sound b es x 0 (itself x.0) there)

  -- and so does what another writes
  own_tells : (w : ℕ) (es : List N) (x : ItemKey) → is_archive w ≡ false → In x (r.names w es) → Tells x.0.shape (r.payload w es x) (under w es x)
  own_tells w es x e there =
      let payload_is : AddsUp x.0.shape → r.payload w es x ≡ payload_of x.0.shape (under w es x) = λ adds. feed.payload w es x e adds there in
      tells_by x.0.shape (r.payload w es x) (under w es x)
      (λ adds. ap (λ (p : Payload). sum_in (One p)) (payload_is adds) ∙ sum_of_values x.0.shape (under w es x) adds)
      (λ bounds is. ap (λ (p : Payload). count_in (One p)) (payload_is (of_shape x bounds is) ∙ ap (λ (s : Shape). payload_of s (under w es x)) is)
      ∙ count_of_values bounds (under w es x))
      (λ bounds is bound within. ap (λ (p : Payload). count_up_to bound bounds (buckets_in (One p))) (payload_is (of_shape x bounds is) ∙ ap (λ (s : Shape). payload_of s (under w es x)) is)
      ∙ up_to_of_values bound bounds (under w es x) (ap (λ (s : Shape). is_proper s) (sym is) ∙ proper w es x e there) within)

  tells : (w : ℕ) (es : List N) (x : ItemKey) → In x (r.names w es) → Tells x.0.shape (r.payload w es x) (under w es x)
  tells w es x there = elim (is_archive w) as (λ b. is_archive w ≡ b → Tells x.0.shape (r.payload w es x) (under w es x)) [
    | true ↦ λ e. archive_tells w es x there
    | false ↦ λ e. own_tells w es x e there
  ] refl

  -- what is fed has a name
  pub named : (w : ℕ) (es : List N) (v : ItemKey × ℤ) → In v (fed w es) → In v.0 (r.names w es)
  named w es v i =
      let nothing : Stream = record { scope = []; name = []; unit = []; shape = shapes.Sum true } in
      (weighed_added a fed feed 0 ◌+◌ count_sum (λ _. 0) (λ x y. refl) (λ v. refl) (λ _. 0) nothing tt
      (λ w es x e there same vs. sym (total_zero 0 ◌+◌ count_sum (λ _. 0) vs (λ _ _. refl))) (λ k. false) (λ k t. absurd (true≢false (sym t))) sound).named w es (v.0, 0)
      (In-map (λ (v : ItemKey × ℤ). (v.0, 0)) v (fed w es) i)

  abbrev all_taken : List (Made N)
  all_taken = taken_collections h.starts (deeds h.steps) (AtGateway g)

  abbrev adopted : WriterId → ℕ → Bool
  adopted = is_adopted r (telling a) all_taken

  -- the collections of those that were not adopted: a node shows what these come to
  abbrev ms : List (Made N)
  ms = not_adopted r.who adopted all_taken

  abbrev is : List (ℕ × ℕ)
  is = incarnations h.starts (deeds h.steps)

  tombs : AreTombstones r (telling a)
  tombs = written_tombstones r (record { key = λ i start x. refl; same = λ x y. refl; instances = a.are.instances }) a.is_archive a.adoptions a.held a.are.driven

  same_state : shown_by h g ≡ state r ms
  same_state =
      node_shows h.writing h.starts h.seen h.fits h.gateways h.steps h.is g
      ∙ shown_is r sound adopted names_key all_taken (hide_whole r sound (telling a) tombs all_taken)

  its_entries : (i : ℕ × ℕ) → entries_taken ms i.0 i.1 ≡ cond (adopted (r.who i.0) i.1) [] (recorded_up_to h.starts (deeds h.steps) (AtGateway g) i)
  its_entries i =
      entries_rest r.who adopted all_taken i.0 i.1
      ∙ ap (λ l. cond (adopted (r.who i.0) i.1) [] l) (sym (up_to_newest h.starts (deeds h.steps) (AtGateway g) i.0 i.1))

  pub page_recorded : (service but : Option (List ℕ)) (m : Measured) → In m (shown_metrics (left_in but (asked_cells service (shown_by h g))))
      → (w : _) → In w (rows m.1) → IsRecorded m w (row_values service but m.0 w.0 (recordings_by a fed g))
  page_recorded service but m there w here =
      subst (λ (E : ℕ × ℕ → List N). IsRecorded m w (row_values service but m.0 w.0 (values_fed r E is fed))) (λ n i. its_entries i n)
      (are_recorded r sound (λ i start x. refl) ms
      (rest_taken r.who adopted all_taken (are_taken h.starts h.fits h.gateways r.who told (deeds h.steps) h.is.lawful (AtGateway g))) is
      (incarnations_once h.starts r.who told h.fits h.gateways (deeds h.steps) h.is.lawful)
      (λ m i. made_in h.starts h.fits h.gateways (deeds h.steps) h.is.lawful m (taken_made h.starts (deeds h.steps) (AtGateway g) m (filter-In (λ (m : Made N). not (adopted (r.who m.writer) m.start)) m all_taken i).0)) fed
      (λ i j v k. named i.0 (entries_taken ms i.0 i.1) v k) (λ i j x k. tells i.0 (entries_taken ms i.0 i.1) x k)
      service but m (subst (λ (p : Points). In m (shown_metrics (left_in but (asked_cells service p)))) same_state there) w here)
