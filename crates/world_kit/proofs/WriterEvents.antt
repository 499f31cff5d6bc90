-- What writers do leads a world that stands for deeds to one that stands for them and one more.
use Rattle.std.proofs.Common.{◌≡◌, ◌≢◌, ℕ, ℤ, zero, suc, ◌+◌, ◌<◌, ◌≤◌, Bool, true, false, cond, not, max, is_none, inl, inr, List, [], ◌∷◌, ◌++◌, map, length, get_or, slice_get, slice_index, nat_lt, nat_le, Option, Some, None, Result, Ok, Err, refl, sym, ap, subst, ◌∙◌, arith}
use Rattle.std.proofs.Math.ListN.{set}
use Rattle.std.proofs.lemmas.Bool.{eq-eqb, ne_eqb, lt-ltb, le-ltb, le-leb, lt-leb, cases_lt}
use Rattle.std.proofs.lemmas.List.{length-map}
use Rattle.std.proofs.lemmas.Option.{slice_get_within}
use Rattle.std.specs.Option.{option_and_then, option_map}
use Rattle.std.specs.Prelude.{IfErr, find}
use mathlib.Core.Bool.{true≢false}
use Rattle.agg_kit.specs.declared.fault.TallyFault.{TallyFault}
use Rattle.agg_kit.specs.Entries.{Entry}
use Rattle.agg_kit.specs.declared.fault.TallyFault.TheVariants as tally
use Rattle.agg_kit.proofs.Rounds.{stands-push}
use Rattle.agg_kit.specs.Feeds.{NoneCopies, early_feeds}
use Rattle.agg_kit.specs.Measuring.{after_measure, early_fault_of, is_over}
use Rattle.agg_kit.specs.Refusals.{is_negative_for, overflows, first_refusal}
use Rattle.agg_kit.specs.Rounds.{StandsFor, round}
use Rattle.agg_kit.specs.Tallies.{Tallied}
use Rattle.plan_kit.specs.declared.feed.Feed.{Feed}
use Rattle.plan_kit.specs.Plans.{Planned, feeds_of, kind_of}
use Rattle.attr_kit.specs.declared.attr_set.AttrSet.{AttrSet}
use Rattle.attr_kit.specs.Refusing.{first, when}
use Rattle.point_kit.specs.declared.export.Export.{Export}
use Rattle.recorder_kit.specs.Log.{ByName}
use Rattle.round_kit.specs.Rounds.{points_of}
use Rattle.schedule_kit.specs.Deeds.{Deed, acts_of}
use Rattle.schedule_kit.specs.Deeds.Deed.{Wrote}
use Rattle.schedule_kit.specs.Deeds.Holder.{AtGateway}
use Rattle.schedule_kit.proofs.History.{acts_accepted, none_yet}
use Rattle.schedule_kit.specs.Schedule.{Act, AreAccepted, start_of, last_of, is_open, running}
use Rattle.schedule_kit.specs.Schedule.Act.{Measured, Collected, Restarted}
use Rattle.world_kit.proofs.Claims.{answers_wrote, gossip_rests}
use Rattle.world_kit.proofs.Frames.{writers_set, nodes_same, exports_same, exports_more, mails_same}
use Rattle.world_kit.proofs.Replies.{refused_acts, accepted_acts, accepted_wants, guard_true, written_there, written_none}
use Rattle.world_kit.proofs.StateSteps.{state_measured, state_restarted, state_collected}
use Rattle.world_kit.specs.Copying.{Copies, Refuses}
use Rattle.world_kit.specs.declared.event.Event.TheVariants as event
use Rattle.world_kit.specs.declared.event.Refusal.{Refusal}
use Rattle.world_kit.specs.declared.event.Refusal.TheVariants as refusal
use Rattle.world_kit.specs.declared.event.Reply.TheVariants as reply
use Rattle.world_kit.specs.declared.setup.Setup.{Setup}
use Rattle.world_kit.specs.declared.setup.WriterSetup.{WriterSetup}
use Rattle.world_kit.specs.WorldState.{WorldState}
use Rattle.world_kit.specs.Judged.{Deeds, collected_at, fits_at, guard, judgement, refusal_at, refusal_of, unless}
use Rattle.world_kit.specs.Setups.{no_writer, writer_at, starts_of, gateways_of}
use Rattle.world_kit.specs.Stands.{Acts, Stands, WriterStands}
use Rattle.world_kit.specs.Told.{measure_refusal, collect_refusal, restart_refusal, collect_event}
use Rattle.world_kit.specs.Wanting.{TakesMemory, Wants}
use Rattle.writer_kit.specs.declared.fault.CollectFault.{CollectFault}
use Rattle.writer_kit.specs.declared.fault.CollectFault.TheVariants as collect
use Rattle.writer_kit.specs.declared.fault.MeasureFault.{MeasureFault}
use Rattle.writer_kit.specs.declared.fault.MeasureFault.TheVariants as measure
use Rattle.writer_kit.specs.declared.fault.RestartFault.{RestartFault}
use Rattle.writer_kit.specs.declared.fault.RestartFault.TheVariants as restart
use Rattle.writer_kit.proofs.Refusals.{now_is, early_is}
use Rattle.writer_kit.specs.Recording.{after_record, after_restart}
use Rattle.writer_kit.specs.Refusals.{early_fault, fault_now, measure_fault, collect_fault, restart_fault}
use Rattle.writer_kit.specs.Written.{Written}

-- a world with other writers
abbrev pub with_writers : WorldState → List Written → WorldState
with_writers w ws = record { writers = ws; nodes = w.nodes; exports = w.exports; mails = w.mails }

-- the same, and other exports
abbrev pub with_export : WorldState → List Written → List Export → WorldState
with_export w ws es = record { writers = ws; nodes = w.nodes; exports = es; mails = w.mails }

start_in : (ws : List WriterSetup) (v : ℕ) → slice_index (map (λ w. w.start) ws) v ≡ (get_or ws v no_writer).start
start_in [] v = refl
start_in (w ∷ ws) zero = refl
start_in (w ∷ ws) (suc v) = start_in ws v

acts_more : (v : ℕ) (act : Act Entry) (ds : Deeds) → acts_of v (Wrote v act ∷ ds) ≡ act ∷ acts_of v ds
acts_more v act ds = rw (eq-eqb v v refl) refl

acts_other : (v i : ℕ) (act : Act Entry) (ds : Deeds) → i ≢ v → acts_of i (Wrote v act ∷ ds) ≡ acts_of i ds
acts_other v i act ds other = rw (ne_eqb v i (λ e. other (sym e))) refl

not_not : (b : Bool) → not (not b) ≡ b
not_not true = refl
not_not false = refl

judgement_collect : (s : Setup) (ds : Deeds) (v time : ℕ) (closing : Bool) → v < length s.writers → judgement s ds (collect_event v time closing) ≡ collected_at v (writer_at s v).start (acts_of v ds) time closing
judgement_collect s ds v time true h = written_there s v _ h
judgement_collect s ds v time false h = written_there s v _ h

open_or : (b : Bool) → not b ≡ false → b ≡ true
open_or true e = refl
open_or false e = absurd (true≢false e)

shut_or : (b : Bool) → not b ≡ true → b ≡ false
shut_or true e = absurd (true≢false (sym e))
shut_or false e = refl

-- of a first refusal, or none
measure_some : (closed : Bool) (o : Option TallyFault) (f : MeasureFault) (r : Refusal) (x : Result (Deed Entry) Refusal) → first (when closed measure.Closed ∷ option_map (λ g. measure.Refused g) o ∷ []) ≡ Some f → measure_refusal f ≡ Some r
    → guard (not closed) refusal.Closed (unless (option_and_then refusal_of o) x) ≡ Err r
measure_some true o f r x h t =
    let same : measure.Closed ≡ f = cc h in
    let its : Some refusal.Closed ≡ Some r = ap measure_refusal same ∙ t in
    let equal : refusal.Closed ≡ r = cc its in
    ap (λ y. Err y) equal
measure_some false None f r x h t = cc
measure_some false (Some g) f r x h t =
    let same : measure.Refused g ≡ f = cc h in
    let its : refusal_of g ≡ Some r = ap measure_refusal same ∙ t in
    ap (λ o. unless o x) its

measure_none : (closed : Bool) (o : Option TallyFault) → first (when closed measure.Closed ∷ option_map (λ g. measure.Refused g) o ∷ []) ≡ None → (closed ≡ false) × (o ≡ None)
measure_none true o h = cc
measure_none false None h = (refl, refl)
measure_none false (Some g) h = cc

collect_some : (closed : Bool) (last time : ℕ) (f : CollectFault) (r : Refusal) (x : Result (Deed Entry) Refusal) → first (when closed collect.Closed ∷ when (nat_le time last) (collect.TimeNotAfter last) ∷ []) ≡ Some f → collect_refusal f ≡ Some r
    → guard (not closed) refusal.Closed (guard (nat_lt last time) (refusal.TimeNotAfter last) x) ≡ Err r
collect_some true last time f r x h t =
    let same : collect.Closed ≡ f = cc h in
    let its : Some refusal.Closed ≡ Some r = ap collect_refusal same ∙ t in
    let equal : refusal.Closed ≡ r = cc its in
    ap (λ y. Err y) equal
collect_some false last time f r x h t =
    elim (cases_lt last time) [
      | inl below ↦ let none : None ≡ Some f = sym (rw (lt-leb time last below) refl) ∙ h in cc none
      | inr above ↦
          let some : Some (collect.TimeNotAfter last) ≡ Some f = sym (rw (le-leb time last above) refl) ∙ h in
          let same : collect.TimeNotAfter last ≡ f = cc some in
          let its : Some (refusal.TimeNotAfter last) ≡ Some r = ap collect_refusal same ∙ t in
          let equal : refusal.TimeNotAfter last ≡ r = cc its in
          rw (le-ltb last time above) (ap (λ y. Err y) equal)
    ]

pub collect_none : (closed : Bool) (last time : ℕ) → first (when closed collect.Closed ∷ when (nat_le time last) (collect.TimeNotAfter last) ∷ []) ≡ None → (closed ≡ false) × (last < time)
collect_none true last time h = cc
collect_none false last time h = elim (cases_lt last time) [
  | inl below ↦ (refl, below)
  | inr above ↦ let some : Some (collect.TimeNotAfter last) ≡ None = sym (rw (le-leb time last above) refl) ∙ h in cc some
]

-- a writer that refuses no collection at a time is open, and its last is before
pub opened_at : (x : Written) (time : ℕ) → collect_fault x time ≡ None → x.closed ≡ false
unfolding collect_fault
opened_at x time h = (collect_none x.closed x.last time h).0

pub rises_at : (x : Written) (time : ℕ) → collect_fault x time ≡ None → x.last < time
unfolding collect_fault
rises_at x time h = (collect_none x.closed x.last time h).1

restart_some : (now start : ℕ) (f : RestartFault) (r : Refusal) (x : Result (Deed Entry) Refusal) → first (when (nat_le start now) (restart.StartNotAfter now) ∷ []) ≡ Some f → restart_refusal f ≡ Some r → guard (nat_lt now start) (refusal.StartNotAfter now) x ≡ Err r
restart_some now start f r x h t = elim (cases_lt now start) [
  | inl below ↦ let none : None ≡ Some f = sym (rw (lt-leb start now below) refl) ∙ h in cc none
  | inr above ↦
      let some : Some (restart.StartNotAfter now) ≡ Some f = sym (rw (le-leb start now above) refl) ∙ h in
      let same : restart.StartNotAfter now ≡ f = cc some in
      let its : Some (refusal.StartNotAfter now) ≡ Some r = ap restart_refusal same ∙ t in
      let equal : refusal.StartNotAfter now ≡ r = cc its in
      rw (le-ltb now start above) (ap (λ y. Err y) equal)
]

restart_none : (now start : ℕ) → first (when (nat_le start now) (restart.StartNotAfter now) ∷ []) ≡ None → now < start
restart_none now start h = elim (cases_lt now start) [
  | inl below ↦ below
  | inr above ↦ let some : Some (restart.StartNotAfter now) ≡ None = sym (rw (le-leb start now above) refl) ∙ h in cc some
]

-- where neither a missing instrument nor a negative value refuses, an overflow alone does
out_alone : (b c : Bool) (o : Option Feed) (other : Option TallyFault) (f : TallyFault) → first (when b tally.NoInstrument ∷ when c tally.Negative ∷ other ∷ []) ≡ None
    → first (when b tally.NoInstrument ∷ when c tally.Negative ∷ option_map (λ g. tally.Overflow g.stream) o ∷ []) ≡ Some f → (m : ℕ) × (f ≡ tally.Overflow m)
out_alone true c o other f none some = cc
out_alone false true o other f none some = cc
out_alone false false None other f none some = cc
out_alone false false (Some g) other f none some = (g.stream, let same : tally.Overflow g.stream ≡ f = cc some in sym same)

overflow_alone : (t : Tallied) (h : List Entry) (e : Entry) (f : TallyFault) → early_fault_of t e ≡ None → first_refusal t.plan h e ≡ Some f → (m : ℕ) × (f ≡ tally.Overflow m)
unfolding first_refusal early_fault_of
overflow_alone t h e f none some =
    out_alone (is_none (kind_of t.plan e.instrument)) (is_negative_for (kind_of t.plan e.instrument) e.value) (find (overflows t.plan (h ++ e ∷ []) e.attrs) (feeds_of t.plan e.instrument))
    (option_map (λ g. tally.Overflow g.stream) (find (is_over (after_measure t e) e.attrs) (early_feeds e.attrs (feeds_of t.plan e.instrument)))) f none some

none_some : {A : Type 0} (o : Option A) (a : A) → o ≡ None → o ≡ Some a → ⊥
none_some o a none some = cc

module _ (w : WorldState) (v : ℕ) where
  pub measure_nowhere : (i : ℕ) (a : AttrSet) (val : ℤ) → length w.writers ≤ v → Acts (event.Measure v i a val) w (reply.Refused refusal.NoWriter) w
  measure_nowhere i a val past = refused_acts _ w refusal.NoWriter (λ s ds st. written_none s v _ (let c = st.writers.count in omega arith))

  pub collect_nowhere : (time : ℕ) (closing : Bool) → length w.writers ≤ v → Acts (collect_event v time closing) w (reply.Refused refusal.NoWriter) w
  collect_nowhere time true past = refused_acts _ w refusal.NoWriter (λ s ds st. written_none s v _ (let c = st.writers.count in omega arith))
  collect_nowhere time false past = refused_acts _ w refusal.NoWriter (λ s ds st. written_none s v _ (let c = st.writers.count in omega arith))

  pub restart_nowhere : (start : ℕ) → length w.writers ≤ v → Acts (event.Restart v start) w (reply.Refused refusal.NoWriter) w
  restart_nowhere start past = refused_acts _ w refusal.NoWriter (λ s ds st. written_none s v _ (let c = st.writers.count in omega arith))

module _ (w : WorldState) (v : ℕ) (x : Written) (at_v : slice_get w.writers v ≡ Some x) where
  here : v < length w.writers
  here = slice_get_within w.writers v x at_v

  its : (s : Setup) (ds : Deeds) → Stands s ds w → WriterStands (writer_at s v) (acts_of v ds) x
  its s ds st = st.writers.each v x at_v

  -- a writer refuses a recording
  pub measure_refused : (i : ℕ) (a : AttrSet) (val : ℤ) (f : MeasureFault) (r : Refusal) → fault_now x (ByName (record { instrument = i; attrs = a; value = val })) ≡ Some f → measure_refusal f ≡ Some r
      → Acts (event.Measure v i a val) w (reply.Refused r) w
  unfolding measure_fault
  measure_refused i a val f r refuses told = refused_acts _ w r (λ s ds st.
      let stands = its s ds st in
      let h = running (writer_at s v).start (acts_of v ds) in
      let e : Entry = record { instrument = i; attrs = a; value = val } in
      let closed : not x.closed ≡ is_open (acts_of v ds) = ap not stands.closed ∙ not_not (is_open (acts_of v ds)) in
      let c = st.writers.count in
      let there = here in
      written_there s v _ (omega arith)
      ∙ ap (λ b. guard b refusal.Closed (unless (refusal_at s v h e) (Ok (Wrote v (Measured e))))) (sym closed)
      ∙ ap (λ (p : Planned). guard (not x.closed) refusal.Closed (unless (option_and_then refusal_of (first_refusal p h e)) (Ok (Wrote v (Measured e))))) (sym stands.plan)
      ∙ measure_some x.closed (first_refusal x.tally.plan h e) f r (Ok (Wrote v (Measured e))) (sym (now_is x h e stands.tally) ∙ refuses) told)

  -- a recording wants memory where the writer is open, and nothing is refused that is found without memory
  pub measure_wants : (i : ℕ) (a : AttrSet) (val : ℤ) → early_fault x (ByName (record { instrument = i; attrs = a; value = val })) ≡ None → Wants (event.Measure v i a val) w
  unfolding early_fault measure_fault
  measure_wants i a val early = record {
    accepted = λ s ds st.
        let stands = its s ds st in
        let short = measure_none x.closed (early_fault_of x.tally (record { instrument = i; attrs = a; value = val })) early in
        let h = running (writer_at s v).start (acts_of v ds) in
        let e : Entry = record { instrument = i; attrs = a; value = val } in
        let d : Deed Entry = Wrote v (Measured e) in
        let is : is_open (acts_of v ds) ≡ true = open_or (is_open (acts_of v ds)) (sym stands.closed ∙ short.0) in
        let c = st.writers.count in
        let there = here in
        let comes : judgement s ds (event.Measure v i a val) ≡ unless (option_and_then refusal_of (first_refusal x.tally.plan h e)) (Ok d) =
        written_there s v _ (omega arith) ∙ guard_true _ refusal.Closed _ is ∙ ap (λ (p : Planned). unless (option_and_then refusal_of (first_refusal p h e)) (Ok d)) (sym stands.plan) in
        let takes : (m : ℕ) → first_refusal x.tally.plan h e ≡ Some (tally.Overflow m) → NoneCopies a (feeds_of (writer_at s v).plan i) → ⊥ = λ m out all.
        let none-copies : NoneCopies a (feeds_of x.tally.plan i) = subst (λ (p : Planned). NoneCopies a (feeds_of p i)) (sym stands.plan) all in
        let none = (measure_none x.closed (first_refusal x.tally.plan h e) (sym (now_is x h e stands.tally) ∙ sym (early_is x e none-copies) ∙ early)).1 in
        none_some (first_refusal x.tally.plan h e) (tally.Overflow m) none out in
        subst (λ (j : Result (Deed Entry) Refusal). IfErr j (TakesMemory s (event.Measure v i a val))) (sym comes)
        (elim (first_refusal x.tally.plan h e) as (λ o. first_refusal x.tally.plan h e ≡ o → IfErr (unless (option_and_then refusal_of o) (Ok d)) (TakesMemory s (event.Measure v i a val))) [
          | None ↦ λ _. tt
          | Some f ↦ λ out. let m = overflow_alone x.tally h e f short.1 out in
              subst (λ (g : TallyFault). IfErr (unless (option_and_then refusal_of (Some g)) (Ok d)) (TakesMemory s (event.Measure v i a val))) (sym m.1) (takes m.0 (out ∙ ap Some m.1))
        ] refl);
  }

  -- a writer takes a recording
  pub measures : (y : Written) (i : ℕ) (a : AttrSet) (val : ℤ)
      → fault_now x (ByName (record { instrument = i; attrs = a; value = val })) ≡ None → y ≡ after_record x (ByName (record { instrument = i; attrs = a; value = val }))
      → Acts (event.Measure v i a val) w reply.Done (with_writers w (set w.writers v y))
  unfolding measure_fault
  measures y i a val accepts same = accepted_acts _ w (with_writers w (set w.writers v y)) _ (Wrote v (Measured (record { instrument = i; attrs = a; value = val }))) (λ s ds st.
      let stands = its s ds st in
      let first_start = (writer_at s v).start in
      let acts = acts_of v ds in
      let h = running first_start acts in
      let e : Entry = record { instrument = i; attrs = a; value = val } in
      let opened = measure_none x.closed (first_refusal x.tally.plan h e) (sym (now_is x h e stands.tally) ∙ accepts) in
      let is : is_open acts ≡ true = open_or (is_open acts) (sym stands.closed ∙ opened.0) in
      let fits : refusal_at s v h e ≡ None = ap (λ (p : Planned). option_and_then refusal_of (first_refusal p h e)) (sym stands.plan) ∙ ap (option_and_then refusal_of) opened.1 in
      let starts : slice_index (starts_of s) v ≡ first_start = start_in s.writers v in
      let c = st.writers.count in
      let there = here in
      let stays : WriterStands (writer_at s v) (Measured e ∷ acts) y = record {
        id = ap (λ (z : Written). z.id) same ∙ stands.id;
        plan = ap (λ (z : Written). z.tally.plan) same ∙ stands.plan;
        tally = subst (StandsFor y.tally) (sym (more first_start acts e)) (subst (λ (z : Written). StandsFor z.tally (h ++ e ∷ [])) (sym same) (stands-push x.tally h e stands.tally));
        start = ap (λ (z : Written). z.start) same ∙ stands.start;
        last = ap (λ (z : Written). z.last) same ∙ stands.last;
        closed = ap (λ (z : Written). z.closed) same ∙ stands.closed;
      } in (
        written_there s v _ (omega arith) ∙ guard_true _ refusal.Closed _ is ∙ ap (λ o. unless o (Ok (Wrote v (Measured e)))) fits,
        record {
          apart = st.apart;
          plans = st.plans;
          lawful = (((omega (arith, length-map s.writers (λ (z : WriterSetup). z.start))), (is, fits_there s v first_start starts acts e fits)), st.lawful);
          writers = writers_set s ds (Wrote v (Measured e) ∷ ds) w.writers v y (λ j other. acts_other v j (Measured e) ds other) (subst (λ (l : List (Act Entry)). WriterStands (writer_at s v) l y) (sym (acts_more v (Measured e) ds)) stays) st.writers;
          nodes = nodes_same s ds (Wrote v (Measured e) ∷ ds) w.nodes (λ g. state_measured s ds v e (AtGateway g)) st.nodes;
          exports = exports_same s ds (Wrote v (Measured e) ∷ ds) w.exports refl st.exports;
          mails = mails_same s ds (Wrote v (Measured e) ∷ ds) w.mails refl (λ n b. refl) st.mails;
          gossip = gossip_rests s ds (Wrote v (Measured e)) w.nodes w.mails st.nodes st.mails (λ h. state_measured s ds v e h) (λ n. refl) (λ n. answers_wrote s ds v _ n) st.gossip;
        },
        refl,
      ))
    where
      more : (f : ℕ) (acts : List (Act Entry)) (e : Entry) → running f (Measured e ∷ acts) ≡ running f acts ++ e ∷ []
      more f acts e = rw (eq-eqb (start_of f acts) (start_of f acts) refl) refl

      fits_there : (s : Setup) (v f : ℕ) → slice_index (starts_of s) v ≡ f → (acts : List (Act Entry)) (e : Entry) → refusal_at s v (running f acts) e ≡ None → fits_at s v (running (slice_index (starts_of s) v) acts) e ≡ true
      fits_there s v f same acts e none = ap (λ n. fits_at s v (running n acts) e) same ∙ ap is_none none

  -- a writer refuses a collection
  pub collect_refused : (time : ℕ) (closing : Bool) (r : Refusal) → Refuses x time r → Acts (collect_event v time closing) w (reply.Refused r) w
  unfolding collect_fault
  collect_refused time closing r refuses = refused_acts _ w r (λ s ds st.
      let stands = its s ds st in
      let first_start = (writer_at s v).start in
      let acts = acts_of v ds in
      let closed : not x.closed ≡ is_open acts = ap not stands.closed ∙ not_not (is_open acts) in
      let c = st.writers.count in
      let there = here in
      judgement_collect s ds v time closing (omega arith)
      ∙ ap (λ b. guard b refusal.Closed (guard (nat_lt (last_of first_start acts) time) (refusal.TimeNotAfter (last_of first_start acts)) (Ok (Wrote v (Collected time closing))))) (sym closed)
      ∙ ap (λ l. guard (not x.closed) refusal.Closed (guard (nat_lt l time) (refusal.TimeNotAfter l) (Ok (Wrote v (Collected time closing))))) (sym stands.last)
      ∙ collect_some x.closed x.last time refuses.fault r (Ok (Wrote v (Collected time closing))) refuses.refused refuses.told)

  collect_is : (time : ℕ) (closing : Bool) → collect_fault x time ≡ None → (s : Setup) (ds : Deeds) → Stands s ds w → judgement s ds (collect_event v time closing) ≡ Ok (Wrote v (Collected time closing))
  unfolding collect_fault
  collect_is time closing accepted s ds st =
      let stands = its s ds st in
      let first_start = (writer_at s v).start in
      let acts = acts_of v ds in
      let opened = collect_none x.closed x.last time accepted in
      let is : is_open acts ≡ true = open_or (is_open acts) (sym stands.closed ∙ opened.0) in
      let last = stands.last in
      let above = opened.1 in
      let c = st.writers.count in
      let there = here in
      judgement_collect s ds v time closing (omega arith) ∙ guard_true _ refusal.Closed _ is ∙ guard_true _ (refusal.TimeNotAfter (last_of first_start acts)) _ (lt-ltb (last_of first_start acts) time (omega arith))

  pub collect_wants : (time : ℕ) (closing : Bool) → collect_fault x time ≡ None → Wants (collect_event v time closing) w
  collect_wants time closing accepted = accepted_wants _ w (Wrote v (Collected time closing)) (collect_is time closing accepted)

  -- a writer's points are collected
  pub collects : (time : ℕ) (closing : Bool) (y : Written) (e : Export) → Copies x time e → y ≡ record { id = x.id; tally = x.tally; start = x.start; last = time; closed = closing }
      → Acts (collect_event v time closing) w (reply.Made (length w.exports + 1)) (with_export w (set w.writers v y) (w.exports ++ e ∷ []))
  unfolding collect_fault
  collects time closing y e copies same = accepted_acts _ w (with_export w (set w.writers v y) (w.exports ++ e ∷ [])) _ (Wrote v (Collected time closing)) (λ s ds st.
      let stands = its s ds st in
      let first_start = (writer_at s v).start in
      let acts = acts_of v ds in
      let opened = collect_none x.closed x.last time copies.accepted in
      let is : is_open acts ≡ true = open_or (is_open acts) (sym stands.closed ∙ opened.0) in
      let last = stands.last in
      let above = opened.1 in
      let rises : last_of first_start acts < time = omega arith in
      let starts : slice_index (starts_of s) v ≡ first_start = start_in s.writers v in
      let c = st.writers.count in
      let there = here in
      let stays : WriterStands (writer_at s v) (Collected time closing ∷ acts) y = record {
        id = ap (λ (z : Written). z.id) same ∙ stands.id;
        plan = ap (λ (z : Written). z.tally.plan) same ∙ stands.plan;
        tally = subst (λ (t : Tallied). StandsFor t (running first_start acts)) (sym (ap (λ (z : Written). z.tally) same)) stands.tally;
        start = ap (λ (z : Written). z.start) same ∙ stands.start;
        last = ap (λ (z : Written). z.last) same ∙ latest time (last_of first_start acts) rises;
        closed = ap (λ (z : Written). z.closed) same ∙ closes closing (is_open acts) is;
      } in (
        collect_is time closing copies.accepted s ds st,
        record {
          apart = st.apart;
          plans = st.plans;
          lawful = (((omega (arith, length-map s.writers (λ (z : WriterSetup). z.start))), (is, subst (λ (f : ℕ). last_of f acts < time) (sym starts) rises)), st.lawful);
          writers = writers_set s ds (Wrote v (Collected time closing) ∷ ds) w.writers v y (λ j other. acts_other v j (Collected time closing) ds other) (subst (λ (l : List (Act Entry)). WriterStands (writer_at s v) l y) (sym (acts_more v (Collected time closing) ds)) stays) st.writers;
          nodes = nodes_same s ds (Wrote v (Collected time closing) ∷ ds) w.nodes (λ g. state_collected s ds (fits_at s) st.lawful v time closing (AtGateway g)) st.nodes;
          exports = exports_more s ds (Wrote v (Collected time closing) ∷ ds) w.exports e _ refl refl (record {
            writer = copies.writer ∙ stands.id;
            start = copies.start ∙ stands.start ∙ ap (λ f. start_of f acts) (sym starts);
            time = copies.taken_at;
            points = copies.points ∙ ap (λ (t : Tallied). points_of t.plan.streams t.series) (tally_is s v x first_start acts starts stands.plan stands.tally);
          }) st.exports;
          mails = mails_same s ds (Wrote v (Collected time closing) ∷ ds) w.mails refl (λ n b. refl) st.mails;
          gossip = gossip_rests s ds (Wrote v (Collected time closing)) w.nodes w.mails st.nodes st.mails (λ h. state_collected s ds (fits_at s) st.lawful v time closing h) (λ n. refl) (λ n. answers_wrote s ds v _ n) st.gossip;
        },
        ap (λ n. reply.Made (n + 1)) st.exports.count,
      ))
    where
      latest : (t l : ℕ) → l < t → t ≡ max t l
      latest t l h = omega arith

      closes : (b o : Bool) → o ≡ true → b ≡ not (cond b false o)
      closes true o e = refl
      closes false o e = sym (ap not e)

      tally_is : (s : Setup) (v : ℕ) (x : Written) (f : ℕ) (acts : List (Act Entry)) → slice_index (starts_of s) v ≡ f → x.tally.plan ≡ (writer_at s v).plan → StandsFor x.tally (running f acts)
          → x.tally ≡ record { plan = (writer_at s v).plan; series = round (writer_at s v).plan (running (slice_index (starts_of s) v) acts); held = x.tally.held }
      tally_is s v x f acts starts plan stands n = record {
        plan = plan n;
        held = x.tally.held;
        series = (stands ∙ ap (λ (p : Planned). round p (running f acts)) plan ∙ ap (λ k. round (writer_at s v).plan (running k acts)) (sym starts)) n;
      }

  -- a writer refuses a restart
  pub restart_refused : (start : ℕ) (f : RestartFault) (r : Refusal) → restart_fault x start ≡ Some f → restart_refusal f ≡ Some r → Acts (event.Restart v start) w (reply.Refused r) w
  unfolding restart_fault
  restart_refused start f r refuses told = refused_acts _ w r (λ s ds st.
      let stands = its s ds st in
      let c = st.writers.count in
      let there = here in
      written_there s v _ (omega arith)
      ∙ ap (λ n. guard (nat_lt n start) (refusal.StartNotAfter n) (Ok (Wrote v (Restarted start)))) (sym stands.start)
      ∙ restart_some x.start start f r (Ok (Wrote v (Restarted start))) refuses told)

  restart_is : (start : ℕ) → restart_fault x start ≡ None → (s : Setup) (ds : Deeds) → Stands s ds w → judgement s ds (event.Restart v start) ≡ Ok (Wrote v (Restarted start))
  unfolding restart_fault
  restart_is start accepts s ds st =
      let stands = its s ds st in
      let first_start = (writer_at s v).start in
      let acts = acts_of v ds in
      let now = stands.start in
      let above : x.start < start = restart_none x.start start accepts in
      let c = st.writers.count in
      let there = here in
      written_there s v _ (omega arith) ∙ guard_true _ (refusal.StartNotAfter (start_of first_start acts)) _ (lt-ltb (start_of first_start acts) start (omega arith))

  pub restart_wants : (start : ℕ) → restart_fault x start ≡ None → Wants (event.Restart v start) w
  restart_wants start accepts = accepted_wants _ w (Wrote v (Restarted start)) (restart_is start accepts)

  -- a writer begins anew
  pub restarts : (start : ℕ) (y : Written) → restart_fault x start ≡ None → y ≡ after_restart x start
      → Acts (event.Restart v start) w reply.Done (with_writers w (set w.writers v y))
  unfolding restart_fault
  restarts start y accepts same = accepted_acts _ w (with_writers w (set w.writers v y)) _ (Wrote v (Restarted start)) (λ s ds st.
      let stands = its s ds st in
      let first_start = (writer_at s v).start in
      let acts = acts_of v ds in
      let now = stands.start in
      let above : x.start < start = restart_none x.start start accepts in
      let rises : start_of first_start acts < start = omega arith in
      let starts : slice_index (starts_of s) v ≡ first_start = start_in s.writers v in
      let c = st.writers.count in
      let there = here in
      let none : running first_start (Restarted start ∷ acts) ≡ [] = none_yet first_start (fits_at s v) acts (subst (λ (f : ℕ). AreAccepted (fits_at s v) f acts) starts (acts_accepted (starts_of s) (fits_at s) (gateways_of s) ds st.lawful v)) start rises in
      let stays : WriterStands (writer_at s v) (Restarted start ∷ acts) y = record {
        id = ap (λ (z : Written). z.id) same ∙ stands.id;
        plan = ap (λ (z : Written). z.tally.plan) same ∙ stands.plan;
        tally = subst (StandsFor y.tally) (sym none) (subst (λ (z : Written). StandsFor z.tally []) (sym same) refl);
        start = ap (λ (z : Written). z.start) same;
        last = ap (λ (z : Written). z.last) same;
        closed = ap (λ (z : Written). z.closed) same;
      } in (
        restart_is start accepts s ds st,
        record {
          apart = st.apart;
          plans = st.plans;
          lawful = (((omega (arith, length-map s.writers (λ (z : WriterSetup). z.start))), subst (λ (f : ℕ). start_of f acts < start) (sym starts) rises), st.lawful);
          writers = writers_set s ds (Wrote v (Restarted start) ∷ ds) w.writers v y (λ j other. acts_other v j (Restarted start) ds other) (subst (λ (l : List (Act Entry)). WriterStands (writer_at s v) l y) (sym (acts_more v (Restarted start) ds)) stays) st.writers;
          nodes = nodes_same s ds (Wrote v (Restarted start) ∷ ds) w.nodes (λ g. state_restarted s ds v start (AtGateway g)) st.nodes;
          exports = exports_same s ds (Wrote v (Restarted start) ∷ ds) w.exports refl st.exports;
          mails = mails_same s ds (Wrote v (Restarted start) ∷ ds) w.mails refl (λ n b. refl) st.mails;
          gossip = gossip_rests s ds (Wrote v (Restarted start)) w.nodes w.mails st.nodes st.mails (λ h. state_restarted s ds v start h) (λ n. refl) (λ n. answers_wrote s ds v _ n) st.gossip;
        },
        refl,
      ))
