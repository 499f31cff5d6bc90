-- Why threads of a fleet may stop, from one to all.
use Rattle.std.proofs.Common.{◌≡◌, ◌⊎◌, inl, inr, ℕ, zero, suc, ◌<◌, Bool, false, List, [], ◌∷◌, map, length, slice_get, slice_index_or, Option, Some, None, refl, sym, ap, subst, ◌∙◌, arith}
use Rattle.std.specs.Prelude.{All, IfErr, IfOk, IsErrAnd, Result, Ok, Err}
use Rattle.agg_kit.proofs.Rounds.{there}
use Rattle.plan_kit.specs.Plans.{Planned}
use Rattle.point_kit.specs.declared.export.Export.{Export}
use Rattle.schedule_kit.specs.Members.{In}
use Rattle.fleet_kit.proofs.Exports.{answers_each, got}
use Rattle.fleet_kit.proofs.Halts.{further}
use Rattle.fleet_kit.specs.Checks.{setup_fault}
use Rattle.fleet_kit.specs.Ends.{AllEnd, EndsAs, EndsBehind, IsJobOf, IsOfJob, StopsShort}
use Rattle.fleet_kit.specs.Faults.{fault_of_halt, IsLate}
use Rattle.fleet_kit.specs.Halts.{is_before, rank, IsFirst}
use Rattle.fleet_kit.specs.Serving.{StopsGateway, StopsServing}
use Rattle.fleet_kit.specs.Setups.{plan_at, start_at, AllEnded, AreExportsAt, StopsFleet}
use Rattle.fleet_kit.specs.declared.fault.FleetFault.{FleetFault}
use Rattle.fleet_kit.specs.declared.halt.Halt.{Halt}
use Rattle.fleet_kit.specs.declared.halt.Halt.TheVariants.{GateShut, Refused, NoThread, Missing, NoMemory}
use Rattle.fleet_kit.specs.declared.setup.FleetSetup.{FleetSetup}
use Rattle.fleet_kit.specs.declared.setup.Job.{Job}

no_reason : (h : Halt) → None ≡ Some h → ⊥
no_reason h e = cc e

same_reason : (a b : Halt) → Some a ≡ Some b → a ≡ b
same_reason a b e = cc e

same_job : (a b : Job) → Some a ≡ Some b → a ≡ b
same_job a b e = cc e

-- what a list's elements have, which agree with another's in number and job
all_carried : {A B : Type 0} (n : A → ℕ) (j : A → Job) (n' : B → ℕ) (j' : B → Job) (R : ℕ → Job → Type 0) (ds : List A) (rs : List B) → map n ds ≡ map n' rs → map j ds ≡ map j' rs → All (λ r. R (n' r) (j' r)) rs → All (λ d. R (n d) (j d)) ds
all_carried n j n' j' R [] rs ns js each = λ k d less. absurd (omega (arith, less))
all_carried n j n' j' R (d ∷ ds) [] ns js each = cc ns
all_carried n j n' j' R (d ∷ ds) (r ∷ rs) ns js each =
    let same : n d ≡ n' r = cc ns in
    let job : j d ≡ j' r = cc js in
    let rest : map n ds ≡ map n' rs = cc ns in
    let jobs : map j ds ≡ map j' rs = cc js in
    all_cons (λ d. R (n d) (j d)) d ds (subst (λ (x : ℕ × Job). R x.0 x.1) (λ i. (sym same i, sym job i)) (each 0 r (omega arith)))
    (all_carried n j n' j' R ds rs rest jobs (λ k e less. each (suc k) e (omega (arith, less))))
  where
    all_cons : {X : Type 0} (P : X → Type 0) (x : X) (xs : List X) → P x → All P xs → All P (x ∷ xs)
    all_cons P x xs p ps zero d less = p
    all_cons P x xs p ps (suc k) d less = ps k d (omega (arith, less))

-- ---- the jobs of one writer

module _ (passes : ℕ → ℕ → Bool → Type 0) (plan : Planned) (start place : ℕ) (jobs : List Job) where
  abbrev Here : ℕ → Type 0
  Here w = w ≡ place

  -- a job of this writer, by its number, which ended so
  abbrev HasEnded : ℕ → Job → Option Halt → Type 0
  HasEnded n j o = (slice_get jobs n ≡ Some j) × (j.writer ≡ place) × EndsAs passes plan start n j o

  module _ {A : Type 0} (number : A → ℕ) (job : A → Job) (fault : A → Option Halt) where
    -- the job of a number is among those that were done
    found : (ds : List A) → All (λ d. HasEnded (number d) (job d) (fault d)) ds → (n : ℕ) (j : Job) → slice_get jobs n ≡ Some j → In n (map number ds) → (o : Option Halt) × EndsAs passes plan start n j o × In o (map fault ds)
    found [] each n j at i = absurd i
    found (d ∷ ds) each n j at (inl is) =
        let e = each 0 d (omega arith) in
        let its : job d ≡ j = same_job (job d) j (sym e.0 ∙ ap (slice_get jobs) (sym is) ∙ at) in
        (fault d, subst (λ (x : ℕ × Job). EndsAs passes plan start x.0 x.1 (fault d)) (λ i. (sym is i, its i)) e.2, inl refl)
    found (d ∷ ds) each n j at (inr i) = let r = found ds (λ k e less. each (suc k) e (omega (arith, less))) n j at i in (r.0, r.1, inr r.2)

    -- one that ended for this reason
    ended_for : (ds : List A) → All (λ d. HasEnded (number d) (job d) (fault d)) ds → (h : Halt) → In (Some h) (map fault ds) → (n : ℕ) × (j : Job) × HasEnded n j (Some h)
    ended_for [] each h i = absurd i
    ended_for (d ∷ ds) each h (inl is) = let e = each 0 d (omega arith) in (number d, job d, (e.0, e.1, subst (EndsAs passes plan start (number d) (job d)) (sym is) e.2))
    ended_for (d ∷ ds) each h (inr i) = ended_for ds (λ k e less. each (suc k) e (omega (arith, less))) h i

    -- each that was done ended so, where it has the number and the job of one that was seated
    pub each_ended : {B : Type 0} (number' : B → ℕ) (job' : B → Job) (ds : List A) (rs : List B) → map number ds ≡ map number' rs → map job ds ≡ map job' rs → All (λ r. (slice_get jobs (number' r) ≡ Some (job' r)) × ((job' r).writer ≡ place)) rs
        → All (λ d. EndsAs passes plan start (number d) (job d) (fault d)) ds → All (λ d. HasEnded (number d) (job d) (fault d)) ds
    each_ended number' job' ds rs ns js seated ends =
        let carried = all_carried number job number' job' (λ n j. (slice_get jobs n ≡ Some j) × (j.writer ≡ place)) ds rs ns js seated in
        λ k d less. let a = carried k d less in (a.0, a.1, ends k d less)

    -- where none stopped short, each ended well
    pub jobs_end : (ds : List A) → All (λ d. HasEnded (number d) (job d) (fault d)) ds → ((n : ℕ) (j : Job) → slice_get jobs n ≡ Some j → j.writer ≡ place → In n (map number ds)) → IsFirst (λ h. In (Some h) (map fault ds)) None
        → AllEnd passes (λ _. plan) (λ _. start) Here jobs
    jobs_end ds each whole none n j is = let r = found ds each n j is.0 (whole n j is.0 is.1) in well r.0 r.1 r.2
      where
        well : (o : Option Halt) → EndsAs passes plan start n j o → In o (map fault ds) → EndsAs passes plan start n j None
        well None e i = e
        well (Some h) e i = absurd (none h i)

    -- else the first reason is told
    pub jobs_stop : (ds : List A) → All (λ d. HasEnded (number d) (job d) (fault d)) ds → ((n : ℕ) (j : Job) → slice_get jobs n ≡ Some j → j.writer ≡ place → In n (map number ds)) → (told : Halt) → IsFirst (λ h. In (Some h) (map fault ds)) (Some told)
        → StopsShort passes (λ _. plan) (λ _. start) Here jobs told
    jobs_stop ds each whole told first = record {
      own = own told (ended_for ds each told first.0);
      each = λ n j is. let r = found ds each n j is.0 (whole n j is.0 is.1) in record {
        end = r.0;
        ends = r.1;
        behind = λ h e. first.1 h (subst (λ (o : Option Halt). In o (map fault ds)) e r.2);
      };
    }
      where
        own : (h : Halt) → ((n : ℕ) × (j : Job) × HasEnded n j (Some h)) → IsOfJob passes (λ _. plan) (λ _. start) Here jobs h
        own (GateShut job) e = let same = e.2.2.0 in (e.1, (ap (slice_get jobs) same ∙ e.2.0, e.2.1), subst (λ (m : ℕ). EndsAs passes plan start m e.1 (Some (GateShut job))) (sym same) e.2.2)
        own (Refused job entry) e = let same = e.2.2.0 in (e.1, (ap (slice_get jobs) same ∙ e.2.0, e.2.1), subst (λ (m : ℕ). EndsAs passes plan start m e.1 (Some (Refused job entry))) (sym same) e.2.2)
        own NoThread e = tt
        own (Missing gateway writer) e = absurd e.2.2
        own NoMemory e = tt

-- ---- jobs that were not run, or that all ended well

module _ (passes : ℕ → ℕ → Bool → Type 0) (plan : ℕ → Planned) (start : ℕ → ℕ) (here : ℕ → Type 0) (jobs : List Job) where
  -- it is of threads or of memory
  abbrev pub IsOfNone : Halt → Type 0
  IsOfNone h = (h ≡ NoThread) ⊎ (h ≡ NoMemory)

  pub not_run : (told : Halt) → IsOfNone told → StopsShort passes plan start here jobs told
  not_run told (inl is) = subst (StopsShort passes plan start here jobs) (sym is) (record {
    own = tt;
    each = λ n j at. record { end = Some NoThread; ends = tt; behind = λ h e. subst (λ (x : Halt). is_before x NoThread ≡ false) (same_reason NoThread h e) refl };
  })
  not_run told (inr is) = subst (StopsShort passes plan start here jobs) (sym is) (record {
    own = tt;
    each = λ n j at. record { end = Some NoMemory; ends = tt; behind = λ h e. subst (λ (x : Halt). is_before x NoMemory ≡ false) (same_reason NoMemory h e) refl };
  })

  pub well_run : AllEnd passes plan start here jobs → (told : Halt) → IsOfNone told → StopsShort passes plan start here jobs told
  well_run well told is = record {
    own = elim is [ inl e ↦ subst (IsOfJob passes plan start here jobs) (sym e) tt | inr e ↦ subst (IsOfJob passes plan start here jobs) (sym e) tt ];
    each = λ n j at. record { end = None; ends = well n j at; behind = λ h e. absurd (no_reason h e) };
  }

-- the same, of a writer that began as the setup says
module _ (passes : ℕ → ℕ → Bool → Type 0) (s : FleetSetup) (place : ℕ) (plan : Planned) (start : ℕ) (p : plan ≡ plan_at s place) (q : start ≡ start_at s place) where
  both : (j : Job) → j.writer ≡ place → ◌≡◌ {A = Planned × ℕ} (plan, start) (plan_at s j.writer, start_at s j.writer)
  both j here = λ i. ((p ∙ ap (plan_at s) (sym here)) i, (q ∙ ap (start_at s) (sym here)) i)

  pub setup_ends : AllEnd passes (λ _. plan) (λ _. start) (λ w. w ≡ place) s.jobs.items → AllEnd passes (plan_at s) (start_at s) (λ w. w ≡ place) s.jobs.items
  setup_ends well n j is = subst (λ (x : Planned × ℕ). EndsAs passes x.0 x.1 n j None) (both j is.1) (well n j is)

  pub setup_stops : (told : Halt) → StopsShort passes (λ _. plan) (λ _. start) (λ w. w ≡ place) s.jobs.items told → StopsShort passes (plan_at s) (start_at s) (λ w. w ≡ place) s.jobs.items told
  setup_stops told stops = record {
    own = own told stops.own;
    each = λ n j is. subst (λ (x : Planned × ℕ). EndsBehind passes told x.0 x.1 n j) (both j is.1) (stops.each n j is);
  }
    where
      own : (h : Halt) → IsOfJob passes (λ _. plan) (λ _. start) (λ w. w ≡ place) s.jobs.items h → IsOfJob passes (plan_at s) (start_at s) (λ w. w ≡ place) s.jobs.items h
      own (GateShut job) e = (e.0, e.1, subst (λ (x : Planned × ℕ). EndsAs passes x.0 x.1 job e.0 (Some (GateShut job))) (both e.0 e.1.1) e.2)
      own (Refused job entry) e = (e.0, e.1, subst (λ (x : Planned × ℕ). EndsAs passes x.0 x.1 job e.0 (Some (Refused job entry))) (both e.0 e.1.1) e.2)
      own NoThread e = tt
      own (Missing gateway writer) e = e
      own NoMemory e = tt

-- ---- the jobs of all writers

stands : {A : Type 0} (xs : List A) (k : ℕ) (d x : A) → k < length xs → slice_index_or xs k d ≡ x → In x xs
stands [] k d x less is = absurd (omega (arith, less))
stands (y ∷ xs) zero d x less is = inl (sym is)
stands (y ∷ xs) (suc k) d x less is = inr (stands xs k d x (omega (arith, less)) is)

place_of : {A : Type 0} (xs : List A) (x : A) → In x xs → (k : ℕ) × (k < length xs) × ((d : A) → slice_index_or xs k d ≡ x)
place_of [] x i = absurd i
place_of (y ∷ xs) x (inl is) = (0, omega arith, λ d. sym is)
place_of (y ∷ xs) x (inr i) = let r = place_of xs x i in let less = r.1 in (suc r.0, omega (arith, less), r.2)

module _ (passes : ℕ → ℕ → Bool → Type 0) (s : FleetSetup) where
  abbrev pub EndAt : ℕ → Type 0
  EndAt w = AllEnd passes (plan_at s) (start_at s) (λ v. v ≡ w) s.jobs.items

  abbrev pub StopAt : ℕ → Halt → Type 0
  StopAt w = StopsShort passes (plan_at s) (start_at s) (λ v. v ≡ w) s.jobs.items

  module _ (rs : List (Result Export Halt)) (long : length rs ≡ length s.writers.items) (oks : (w : ℕ) (d : Result Export Halt) → w < length s.writers.items → IfOk (slice_index_or rs w d) (λ _. EndAt w)) where
    pub fleet_ends : (es : List Export) → map Ok es ≡ rs → AllEnded passes s
    fleet_ends es are n j is =
        let r = answers_each (λ w e. EndAt w) rs es (length s.writers.items) are long oks in
        let count = r.0 in
        let less = is.1 in
        let x = there es j.writer (omega (arith, count, less)) in
        r.1 j.writer x.0 x.1 n j (is.0, refl)

    pub fleet_stops : ((w : ℕ) (d : Result Export Halt) → w < length s.writers.items → IfErr (slice_index_or rs w d) (StopAt w)) → (told : Halt) → IsFirst (λ h. In (Err h) rs ⊎ (h ≡ NoMemory)) (Some told) → StopsFleet passes s told
    fleet_stops errs told first = record {
      own = elim first.0 [
        | inl i ↦
            let r = place_of rs (Err told) i in
            let less : r.0 < length s.writers.items = (let l = r.1 in omega (arith, l, long)) in
            let stops : StopAt r.0 told = subst (λ (x : Result Export Halt). IfErr x (StopAt r.0)) (r.2 (Err told)) (errs r.0 (Err told) less) in
            widen told r.0 less stops.own
        | inr e ↦ subst (IsOfJob passes (plan_at s) (start_at s) (λ w. w < length s.writers.items) s.jobs.items) (sym e) tt
      ];
      each = λ n j is. at n j is (slice_index_or rs j.writer (Err NoMemory)) refl (oks j.writer (Err NoMemory) is.1) (errs j.writer (Err NoMemory) is.1);
    }
      where
        widen : (h : Halt) (w : ℕ) → w < length s.writers.items → IsOfJob passes (plan_at s) (start_at s) (λ v. v ≡ w) s.jobs.items h → IsOfJob passes (plan_at s) (start_at s) (λ v. v < length s.writers.items) s.jobs.items h
        widen (GateShut job) w less e = (e.0, (e.1.0, (let same = e.1.1 in omega (arith, same, less))), e.2)
        widen (Refused job entry) w less e = (e.0, (e.1.0, (let same = e.1.1 in omega (arith, same, less))), e.2)
        widen NoThread w less e = tt
        widen (Missing gateway writer) w less e = e
        widen NoMemory w less e = tt

        at : (n : ℕ) (j : Job) → IsJobOf passes (plan_at s) (start_at s) (λ v. v < length s.writers.items) s.jobs.items n j → (r : Result Export Halt) → slice_index_or rs j.writer (Err NoMemory) ≡ r → IfOk r (λ _. EndAt j.writer) → IfErr r (StopAt j.writer)
            → EndsBehind passes told (plan_at s j.writer) (start_at s j.writer) n j
        at n j is (Ok e) r ok err = record { end = None; ends = ok n j (is.0, refl); behind = λ h e. absurd (no_reason h e) }
        at n j is (Err h) r ok err =
            let x = err.each n j (is.0, refl) in
            let less = is.1 in
            let i = stands rs j.writer (Err NoMemory) (Err h) (omega (arith, less, long)) r in
            record { end = x.end; ends = x.ends; behind = λ g e. further (rank g) (rank h) (rank told) (x.behind g e) (first.1 h (inl i)) }

-- what is told of results is a reason that each may have
pub gathered_stops : {T : Type 0} (P : Halt → Type 0) (rs : List (Result T Halt)) → ((i : ℕ) (d : Result T Halt) → i < length rs → IfErr (slice_index_or rs i d) P) → P NoMemory
    → (told : Halt) → IsFirst (λ h. In (Err h) rs ⊎ (h ≡ NoMemory)) (Some told) → P told
gathered_stops {T} P rs each memory told is = elim is.0 [ inl i ↦ by rs each told i | inr e ↦ subst P (sym e) memory ]
  where
    by : (rs : List (Result T Halt)) → ((i : ℕ) (d : Result T Halt) → i < length rs → IfErr (slice_index_or rs i d) P) → (h : Halt) → In (Err h) rs → P h
    by [] each h i = absurd i
    by (r ∷ rs) each h (inl is) = subst (λ (x : Result T Halt). IfErr x P) (sym is) (each 0 r (omega arith))
    by (r ∷ rs) each h (inr rest) = by rs (λ i d less. each (suc i) d (omega (arith, less))) h rest

-- an error that is told is one of these
pub told_err : {A : Type 0} (r : Result A Halt) (h : Halt) (P : Halt → Type 0) → IsErrAnd r (λ e. e ≡ h) → P h → IfErr r P
told_err (Ok a) h P is p = tt
told_err (Err e) h P is p = subst P (sym is) p

pub ok_always : {A E : Type 0} (r : Result A E) (P : Type 0) → P → IfOk r (λ _. P)
ok_always (Ok a) P p = p
ok_always (Err e) P p = tt

-- what follows where there is no answer
pub err_then : {A E : Type 0} (r : Result A E) (P Q : E → Type 0) → ((e : E) → P e → Q e) → IfErr r P → IfErr r Q
err_then (Ok a) P Q h p = tt
err_then (Err e) P Q h p = h e p

-- ---- gateways, and what is told in the end

-- a gateway that could not be told, among all
pub lacking_stops : (exports : List Export) (ids : List ℕ) (place id : ℕ) (unsent : Option ℕ) (h : Halt) → slice_get ids place ≡ Some id → StopsGateway exports place id unsent h → StopsServing exports ids h
lacking_stops exports ids place id unsent (GateShut job) at s = absurd s
lacking_stops exports ids place id unsent (Refused job entry) at s = absurd s
lacking_stops exports ids place id unsent NoThread at s = absurd s
lacking_stops exports ids place id unsent (Missing gateway writer) at s = (id, ap (slice_get ids) s.0 ∙ at, s.2)
lacking_stops exports ids place id unsent NoMemory at s = tt

-- faults of jobs, and of gateways, are late ones of the setup
module _ (passes : ℕ → ℕ → Bool → Type 0) (s : FleetSetup) where
  pub recording_is_late : (h : Halt) → StopsFleet passes s h → IsLate passes s (fault_of_halt h)
  recording_is_late (GateShut job) h = h
  recording_is_late (Refused job entry) h = h
  recording_is_late NoThread h = h
  recording_is_late (Missing gateway writer) h = absurd h.own
  recording_is_late NoMemory h = h

  pub serving_is_late : (exports : List Export) (h : Halt) → AreExportsAt s exports → AllEnded passes s → StopsServing exports s.gateways.items h → IsLate passes s (fault_of_halt h)
  serving_is_late exports (GateShut job) are ended h = absurd h
  serving_is_late exports (Refused job entry) are ended h = absurd h
  serving_is_late exports NoThread are ended h = absurd h
  serving_is_late exports (Missing gateway writer) are ended h =
      let lacks = h.2 in
      let less = (got exports writer lacks.export lacks.at).0 in
      let count = are.count in
      ((got s.gateways.items gateway h.0 h.1).0, (omega (arith, less, count), lacks.export, are.each writer lacks.export lacks.at, lacks.points), ended)
  serving_is_late exports NoMemory are ended h = well_run passes (plan_at s) (start_at s) (λ w. w < length s.writers.items) s.jobs.items ended NoMemory (inr refl)

  -- a late fault, where the setup has none
  pub late_fault : {A : Type 0} (r : Result A FleetFault) (h : Halt) → IsErrAnd r (λ f. f ≡ fault_of_halt h) → setup_fault s ≡ None → IsLate passes s (fault_of_halt h)
      → IfErr r (λ f. (setup_fault s ≡ Some f) ⊎ ((setup_fault s ≡ None) × IsLate passes s f))
  late_fault (Ok a) h is none late = tt
  late_fault (Err f) h is none late = inr (none, subst (IsLate passes s) (sym is) late)
