-- How jobs end, and which reason is told where one stops short.
use Rattle.std.specs.Prelude.{◌≡◌, ◌<◌, ◌+◌, ◌++◌, ℕ, Bool, true, false, List, length, slice_get, take, Option, None, Some}
use Rattle.agg_kit.specs.Entries.{Entry}
use Rattle.plan_kit.specs.Plans.{Planned}
use Rattle.schedule_kit.specs.Mixed.{AreMixed}
use Rattle.schedule_kit.specs.Schedule.{Act, AreAccepted, running}
use Rattle.writer_kit.specs.Following.{fits}
use Rattle.writer_kit.specs.Written.{Written}
use Rattle.fleet_kit.specs.Halts.{is_before}
use Rattle.fleet_kit.specs.Jobs.{entries}
use Rattle.fleet_kit.specs.declared.halt.Halt.{Halt}
use Rattle.fleet_kit.specs.declared.halt.Halt.TheVariants.{GateShut, Refused, NoThread, Missing, NoMemory}
use Rattle.fleet_kit.specs.declared.setup.Job.{Job}

-- A writer of this plan and start has recorded these entries, among others: each event of its schedule was accepted after those before it.
pub record HasRecorded (plan : Planned) (start : ℕ) (es : List Entry) : Type 0 where
  pub acts : List (Act Entry)
  pub accepted : AreAccepted (fits plan) start acts
  pub others : List Entry
  pub among : AreMixed (running start acts) (es ++ others)

-- the same of one that began as this one
abbrev pub HasRecordedFrom : Written → List Entry → Type 0
HasRecordedFrom first es = HasRecorded first.tally.plan first.start es

-- it has, and refuses this entry then
pub record HasRefused (plan : Planned) (start : ℕ) (es : List Entry) (e : Entry) : Type 0 where
  pub recorded : HasRecorded plan start es
  pub refused : fits plan (running start recorded.acts) e ≡ false

module _ (passes : ℕ → ℕ → Bool → Type 0) where
  -- the gate let the first n entries of a job pass
  abbrev pub LetPass : ℕ → ℕ → Type 0
  LetPass job n = (entry : ℕ) → entry < n → passes job entry true

  -- How a job with this number ended at a writer of this plan and start: each entry passed the gate and was recorded; or the entries before
  -- one were, and the gate let that one not pass, or the plan refuses it; or it was not run, or memory was wanting.
  abbrev pub EndsAs : Planned → ℕ → ℕ → Job → Option Halt → Type 0
  EndsAs plan start n j None = LetPass n (length j.entries.items) × HasRecorded plan start (entries j)
  EndsAs plan start n j (Some (GateShut job)) =
      (job ≡ n) × (entry : ℕ) × (entry < length j.entries.items) × LetPass n entry × passes n entry false × HasRecorded plan start (take entry (entries j))
  EndsAs plan start n j (Some (Refused job entry)) = (job ≡ n) × (e : Entry) × (slice_get (entries j) entry ≡ Some e) × LetPass n (entry + 1) × HasRefused plan start (take entry (entries j)) e
  EndsAs plan start n j (Some NoThread) = Unit {0}
  EndsAs plan start n j (Some (Missing gateway writer)) = ⊥
  EndsAs plan start n j (Some NoMemory) = Unit {0}

  abbrev pub EndsFrom : Written → ℕ → Job → Option Halt → Type 0
  EndsFrom first n j o = EndsAs first.tally.plan first.start n j o

  -- it ended in some way that does not come before this reason
  pub record EndsBehind (told : Halt) (plan : Planned) (start n : ℕ) (j : Job) : Type 0 where
    pub end : Option Halt
    pub ends : EndsAs plan start n j end
    pub behind : (h : Halt) → end ≡ Some h → is_before h told ≡ false

  -- the plan and the start of each writer, by its place, which writers are meant, and all jobs
  module _ (plan : ℕ → Planned) (start : ℕ → ℕ) (here : ℕ → Type 0) (jobs : List Job) where
    -- the job stands at this place, and is one of theirs
    abbrev pub IsJobOf : ℕ → Job → Type 0
    IsJobOf n j = (slice_get jobs n ≡ Some j) × here j.writer

    -- each of their jobs recorded all its entries
    abbrev pub AllEnd : Type 0
    AllEnd = (n : ℕ) (j : Job) → IsJobOf n j → EndsAs (plan j.writer) (start j.writer) n j None

    -- the job at this place is one of theirs, and ended so
    abbrev pub EndedAs : ℕ → Halt → Type 0
    EndedAs n told = (j : Job) × IsJobOf n j × EndsAs (plan j.writer) (start j.writer) n j (Some told)

    -- a job's reason is that of a job of theirs
    abbrev pub IsOfJob : Halt → Type 0
    IsOfJob (GateShut job) = EndedAs job (GateShut job)
    IsOfJob (Refused job entry) = EndedAs job (Refused job entry)
    IsOfJob NoThread = Unit {0}
    IsOfJob (Missing gateway writer) = ⊥
    IsOfJob NoMemory = Unit {0}

    -- Their recording stopped short for this reason: where it is a job's, one of theirs ended so, and each of them ended in some way that
    -- does not come before it.
    pub record StopsShort (told : Halt) : Type 0 where
      pub own : IsOfJob told
      pub each : (n : ℕ) (j : Job) → IsJobOf n j → EndsBehind told (plan j.writer) (start j.writer) n j

  -- the same of the jobs of one writer, which began as `first`
  abbrev pub AllEndFrom : Written → ℕ → List Job → Type 0
  AllEndFrom first place jobs = AllEnd (λ _. first.tally.plan) (λ _. first.start) (λ w. w ≡ place) jobs

  abbrev pub StopsShortFrom : Written → ℕ → List Job → Halt → Type 0
  StopsShortFrom first place jobs = StopsShort (λ _. first.tally.plan) (λ _. first.start) (λ w. w ≡ place) jobs
