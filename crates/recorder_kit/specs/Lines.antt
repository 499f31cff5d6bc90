-- The lines of a log in memory, and the recordings that they stand for.
use Rattle.std.specs.Prelude.{◌≡◌, ◌≢◌, ◌+◌, ◌*◌, ◌<◌, ◌≤◌, ◌^◌, ◌∷◌, [], ℕ, ℤ, List, Result, None, Some, IfErr, OnErr, OnOk, drop, length, map, min, slice_get, slice_index_or}
use Rattle.attr_kit.specs.declared.attr_set.AttrSet.{AttrSet}
use Rattle.agg_kit.specs.Entries.{entry_of}
use Rattle.agg_kit.specs.Held.{AreOf}
use Rattle.agg_kit.specs.declared.fault.TallyFault.{TallyFault}
use Rattle.agg_kit.specs.declared.fault.TallyFault.TheVariants.{NoMemory}
use Rattle.agg_kit.specs.declared.held.Places.{Places}
use Rattle.agg_kit.specs.Tallies.{Tallied}
use Rattle.recorder_kit.specs.Log.{Outcome, Recording, ByName, ByNumber, TakesNoMemory, after_at, early_fault_at, fault_at, or_first}
use Rattle.recorder_kit.specs.declared.line.Line.{Line}
use Rattle.recorder_kit.specs.declared.line.Spot.{Spot}
use Rattle.recorder_kit.specs.declared.line.Spot.TheVariants.{Number, Name}
use Rattle.recorder_kit.specs.declared.line.Named.{Named}
use Rattle.recorder_kit.specs.declared.taken.Taken.{Taken}

abbrev pub nothing_named : Named
nothing_named = record { instrument = 0; set = 0 }

-- the recording of a line, by what is named and the sets
abbrev pub recording_at : List Named → List AttrSet → Spot → ℤ → Recording
recording_at ns ks (Number n) v = ByNumber n v
recording_at ns ks (Name j) v =
    let m = slice_index_or ns j nothing_named in
    ByName (entry_of m.instrument (slice_index_or ks m.set []) v)

abbrev pub recording_of : List Named → List AttrSet → Line → Recording
recording_of ns ks l = recording_at ns ks l.at l.value

abbrev pub recordings_of : List Named → List AttrSet → List Line → List Recording
recordings_of ns ks ls = map (recording_of ns ks) ls

-- an instrument with a set is named at a place
abbrev pub IsNamed : List Named → List AttrSet → ℕ → ℕ → AttrSet → Type 0
IsNamed ns ks j i a = (k : ℕ) × (slice_get ns j ≡ Some (record { instrument = i; set = k })) × (slice_get ks k ≡ Some a)

-- what stands in a list stands in another at the same place
abbrev pub AllStay : {X : Type 0} → List X → List X → Type 0
AllStay {X = X} xs ys = (i : ℕ) (x : X) → slice_get xs i ≡ Some x → slice_get ys i ≡ Some x

-- what was named stays, and at most one pair and one set are named more
pub record Grown (ns ms : List Named) (ks js : List AttrSet) : Type 0 where
  pub names : AllStay ns ms
  pub sets : AllStay ks js
  pub one_name : length ms ≤ length ns + 1
  pub one_set : length js ≤ length ks + 1

-- how many pairs, and how many sets, a log of a capacity may keep named: a place has 32 bits
abbrev pub most_named : ℕ → ℕ
most_named capacity = min (2 * capacity) (2 ^ 32)

-- what a line names is there
abbrev pub IsThere : List Named → List AttrSet → Spot → Type 0
IsThere ns ks (Number n) = Unit {0}
IsThere ns ks (Name j) = (j < length ns) × ((slice_index_or ns j nothing_named).set < length ks)

abbrev pub AllThere : List Named → List AttrSet → List Line → Type 0
AllThere ns ks [] = Unit {0}
AllThere ns ks (l ∷ ls) = IsThere ns ks l.at × AllThere ns ks ls

-- of a log, of which the first lines were given away: what is left names what is there, it has room for twice its capacity, and what is
-- named is not more than twice the capacity
pub record IsWhole (capacity room given : ℕ) (ls : List Line) (ns : List Named) (ks : List AttrSet) : Type 0 where
  pub there : AllThere ns ks (drop given ls)
  pub memory : 2 * capacity ≤ room
  pub within : given ≤ length ls
  pub few_names : length ns ≤ most_named capacity
  pub few_sets : length ks ≤ most_named capacity

-- what is known of the places of each name is true of a tally
abbrev pub AllKnown : Tallied → List Named → List AttrSet → List Places → Type 0
AllKnown t ns ks ps =
    (j : ℕ) (p : Places) → slice_get ps j ≡ Some p → let m = slice_index_or ns j nothing_named in
    AreOf t m.instrument (slice_index_or ks m.set []) p

-- what a tally, which is s then, answers to a recording
pub record IsAnswered {U : Type 0} (t s : Tallied) (r : Recording) (told : Result U TallyFault) : Type 0 where
  pub ok : OnOk told (fault_at t r ≡ None)
  pub value : OnOk told (s ≡ after_at t r)
  pub err : IfErr told (λ f. f ≢ NoMemory → fault_at t r ≡ Some f)
  pub no_memory : IfErr told (λ f. f ≡ NoMemory → early_fault_at t r ≡ None)
  pub held : TakesNoMemory t r → IfErr told (λ f. f ≢ NoMemory)
  pub unchanged : OnErr told (s ≡ t)

-- a tally and what is told of a log that was taken in
abbrev pub outcome_of : Tallied → Taken → Outcome
outcome_of t k = record { tally = t; recorded = k.recorded; refused = k.refused; first = k.first }

-- what is told with one recording more, which was recorded or refused
abbrev pub with_recorded : Taken → Taken
with_recorded k = record k { recorded = k.recorded + 1 }

abbrev pub with_refused : Taken → TallyFault → Taken
with_refused k f = record k { refused = k.refused + 1; first = or_first k.first (k.recorded + k.refused, f) }
