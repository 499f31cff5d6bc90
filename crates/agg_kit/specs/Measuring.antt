-- What a recording makes of a tally, and why it is refused: by the points of the tally alone.
use Rattle.std.specs.Prelude.{◌≡◌, ◌≢◌, ◌∷◌, [], ℕ, ℤ, Bool, false, List, Option, None, Some, Result, IfErr, OnErr, OnOk, find, fold, map, is_none, slice_get, if◌then◌else◌}
use Rattle.std.specs.List.{enumerate_from}
use Rattle.std.specs.Option.{option_map, option_map_or}
use Rattle.attr_kit.specs.declared.attr_set.AttrSet.{AttrSet}
use Rattle.attr_kit.specs.Keeping.{kept}
use Rattle.attr_kit.specs.Refusing.{first, when}
use Rattle.point_kit.specs.declared.shape.Shape.{Shape}
use Rattle.plan_kit.specs.Plans.{Planned, feeds_of, kind_of, stream_of}
use Rattle.plan_kit.specs.declared.feed.Feed.{Feed}
use Rattle.agg_kit.specs.Entries.{Entry, Arrivals, arrivals_from, entry_of}
use Rattle.agg_kit.specs.Feeding.{overflow_set}
use Rattle.agg_kit.specs.Feeds.{IsHeld, early_feeds, series_at}
use Rattle.agg_kit.specs.Payloads.{is_out_of_range}
use Rattle.agg_kit.specs.Refusals.{is_negative_for}
use Rattle.agg_kit.specs.Rounds.{round}
use Rattle.agg_kit.specs.Steps.{has_point, payload_at, step}
use Rattle.agg_kit.specs.Tallies.{Points, Tallied}
use Rattle.agg_kit.specs.declared.fault.TallyFault.{TallyFault}
use Rattle.agg_kit.specs.declared.fault.TallyFault.TheVariants as faults

-- a tally without points
abbrev pub empty_tally : Planned → Tallied
empty_tally p = record { plan = p; series = round p []; held = [] }

-- a tally that begins anew: what is held stays
abbrev pub emptied_tally : Tallied → Tallied
emptied_tally t = record t { series = round t.plan [] }

-- the points of a stream after what arrives there
abbrev pub points_after : Shape → ℕ → Points → Arrivals → Points
points_after shape limit es xs = fold (λ es x. step shape limit es x.0 x.1) es xs

-- the points of each stream after what a recording's feeds bring there
unfoldable pub series_after : Tallied → Entry → List Points
series_after t e = map (λ s. points_after s.1.shape t.plan.limit (series_at t.series s.0) (arrivals_from s.0 (feeds_of t.plan e.instrument) e.attrs e.value)) (enumerate_from 0 t.plan.streams)

-- a tally after a recording
abbrev pub after_measure : Tallied → Entry → Tallied
after_measure t e = record t { series = series_after t e }

-- the set under whose point a set is counted: its own where it has one, else the overflow set
abbrev pub counted_under : Points → AttrSet → AttrSet
counted_under es a = if has_point es a then a else overflow_set

-- whether the point that a feed brings attributes to is out of range
abbrev pub is_over : Tallied → AttrSet → Feed → Bool
is_over t a f =
    let es = series_at t.series f.stream in
    option_map_or (λ s. is_out_of_range (payload_at s.shape es (counted_under es (kept f.keep a)))) (stream_of t.plan f.stream) false

-- why a recording into these feeds is refused: there is no instrument, or it takes no such value, or after it the point of a feed would be out of range, the first of these feeds
abbrev pub fault_into : Tallied → Entry → List Feed → Option TallyFault
fault_into t e fs =
    first
    (when (is_none (kind_of t.plan e.instrument)) faults.NoInstrument
    ∷ when (is_negative_for (kind_of t.plan e.instrument) e.value) faults.Negative
    ∷ option_map (λ f. faults.Overflow f.stream) (find (is_over (after_measure t e) e.attrs) fs)
    ∷ [])

-- why a recording is refused, memory aside
unfoldable pub fault_of : Tallied → Entry → Option TallyFault
fault_of t e = fault_into t e (feeds_of t.plan e.instrument)

-- the same of the feeds before the first that copies what it keeps of the set: what is looked for before memory is wanted
unfoldable pub early_fault_of : Tallied → Entry → Option TallyFault
early_fault_of t e = fault_into t e (early_feeds e.attrs (feeds_of t.plan e.instrument))

-- what a tally, which is s then, answers to a recording
pub record IsMeasured {U : Type 0} (t s : Tallied) (e : Entry) (told : Result U TallyFault) : Type 0 where
  pub ok : OnOk told (fault_of t e ≡ None)
  pub value : OnOk told (s ≡ after_measure t e)
  pub err : IfErr told (λ f. f ≢ faults.NoMemory → fault_of t e ≡ Some f)
  pub no_memory : IfErr told (λ f. f ≡ faults.NoMemory → early_fault_of t e ≡ None)
  pub held : IsHeld t e → IfErr told (λ f. f ≢ faults.NoMemory)
  pub unchanged : OnErr told (s ≡ t)

-- ---- at held points: what `measure` would do with the n-th instrument and set that are held

abbrev pub held_entry : Tallied → ℕ → ℤ → Option Entry
held_entry t n v = option_map (λ h. entry_of h.0 h.1 v) (slice_get t.held n)

-- a tally after a recording at the n-th held point
abbrev pub after_held : Tallied → ℕ → ℤ → Tallied
after_held t n v = option_map_or (after_measure t) (held_entry t n v) t

-- why it is refused, memory aside: first, that there is no such point
abbrev pub held_fault_of : Tallied → ℕ → ℤ → Option TallyFault
held_fault_of t n v = option_map_or (fault_of t) (held_entry t n v) (Some faults.NoHeld)

-- what of it is looked for before memory is wanted
abbrev pub early_held_fault_of : Tallied → ℕ → ℤ → Option TallyFault
early_held_fault_of t n v = option_map_or (early_fault_of t) (held_entry t n v) (Some faults.NoHeld)
