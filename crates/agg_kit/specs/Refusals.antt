-- Why a recording is refused, by the recordings before it.
use Rattle.std.specs.Prelude.{◌∷◌, [], ◌++◌, ◌&&◌, ℤ, pos, int_lt, Bool, false, List, Option, Some, None, find, is_none}
use Rattle.std.specs.Option.{option_map, option_map_or}
use Rattle.attr_kit.specs.declared.attr_set.AttrSet.{AttrSet}
use Rattle.attr_kit.specs.Refusing.{first, when}
use Rattle.attr_kit.specs.Keeping.{kept}
use Rattle.plan_kit.specs.Plans.{Planned, feeds_of, kind_of, stream_of, only_rises}
use Rattle.plan_kit.specs.declared.feed.Feed.{Feed}
use Rattle.plan_kit.specs.declared.instrument.Kind.{Kind}
use Rattle.agg_kit.specs.Entries.{Entry, arrivals}
use Rattle.agg_kit.specs.Feeding.{own_sets, goes_to, fed}
use Rattle.agg_kit.specs.Payloads.{payload_of, is_out_of_range}
use Rattle.agg_kit.specs.Rounds.{values_of}
use Rattle.agg_kit.specs.declared.fault.TallyFault.{TallyFault}
use Rattle.agg_kit.specs.declared.fault.TallyFault.TheVariants as faults

-- whether a value is below 0 where the instrument takes none
abbrev pub is_negative_for : Option Kind → ℤ → Bool
is_negative_for None v = false
is_negative_for (Some kind) v = only_rises kind && int_lt v (pos 0)

-- whether the point that a feed brings attributes to is out of range after the recordings h
abbrev pub overflows : Planned → List Entry → AttrSet → Feed → Bool
overflows p h a f =
    let set = goes_to (own_sets p.limit (arrivals p f.stream h)) (kept f.keep a) in
    option_map_or (λ s. is_out_of_range (payload_of s.shape (values_of (fed p f.stream h) set))) (stream_of p f.stream) false

-- the refusals in the order of their numbers; of the feeds, the first whose point would be out of range with this recording
abbrev pub measure_faults : Planned → List Entry → Entry → List (Option TallyFault)
measure_faults p h e =
    (when (is_none (kind_of p e.instrument)) faults.NoInstrument
    ∷ when (is_negative_for (kind_of p e.instrument) e.value) faults.Negative
    ∷ option_map (λ f. faults.Overflow f.stream) (find (overflows p (h ++ e ∷ []) e.attrs) (feeds_of p e.instrument))
    ∷ [])

-- the first refusal that fits a recording after the recordings h
unfoldable pub first_refusal : Planned → List Entry → Entry → Option TallyFault
first_refusal p h e = first (measure_faults p h e)
