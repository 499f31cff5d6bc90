-- What refusals carry: the place, or the time, that they are about.
use Rattle.std.specs.Prelude.{◌≡◌, ◌≢◌, ℕ, ℤ, Option, Some, None}
use Rattle.std.specs.Option.{unwrap_or}
use Rattle.agg_kit.specs.declared.fault.TallyFault.TheVariants as tallies
use Rattle.attr_kit.specs.declared.error.AttrFault.{AttrFault}
use Rattle.attr_kit.specs.declared.error.AttrFault.TheVariants as sets
use Rattle.bytes_kit.specs.declared.fault.DecodeFault.{DecodeFault}
use Rattle.bytes_kit.specs.declared.fault.DecodeFault.TheVariants as decodings
use Rattle.otlp_kit.specs.declared.fault.OtlpFault.{OtlpFault}
use Rattle.otlp_kit.specs.declared.fault.OtlpFault.TheVariants as otlps
use Rattle.otlp_kit.specs.declared.request_fault.RequestFault.{RequestFault}
use Rattle.otlp_kit.specs.declared.request_fault.RequestReason.{RequestReason}
use Rattle.otlp_kit.specs.declared.request_fault.RequestReason.TheVariants as reasons
use Rattle.plan_kit.specs.declared.fault.PlanFault.{PlanFault}
use Rattle.plan_kit.specs.declared.fault.PlanFault.TheVariants as plans
use Rattle.writer_kit.specs.declared.fault.CollectFault.{CollectFault}
use Rattle.writer_kit.specs.declared.fault.CollectFault.TheVariants as collections
use Rattle.writer_kit.specs.declared.fault.MeasureFault.{MeasureFault}
use Rattle.writer_kit.specs.declared.fault.MeasureFault.TheVariants as recordings
use Rattle.writer_kit.specs.declared.fault.RestartFault.{RestartFault}
use Rattle.writer_kit.specs.declared.fault.RestartFault.TheVariants as restarts
use Rattle.kit_c.specs.Codes.{no_memory}
use Rattle.kit_c.specs.declared.fault.Fault.{Fault}
use Rattle.kit_c.specs.declared.fault.Fault.TheVariants as faults

abbrev pub recording_place : MeasureFault → Option ℕ
recording_place (recordings.Refused (tallies.Overflow stream)) = Some stream
recording_place other = None

abbrev pub collection_place : CollectFault → Option ℕ
collection_place (collections.TimeNotAfter last) = Some last
collection_place other = None

abbrev pub restart_place : RestartFault → Option ℕ
restart_place (restarts.StartNotAfter start) = Some start
restart_place other = None

abbrev pub attributes_place : AttrFault → Option ℕ
attributes_place (sets.EmptyKey pair) = Some pair
attributes_place other = None

abbrev pub plan_place : PlanFault → Option ℕ
plan_place (plans.BadName i) = Some i
plan_place (plans.BadUnit i) = Some i
plan_place (plans.BadBounds v) = Some v
plan_place (plans.BadRename v) = Some v
plan_place (plans.WildcardRename v) = Some v
plan_place (plans.BadAggregation i v) = Some i
plan_place (plans.SameStream i j) = Some i
plan_place other = None

abbrev pub decoding_place : DecodeFault → Option ℕ
decoding_place (decodings.Truncated at) = Some at
decoding_place (decodings.BadMagic at) = Some at
decoding_place (decodings.BadVersion at) = Some at
decoding_place (decodings.NotCanonical at) = Some at
decoding_place (decodings.NotText at) = Some at
decoding_place (decodings.BadChecksum at) = Some at
decoding_place other = None

abbrev pub otlp_place : OtlpFault → Option ℕ
otlp_place (otlps.BadBounds point) = Some point
otlp_place (otlps.TooManyAttributes point) = Some point
otlp_place other = None

-- of want of memory none
abbrev pub reason_place : RequestReason → ℕ → Option ℕ
reason_place reasons.NoMemory place = None
reason_place other place = Some place

abbrev pub request_place : RequestFault → Option ℕ
request_place f = reason_place f.why f.place

-- the place of a refusal, or the first where it has two
abbrev pub place_of : Fault → Option ℕ
place_of (faults.Measure f) = recording_place f
place_of (faults.Collect f) = collection_place f
place_of (faults.Restart f) = restart_place f
place_of (faults.Attributes f) = attributes_place f
place_of (faults.Plan f) = plan_place f
place_of (faults.ReservedScope i) = Some i
place_of (faults.Decode f) = decoding_place f
place_of (faults.Otlp f) = otlp_place f
place_of (faults.Request f) = request_place f
place_of (faults.ReservedPoint export) = Some export
place_of other = None

-- the second
abbrev pub second_of : Fault → Option ℕ
second_of (faults.Plan (plans.BadAggregation i v)) = Some v
second_of (faults.Plan (plans.SameStream i j)) = Some j
second_of other = None

-- what a caller then reads: what the refusal carries, or what was there
abbrev pub place_after : Option Fault → ℕ → ℕ
place_after None before = before
place_after (Some f) before = unwrap_or (place_of f) before

abbrev pub second_after : Option Fault → ℕ → ℕ
second_after None before = before
second_after (Some f) before = unwrap_or (second_of f) before

-- what a call that answers a code tells: the place of its refusal, and of want of memory none
abbrev pub TellsPlace : ℤ → Option Fault → ℕ → ℕ → Type 0
TellsPlace code refusal before told = (code ≢ no_memory → told ≡ place_after refusal before) × (code ≡ no_memory → told ≡ before)

abbrev pub TellsSecond : ℤ → Option Fault → ℕ → ℕ → Type 0
TellsSecond code refusal before told = (code ≢ no_memory → told ≡ second_after refusal before) × (code ≡ no_memory → told ≡ before)
