-- The code of each refusal.
use Rattle.std.specs.Prelude.{ℤ, pos}
use Rattle.agg_kit.specs.declared.fault.TallyFault.TheVariants as tallies
use Rattle.archive_kit.specs.declared.adopt_fault.AdoptFault.{AdoptFault}
use Rattle.archive_kit.specs.declared.adopt_fault.AdoptFault.TheVariants as adoptions
use Rattle.archive_kit.specs.declared.export_refusal.ExportRefusal.{ExportRefusal}
use Rattle.archive_kit.specs.declared.export_refusal.ExportRefusal.TheVariants as archivings
use Rattle.archive_kit.specs.declared.seal_refusal.SealRefusal.{SealRefusal}
use Rattle.archive_kit.specs.declared.seal_refusal.SealRefusal.TheVariants as sealings
use Rattle.attr_kit.specs.declared.error.AttrFault.{AttrFault}
use Rattle.attr_kit.specs.declared.error.AttrFault.TheVariants as sets
use Rattle.plan_kit.specs.declared.fault.PlanFault.{PlanFault}
use Rattle.plan_kit.specs.declared.fault.PlanFault.TheVariants as plans
use Rattle.bytes_kit.specs.declared.fault.DecodeFault.{DecodeFault}
use Rattle.bytes_kit.specs.declared.fault.DecodeFault.TheVariants as decodings
use Rattle.gossip_kit.specs.declared.fault.HandFault.{HandFault}
use Rattle.gossip_kit.specs.declared.fault.HandFault.TheVariants as hands
use Rattle.otlp_kit.specs.declared.fault.OtlpFault.{OtlpFault}
use Rattle.otlp_kit.specs.declared.fault.OtlpFault.TheVariants as otlps
use Rattle.otlp_kit.specs.declared.request_fault.RequestFault.{RequestFault}
use Rattle.otlp_kit.specs.declared.request_fault.RequestReason.{RequestReason}
use Rattle.otlp_kit.specs.declared.request_fault.RequestReason.TheVariants as reasons
use Rattle.recorder_kit.specs.declared.fault.RecordFault.{RecordFault}
use Rattle.recorder_kit.specs.declared.fault.RecordFault.TheVariants as records
use Rattle.writer_kit.specs.declared.fault.CollectFault.{CollectFault}
use Rattle.writer_kit.specs.declared.fault.CollectFault.TheVariants as collections
use Rattle.writer_kit.specs.declared.fault.MeasureFault.{MeasureFault}
use Rattle.writer_kit.specs.declared.fault.MeasureFault.TheVariants as recordings
use Rattle.writer_kit.specs.declared.fault.RestartFault.{RestartFault}
use Rattle.writer_kit.specs.declared.fault.RestartFault.TheVariants as restarts
use Rattle.kit_c.specs.declared.fault.Fault.{Fault}
use Rattle.kit_c.specs.declared.fault.Fault.TheVariants as faults

-- want of memory, whoever finds it
abbrev pub no_memory : ℤ
no_memory = pos 1

-- a recorder that has as many recordings as it may
abbrev pub recorder_full : ℤ
recorder_full = pos 70

-- there is no point of what is asked for, or of an incarnation that is to be adopted
abbrev pub no_point : ℤ
no_point = pos 9

-- bounds of a point that OTLP has no form for
abbrev pub otlp_bounds : ℤ
otlp_bounds = pos 80

-- of a request that is read: a point without a value, the bounds of a histogram, a key of a point, what makes no export
abbrev pub no_point_value : ℤ
no_point_value = pos 95

abbrev pub not_rising : ℤ
not_rising = pos 99

abbrev pub no_key : ℤ
no_key = pos 101

abbrev pub no_export : ℤ
no_export = pos 104

abbrev pub recording_code : MeasureFault → ℤ
recording_code recordings.Closed = pos 10
recording_code (recordings.Refused tallies.NoHeld) = pos 7
recording_code (recordings.Refused tallies.NoInstrument) = pos 11
recording_code (recordings.Refused tallies.Negative) = pos 12
recording_code (recordings.Refused (tallies.Overflow stream)) = pos 13
recording_code (recordings.Refused tallies.NoMemory) = no_memory

abbrev pub record_code : RecordFault → ℤ
record_code records.Full = recorder_full
record_code records.NoMemory = no_memory

abbrev pub collection_code : CollectFault → ℤ
collection_code collections.Closed = pos 10
collection_code (collections.TimeNotAfter last) = pos 14
collection_code collections.NoMemory = no_memory

abbrev pub restart_code : RestartFault → ℤ
restart_code (restarts.StartNotAfter start) = pos 15
restart_code restarts.NoMemory = no_memory

abbrev pub attributes_code : AttrFault → ℤ
attributes_code (sets.EmptyKey pair) = pos 20
attributes_code sets.NoMemory = no_memory

abbrev pub plan_code : PlanFault → ℤ
plan_code (plans.BadName i) = pos 30
plan_code (plans.BadUnit i) = pos 31
plan_code (plans.BadBounds v) = pos 32
plan_code (plans.BadRename v) = pos 33
plan_code (plans.WildcardRename v) = pos 34
plan_code (plans.BadAggregation i v) = pos 35
plan_code (plans.SameStream i j) = pos 36
plan_code plans.BadLimit = pos 37
plan_code plans.NoMemory = no_memory

abbrev pub handing_code : HandFault → ℤ
handing_code hands.NotAddressed = pos 50
handing_code hands.NoMemory = no_memory

abbrev pub adopting_code : AdoptFault → ℤ
adopting_code adoptions.OtherService = pos 110
adopting_code adoptions.IsArchive = pos 111
adopting_code adoptions.Adopted = pos 112
adopting_code adoptions.Nothing = no_point
adopting_code adoptions.Conflict = pos 113
adopting_code adoptions.Torn = pos 114
adopting_code adoptions.Unsound = pos 115
adopting_code adoptions.OutOfRange = pos 116
adopting_code adoptions.SetLimit = pos 117
adopting_code adoptions.NoMemory = no_memory

abbrev pub archiving_code : ExportRefusal → ℤ
archiving_code archivings.TimeNotLater = pos 118
archiving_code archivings.NoMemory = no_memory

abbrev pub sealing_code : SealRefusal → ℤ
sealing_code sealings.StartNotLater = pos 119
sealing_code sealings.Unexported = pos 120

abbrev pub decoding_code : DecodeFault → ℤ
decoding_code (decodings.Truncated at) = pos 60
decoding_code (decodings.BadMagic at) = pos 61
decoding_code (decodings.BadVersion at) = pos 62
decoding_code (decodings.NotCanonical at) = pos 63
decoding_code (decodings.NotText at) = pos 5
decoding_code (decodings.BadChecksum at) = pos 64
decoding_code (decodings.BadExport fault) = pos 65
decoding_code decodings.NoMemory = no_memory

abbrev pub otlp_code : OtlpFault → ℤ
otlp_code (otlps.BadBounds point) = otlp_bounds
otlp_code otlps.TooLongText = pos 107
otlp_code (otlps.TooManyAttributes point) = pos 108
otlp_code otlps.TooLong = pos 81
otlp_code otlps.NoMemory = no_memory

abbrev pub reason_code : RequestReason → ℤ
reason_code reasons.Malformed = pos 82
reason_code reasons.NotText = pos 5
reason_code reasons.TooLongText = pos 107
reason_code reasons.NoService = pos 83
reason_code reasons.NoInstance = pos 84
reason_code reasons.NotUuid = pos 85
reason_code reasons.ScopeTwice = pos 86
reason_code reasons.ExponentialHistogram = pos 87
reason_code reasons.Summary = pos 88
reason_code reasons.NoData = pos 89
reason_code reasons.Delta = pos 90
reason_code reasons.NoTemporality = pos 91
reason_code reasons.NoRecordedValue = pos 92
reason_code reasons.UnknownStart = pos 93
reason_code reasons.FloatValue = pos 94
reason_code reasons.NoValue = no_point_value
reason_code reasons.NoSum = pos 96
reason_code reasons.NotWhole = pos 97
reason_code reasons.Inexact = pos 98
reason_code reasons.BadBounds = not_rising
reason_code reasons.HalfRange = pos 100
reason_code reasons.TooManyAttributes = pos 108
reason_code reasons.EmptyKey = no_key
reason_code reasons.AttributeTwice = pos 102
reason_code reasons.AttributeValue = pos 103
reason_code (reasons.BadExport fault) = no_export
reason_code reasons.NoMemory = no_memory

abbrev pub request_code : RequestFault → ℤ
request_code f = reason_code f.why

-- those that carry none are refusals of the boundary
abbrev pub code_of : Fault → ℤ
code_of faults.NoMemory = no_memory
code_of faults.Nothing = pos 2
code_of faults.Full = pos 4
code_of faults.NotText = pos 5
code_of faults.BadNumber = pos 6
code_of faults.NoRow = pos 8
code_of faults.NoItem = pos 19
code_of faults.NoPoint = no_point
code_of faults.WrongShape = pos 42
code_of faults.Busy = pos 16
code_of faults.Exhausted = pos 17
code_of faults.SeatsFull = pos 18
code_of (faults.Measure f) = recording_code f
code_of (faults.Collect f) = collection_code f
code_of (faults.Restart f) = restart_code f
code_of (faults.Attributes f) = attributes_code f
code_of (faults.Plan f) = plan_code f
code_of (faults.ReservedScope i) = pos 38
code_of (faults.Hand f) = handing_code f
code_of (faults.Adopt f) = adopting_code f
code_of (faults.Archive f) = archiving_code f
code_of (faults.Seal f) = sealing_code f
code_of (faults.Decode f) = decoding_code f
code_of (faults.Record f) = record_code f
code_of (faults.Otlp f) = otlp_code f
code_of (faults.Request f) = request_code f
code_of (faults.ReservedPoint export) = pos 106
