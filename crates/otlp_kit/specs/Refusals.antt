-- Why an export has no request.
use Rattle.std.specs.Prelude.{ℕ, ℤ, ◌-◌, ◌^◌, nat_lt, int_lt, not, ◌&&◌, ◌||◌, Bool, true, List, [], ◌∷◌, Option, length}
use Rattle.std.specs.List.{list_any}
use Rattle.attr_kit.specs.Refusing.{first, when, wherever}
use Rattle.point_kit.specs.Orders.{bounds_of}
use Rattle.point_kit.specs.declared.export.Export.{Export}
use Rattle.point_kit.specs.declared.export_point.ExportPoint.{ExportPoint}
use Rattle.otlp_kit.specs.Doubles.{rounded}
use Rattle.otlp_kit.specs.Limits.{is_long, is_long_stream, are_many}
use Rattle.otlp_kit.specs.Request.{request}
use Rattle.otlp_kit.specs.declared.fault.OtlpFault.{OtlpFault}
use Rattle.otlp_kit.specs.declared.fault.OtlpFault.TheVariants as faults

-- whether the doubles of bounds rise, each from the one before it
abbrev pub rises_from : ℤ → List ℤ → Bool
rises_from b [] = true
rises_from b (c ∷ cs) = int_lt (rounded b) (rounded c) && rises_from c cs

unfoldable pub rises : List ℤ → Bool
rises [] = true
rises (b ∷ bs) = rises_from b bs

abbrev pub has_bad_bounds : ExportPoint → Bool
has_bad_bounds p = not (rises (bounds_of p.stream.shape))

-- at most so many bytes has a message of Protocol Buffers
abbrev pub most_bytes : ℕ
most_bytes = 2 ^ 31 - 1

abbrev pub bounds_fault : Export → Option OtlpFault
bounds_fault e = wherever (λ i. faults.BadBounds i) has_bad_bounds e.points

abbrev pub has_long_text : ExportPoint → Bool
has_long_text p = is_long_stream p.stream

abbrev pub text_fault : Export → Option OtlpFault
text_fault e = when (is_long e.writer.service || list_any has_long_text e.points) faults.TooLongText

abbrev pub has_many_attributes : ExportPoint → Bool
has_many_attributes p = are_many p.attrs

abbrev pub attributes_fault : Export → Option OtlpFault
attributes_fault e = wherever (λ i. faults.TooManyAttributes i) has_many_attributes e.points

-- the first refusal that is known before anything is written
unfoldable pub early_fault : Export → Option OtlpFault
early_fault e = first (bounds_fault e ∷ text_fault e ∷ attributes_fault e ∷ [])

abbrev pub length_fault : Export → Option OtlpFault
length_fault e = when (nat_lt most_bytes (length (request e))) faults.TooLong

-- the first refusal that fits, but want of memory
unfoldable pub otlp_fault : Export → Option OtlpFault
otlp_fault e = first (early_fault e ∷ length_fault e ∷ [])
