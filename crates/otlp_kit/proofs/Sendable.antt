-- Exports that come back, with what is known of each of their points at hand.
use Rattle.std.proofs.Common.{◌≡◌, ℕ, ◌<◌, ◌||◌, Bool, true, false, ℤ, List, [], ◌∷◌, Option, refl}
use Rattle.std.specs.List.{AllByRecursion}
use Rattle.std.specs.Str.{IsUtf8}
use Rattle.attr_kit.specs.Attributes.{AreAttributes}
use Rattle.attr_kit.specs.declared.attr_value.AttrValue.{AttrValue}
use Rattle.point_kit.specs.Payload.{IsSound}
use Rattle.point_kit.specs.declared.export_point.ExportPoint.{ExportPoint}
use Rattle.point_kit.specs.declared.payload.Payload.{Payload}
use Rattle.point_kit.specs.declared.payload.Payload.TheVariants as payloads
use Rattle.point_kit.specs.declared.shape.Shape.{Shape}
use Rattle.point_kit.specs.declared.shape.Shape.TheVariants as shapes
use Rattle.point_kit.specs.declared.stream.Stream.{Stream}
use Rattle.otlp_kit.specs.Limits.{is_long, is_long_stream, are_many}
use Rattle.otlp_kit.specs.Sent.{IsNumber, IsInteger, IsPair, IsStream, IsPoint, IsExact, IsExactRange, IsExactStream, IsExactPayload}
use Rattle.otlp_kit.specs.Sent as sents

pub record IsHistogram (bounds : List ℤ) (count : ℕ) (sum : ℤ) (buckets : List ℕ) (range : Option (ℤ × ℤ)) : Type 0 where
  pub of_bounds : AllByRecursion IsExact bounds
  pub of_count : IsNumber count
  pub of_sum : IsExact sum
  pub of_buckets : AllByRecursion IsNumber buckets
  pub of_range : IsExactRange range

-- a payload of its stream's kind
abbrev pub IsPayload : Shape → Payload → Type 0
IsPayload (shapes.Sum monotonic) (payloads.Sum n) = IsInteger n
IsPayload shapes.Gauge (payloads.Gauge n) = IsInteger n
IsPayload (shapes.Histogram bounds) (payloads.Hist count sum buckets range) = IsHistogram bounds count sum buckets range
IsPayload shape payload = ⊥

abbrev pub IsStarted : ℕ → Shape → Type 0
IsStarted start shapes.Gauge = Unit {0}
IsStarted start (shapes.Sum monotonic) = 0 < start
IsStarted start (shapes.Histogram bounds) = 0 < start

-- a text that is not too long
abbrev pub IsName : List ℕ → Type 0
IsName t = IsUtf8 t × (is_long t ≡ false)

-- attributes that are not too many
abbrev pub AreFew : List (List ℕ × AttrValue) → Type 0
AreFew ps = AreAttributes ps × (are_many ps ≡ false)

pub record IsSent (start : ℕ) (p : ExportPoint) : Type 0 where
  pub stream : IsName p.stream.scope × (IsName p.stream.name × IsName p.stream.unit)
  pub attrs : AllByRecursion IsPair p.attrs × AreFew p.attrs
  pub payload : IsPayload p.stream.shape p.payload
  pub started : IsStarted start p.stream.shape

payload_of : (start : ℕ) (shape : Shape) (payload : Payload) → IsSound shape payload → sents.IsPayload payload → IsExactStream start shape → IsExactPayload payload → IsPayload shape payload
payload_of start (shapes.Sum true) (payloads.Sum n) sound fits said exact = fits
payload_of start (shapes.Sum false) (payloads.Sum n) sound fits said exact = fits
payload_of start shapes.Gauge (payloads.Gauge n) sound fits said exact = fits
payload_of start (shapes.Histogram bounds) (payloads.Hist count sum buckets range) sound fits said exact =
    record { of_bounds = said.1; of_count = fits.0; of_sum = exact.0; of_buckets = fits.1; of_range = exact.1 }
payload_of start shape payload sound fits said exact = absurd sound

started_of : (start : ℕ) (shape : Shape) → IsExactStream start shape → IsStarted start shape
started_of start shapes.Gauge h = _
started_of start (shapes.Sum monotonic) h = h
started_of start (shapes.Histogram bounds) h = h.0

pub none_of : (a b : Bool) → (a || b) ≡ false → (a ≡ false) × (b ≡ false)
none_of true b e = cc
none_of false b e = (refl, e)

names_of : (s : Stream) → IsStream s → is_long_stream s ≡ false → IsName s.scope × (IsName s.name × IsName s.unit)
names_of s fits short =
    let first = none_of (is_long s.scope) (is_long s.name || is_long s.unit) short in
    let second = none_of (is_long s.name) (is_long s.unit) first.1 in
    ((fits.0, first.0), ((fits.1.0, second.0), (fits.1.1, second.1)))

pub all_sent : (start : ℕ) (ps : List ExportPoint) → AllByRecursion (λ p. IsSound p.stream.shape p.payload) ps → AllByRecursion IsPoint ps → AllByRecursion (λ p. IsExactStream start p.stream.shape × IsExactPayload p.payload) ps → AllByRecursion (λ p. is_long_stream p.stream ≡ false) ps → AllByRecursion (λ p. are_many p.attrs ≡ false) ps → AllByRecursion (IsSent start) ps
all_sent start [] sound fits said short few = _
all_sent start (p ∷ ps) sound fits said short few = (
  record {
    stream = names_of p.stream fits.0.0 short.0;
    attrs = (fits.0.1.0.0, (fits.0.1.0.1, few.0));
    payload = payload_of start p.stream.shape p.payload sound.0 fits.0.1.1 said.0.0 said.0.1;
    started = started_of start p.stream.shape said.0.0;
  },
  all_sent start ps sound.1 fits.1 said.1 short.1 few.1,
)
