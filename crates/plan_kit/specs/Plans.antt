-- What a plan says: the feeds of each instrument, the streams, and the limit.
use Rattle.std.specs.Prelude.{◌≡◌, ◌≢◌, ◌<◌, ◌==◌, ℕ, Bool, true, false, IsTrue, List, [], ◌∷◌, Option, Some, length, slice_get}
use Rattle.std.specs.List.{list_any}
use Rattle.std.specs.Option.{option_map, option_map_or}
use Rattle.point_kit.specs.declared.stream.Stream.{Stream}
use Rattle.point_kit.specs.declared.shape.Shape.{Shape}
use Rattle.point_kit.specs.declared.shape.Shape.TheVariants as shapes
use Rattle.plan_kit.specs.declared.instrument.Kind.{Kind}
use Rattle.plan_kit.specs.declared.instrument.Kind.TheVariants as kinds
use Rattle.plan_kit.specs.declared.feed.Feed.{Feed}
use Rattle.plan_kit.specs.Bounds.{are_bounds}

-- an instrument as those see it that record with it: its kind and its feeds
pub record Source : Type 0 where
  pub kind : Kind
  pub feeds : List Feed

-- a plan: the instruments by their places, the streams by their numbers, and how many attribute sets of a stream have points of their own
pub record Planned : Type 0 where
  pub instruments : List Source
  pub streams : List Stream
  pub limit : ℕ

-- the feeds of the instrument at a place, none where there is no such instrument
abbrev pub feeds_of : Planned → ℕ → List Feed
feeds_of p i = option_map_or (λ s. s.feeds) (slice_get p.instruments i) []

abbrev pub kind_of : Planned → ℕ → Option Kind
kind_of p i = option_map (λ s. s.kind) (slice_get p.instruments i)

abbrev pub stream_of : Planned → ℕ → Option Stream
stream_of p s = slice_get p.streams s

-- no feed of the list has the stream m
abbrev pub lacks : ℕ → List Feed → Type 0
lacks m [] = Unit {0}
lacks m (f ∷ fs) = (m ≢ f.stream) × lacks m fs

-- each feed has a stream of its own, below n
abbrev pub AreFeeds : ℕ → List Feed → Type 0
AreFeeds n [] = Unit {0}
AreFeeds n (f ∷ fs) = (f.stream < n) × lacks f.stream fs × AreFeeds n fs

-- the bounds of a histogram are bounds of buckets
abbrev pub is_proper : Shape → Bool
is_proper (shapes.Histogram bounds) = are_bounds bounds
is_proper shape = true

-- no two streams are equal
abbrev pub AreApart : List Stream → Type 0
AreApart ss = (i j : ℕ) (s : Stream) → slice_get ss i ≡ Some s → slice_get ss j ≡ Some s → i ≡ j

-- a feed of the list has this stream
abbrev pub has_stream : ℕ → List Feed → Bool
has_stream s fs = list_any (λ f. f.stream == s) fs

-- two instruments that feed one stream are seen alike: they have one kind and the same feeds
abbrev pub IsShared : Planned → Type 0
IsShared p = (i j s : ℕ) → has_stream s (feeds_of p i) ≡ true → has_stream s (feeds_of p j) ≡ true → slice_get p.instruments i ≡ slice_get p.instruments j

-- the totals of a shape only rise: those of monotonic sums and of histograms
abbrev pub rises : Shape → Bool
rises (shapes.Sum monotonic) = monotonic
rises shapes.Gauge = false
rises (shapes.Histogram bounds) = true

-- a kind takes no values below 0
abbrev pub only_rises : Kind → Bool
only_rises kinds.Counter = true
only_rises kinds.UpDown = false
only_rises kinds.Gauge = false
only_rises kinds.Histogram = true

-- feeds of an instrument of this kind lead to a stream whose totals only rise only where it takes no values below 0
abbrev pub AllRise : Planned → Kind → List Feed → Type 0
AllRise p k [] = Unit {0}
AllRise p k (f ∷ fs) = ((s : Stream) → stream_of p f.stream ≡ Some s → rises s.shape ≡ true → only_rises k ≡ true) × AllRise p k fs

-- what holds of every plan
pub record IsPlan (p : Planned) : Type 0 where
  pub feeds : (i : ℕ) → AreFeeds (length p.streams) (feeds_of p i)
  pub shared : IsShared p
  pub rising : (i : ℕ) (k : Kind) → kind_of p i ≡ Some k → AllRise p k (feeds_of p i)
  pub apart : AreApart p.streams
  pub proper : (s : ℕ) (stream : Stream) → stream_of p s ≡ Some stream → IsTrue (is_proper stream.shape)
  pub limited : 0 < p.limit
