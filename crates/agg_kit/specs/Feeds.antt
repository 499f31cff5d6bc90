-- What one recording does to the points of all streams.
use Rattle.std.specs.Prelude.{◌≡◌, true, false, cond, ℕ, ℤ, Bool, List, [], ◌∷◌, Option, find, map, slice_set, slice_index_or}
use Rattle.std.specs.Option.{option_map, option_map_or}
use Rattle.attr_kit.specs.declared.attr_set.AttrSet.{AttrSet}
use Rattle.attr_kit.specs.Keeping.{kept}
use Rattle.attr_kit.specs.declared.keep.Keep.{Keep}
use Rattle.attr_kit.specs.declared.keep.Keep.TheVariants.{All, Only}
use Rattle.point_kit.specs.declared.shape.Shape.{Shape}
use Rattle.point_kit.specs.declared.shape.Shape.TheVariants as shapes
use Rattle.plan_kit.specs.Plans.{Planned, feeds_of, stream_of}
use Rattle.plan_kit.specs.declared.feed.Feed.{Feed}
use Rattle.agg_kit.specs.Entries.{Entry}
use Rattle.agg_kit.specs.Payloads.{is_out_of_range}
use Rattle.agg_kit.specs.Steps.{Stored, has_point, fed_set, payload_after, step}
use Rattle.agg_kit.specs.Tallies.{Points, Tallied}
use Rattle.agg_kit.specs.declared.fault.TallyFault.{TallyFault}
use Rattle.agg_kit.specs.declared.fault.TallyFault.TheVariants as faults

abbrev pub entries_of : List Stored → List Points
entries_of = map (λ s. s.entries)

-- the points of the stream m
abbrev pub series_at : List Points → ℕ → Points
series_at ss m = slice_index_or ss m []

-- the shape of the stream m
abbrev pub shape_at : Planned → ℕ → Shape
shape_at p m = option_map_or (λ s. s.shape) (stream_of p m) shapes.Gauge

-- whether a feed's point would be out of range with one more recording
abbrev pub leaves_range : Planned → AttrSet → ℤ → List Points → Feed → Bool
leaves_range p a v ss f =
    let es = series_at ss f.stream in
    is_out_of_range (payload_after (shape_at p f.stream) es (fed_set p.limit es (kept f.keep a)) v)

-- the refusal of the first feed whose point would be out of range
abbrev pub first_out : Planned → AttrSet → ℤ → List Points → List Feed → Option TallyFault
first_out p a v ss fs = option_map (λ f. faults.Overflow f.stream) (find (leaves_range p a v ss) fs)

-- the points after a recording, which each feed takes under the keys that it keeps
abbrev pub after_feeds : Planned → List Feed → AttrSet → ℤ → List Points → List Points
after_feeds p [] a v ss = ss
after_feeds p (f ∷ fs) a v ss =
    let after = after_feeds p fs a v ss in
    slice_set after f.stream (step (shape_at p f.stream) p.limit (series_at after f.stream) (kept f.keep a) v)

-- whether a set has a pair
abbrev pub has_pairs : AttrSet → Bool
has_pairs [] = false
has_pairs (p ∷ ps) = true

-- whether what is kept of a set is copied, which takes memory: the set has a key of a list
abbrev pub is_copied : Keep → AttrSet → Bool
is_copied All a = false
is_copied (Only list) a = has_pairs (kept (Only list) a)

-- the feeds before the first that copies what it keeps of a set
abbrev pub early_feeds : AttrSet → List Feed → List Feed
early_feeds a [] = []
early_feeds a (f ∷ fs) = cond (is_copied f.keep a) [] (f ∷ early_feeds a fs)

-- no feed copies what it keeps of a set: it keeps all keys, or none that the set has
abbrev pub NoneCopies : AttrSet → List Feed → Type 0
NoneCopies a [] = Unit {0}
NoneCopies a (f ∷ fs) = (is_copied f.keep a ≡ false) × NoneCopies a fs

-- no feed copies what it keeps of a set, and the stream of each has the point that this feeds
abbrev pub AllHeld : Planned → List Feed → AttrSet → List Points → Type 0
AllHeld p [] a ss = Unit {0}
AllHeld p (f ∷ fs) a ss =
    let es = series_at ss f.stream in
    (is_copied f.keep a ≡ false) × (has_point es (fed_set p.limit es (kept f.keep a)) ≡ true) × AllHeld p fs a ss

-- no recording like this one takes memory: no feed of its instrument copies what it keeps of the set, and the stream of each has the point
abbrev pub IsHeld : Tallied → Entry → Type 0
IsHeld t e = AllHeld t.plan (feeds_of t.plan e.instrument) e.attrs t.series

-- ---- of series in memory

abbrev pub points_with : Planned → List Feed → AttrSet → ℤ → List Stored → List Points
points_with p fs a v ss = after_feeds p fs a v (entries_of ss)

abbrev pub out_at : Planned → AttrSet → ℤ → List Stored → List Feed → Option TallyFault
out_at p a v ss fs = first_out p a v (entries_of ss) fs

abbrev pub early_out_at : Planned → AttrSet → ℤ → List Stored → List Feed → Option TallyFault
early_out_at p a v ss fs = out_at p a v ss (early_feeds a fs)

abbrev pub AreHeld : Planned → List Feed → AttrSet → List Stored → Type 0
AreHeld p fs a ss = AllHeld p fs a (entries_of ss)
