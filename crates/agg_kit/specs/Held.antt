-- Held points: an instrument and a set, with the places where their values go.
use Rattle.std.specs.Prelude.{◌≡◌, ◌≤◌, ◌&&◌, ℕ, ℤ, pos, int_lt, None, IfSome, false, List, [], ◌∷◌, ◌⊎◌, Option, Some, is_none, length, map, position, slice_get, vec_capacity}
use Rattle.std.specs.Map.{keys_of}
use Rattle.attr_kit.specs.declared.attr_set.AttrSet.{AttrSet}
use Rattle.attr_kit.specs.Keeping.{kept}
use Rattle.plan_kit.specs.Plans.{Planned, AllRise, AreFeeds, feeds_of, kind_of}
use Rattle.plan_kit.specs.declared.instrument.Kind.{Kind}
use Rattle.plan_kit.specs.declared.feed.Feed.{Feed}
use Rattle.attr_kit.specs.declared.keep.Keep.TheVariants.{All}
use Rattle.agg_kit.specs.Refusals.{is_negative_for}
use Rattle.agg_kit.specs.Feeding.{set_eq}
use Rattle.agg_kit.specs.Feeds.{entries_of, series_at, AllHeld}
use Rattle.agg_kit.specs.Steps.{Stored, fed_set}
use Rattle.agg_kit.specs.Tallies.{Points, Tallied}
use Rattle.agg_kit.specs.declared.held.HeldPoint.{HeldPoint}
use Rattle.agg_kit.specs.declared.held.OwnPlace.{OwnPlace}
use Rattle.agg_kit.specs.declared.held.Places.{Places}

-- where the point stands that a value of the set would go to
abbrev pub place_of : ℕ → Points → AttrSet → Option ℕ
place_of limit es a = position (set_eq (fed_set limit es a)) (keys_of es)

-- the points that the feeds' values of a set would go to stand at these places
abbrev pub AreAt : Planned → List Feed → List ℕ → AttrSet → List Points → Type 0
AreAt p [] [] a ss = Unit {0}
AreAt p [] (i ∷ is) a ss = ⊥
AreAt p (f ∷ fs) [] a ss = ⊥
AreAt p (f ∷ fs) (i ∷ is) a ss = (place_of p.limit (series_at ss f.stream) (kept f.keep a) ≡ Some i) × AreAt p fs is a ss

-- no place is known, or that of each feed's point is
abbrev pub AreKnown : Planned → List Feed → List ℕ → AttrSet → List Points → Type 0
AreKnown p fs is a ss = (is ≡ []) ⊎ AreAt p fs is a ss

-- the feed that brings all keys to the stream m
abbrev pub whole_feed : ℕ → Feed
whole_feed m = record { stream = m; keep = All }

-- that feed alone
abbrev pub lone_feed : ℕ → List Feed
lone_feed m = whole_feed m ∷ []

-- the short way to the point of an instrument's one feed, which keeps all keys
pub record IsOwnPlace (p : Planned) (ss : List Points) (i : ℕ) (a : AttrSet) (o : OwnPlace) : Type 0 where
  pub lone : feeds_of p i ≡ lone_feed o.stream
  pub at : place_of p.limit (series_at ss o.stream) a ≡ Some o.place
  pub rises : (v : ℤ) → is_negative_for (kind_of p i) v ≡ (o.rises && int_lt v (pos 0))

-- what contracts see of held points
abbrev pub held_of : List HeldPoint → List (ℕ × AttrSet)
held_of hs = map (λ h. (h.instrument, h.attrs)) hs

-- no place is known
abbrev pub IsPlaceless : Places → Type 0
IsPlaceless k = (k.each.items ≡ []) × (k.own ≡ None)

-- each feed of the instrument has a stream of its own, and totals that only rise are fed with no value below 0
pub record IsFed (p : Planned) (i : ℕ) : Type 0 where
  pub feeds : AreFeeds (length p.streams) (feeds_of p i)
  pub rising : (k : Kind) → kind_of p i ≡ Some k → AllRise p k (feeds_of p i)

-- what is known of places is where the instrument's values with the set go
pub record IsPlaced (p : Planned) (ss : List Points) (i : ℕ) (a : AttrSet) (k : Places) : Type 0 where
  pub fed : IsFed p i
  pub known : AreKnown p (feeds_of p i) k.each.items a ss
  pub own : IfSome k.own (λ o. IsOwnPlace p ss i a o)

-- what is known of the places of an instrument with a set is true of a tally: nothing, or where their values go
abbrev pub AreOf : Tallied → ℕ → AttrSet → Places → Type 0
AreOf t i a k = IsPlaceless k ⊎ IsPlaced t.plan t.series i a k

-- so it is of each that is held
abbrev pub ArePlaced : Tallied → List HeldPoint → Type 0
ArePlaced t hs = (n : ℕ) (h : HeldPoint) → slice_get hs n ≡ Some h → AreOf t h.instrument h.attrs h.places

-- there is room for a place of each of these feeds, if not the short way leads to the points of the only one
abbrev pub HasRoom : List Feed → Places → Type 0
HasRoom fs k = ((m : ℕ) × (fs ≡ lone_feed m)) ⊎ (length fs ≤ vec_capacity k.each)

-- so it is of each that is held under a plan
abbrev pub HaveRoom : Planned → List HeldPoint → Type 0
HaveRoom p hs = (n : ℕ) (h : HeldPoint) → slice_get hs n ≡ Some h → HasRoom (feeds_of p h.instrument) h.places

abbrev pub HasInstrument : Tallied → ℕ → Type 0
HasInstrument t i = is_none (kind_of t.plan i) ≡ false

-- no recording at the n-th held point takes memory: no feed of its instrument copies what it keeps of the set, and the stream of each has the point
abbrev pub IsHeldAt : Tallied → ℕ → Type 0
IsHeldAt t n = IfSome (slice_get t.held n) (λ h. AllHeld t.plan (feeds_of t.plan h.0) h.1 t.series)

-- ---- of series in memory

-- where the point stands to which a feed brings values of a set
abbrev pub place_at : Planned → AttrSet → List Stored → Feed → Option ℕ
place_at p a ss f = place_of p.limit (series_at (entries_of ss) f.stream) (kept f.keep a)

abbrev pub StandAt : Planned → List Feed → List ℕ → AttrSet → List Stored → Type 0
StandAt p fs is a ss = AreAt p fs is a (entries_of ss)

abbrev pub KnowPlaces : Planned → List Feed → List ℕ → AttrSet → List Stored → Type 0
KnowPlaces p fs is a ss = AreKnown p fs is a (entries_of ss)

-- a place that is given, if one is, is this one
abbrev pub MayGive : List ℕ → Option ℕ → Type 0
MayGive [] at = Unit {0}
MayGive (i ∷ is) at = at ≡ Some i
