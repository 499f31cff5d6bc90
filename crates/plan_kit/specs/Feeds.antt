-- Which feeds instruments and views give.
use Rattle.std.specs.Prelude.{◌≡◌, ℕ, ◌+◌, ◌++◌, ◌==◌, if◌then◌else◌, cond, List, [], ◌∷◌, Option, Some, None, map, filter, slice_get, slice_index_or}
use Rattle.std.specs.List.{filter_map, flat_map, enumerate_from}
use Rattle.std.specs.Option.{option_and_then, unwrap_or}
use Rattle.attr_kit.specs.declared.keep.Keep.TheVariants as keeps
use Rattle.point_kit.specs.declared.shape.Shape.{Shape}
use Rattle.point_kit.specs.declared.stream.Stream.{Stream}
use Rattle.plan_kit.specs.declared.feed.Feed.{Feed}
use Rattle.plan_kit.specs.declared.fit.Fit.{Fit}
use Rattle.plan_kit.specs.declared.fit.Fit.TheVariants as fits
use Rattle.plan_kit.specs.declared.instrument.Instrument.{Instrument}
use Rattle.plan_kit.specs.declared.view.Aggregation.TheVariants as ways
use Rattle.plan_kit.specs.declared.view.NameRule.TheVariants as rules
use Rattle.plan_kit.specs.declared.view.View.{View}
use Rattle.plan_kit.specs.declared.wanted.Wanted.{Wanted}
use Rattle.plan_kit.specs.Aggregations.{fit}
use Rattle.plan_kit.specs.Names.{lower}
use Rattle.plan_kit.specs.Owners.{owner_of}
use Rattle.plan_kit.specs.Plans.{Planned}
use Rattle.plan_kit.specs.Views.{view_fits, with_name_lowered}

-- the view that stands where none matches: it keeps all, with the aggregation that goes with the kind
abbrev pub default_view : View
default_view = record { name = rules.Every; kind = None; scope = None; rename = None; keep = keeps.All; aggregation = ways.Default }

abbrev pub or_default : List View → List View
or_default [] = default_view ∷ []
or_default (v ∷ vs) = v ∷ vs

-- the views that apply to an instrument: those that match it, in their order, or the default one
abbrev pub applying_views : List View → Instrument → List View
applying_views views i = or_default (filter (λ v. view_fits v i) views)

-- the stream of an instrument by a view: the scope and the unit of the instrument, the name that the view gives or else the
-- instrument's, in lower case, and a shape
abbrev pub stream_by : Instrument → View → Shape → Stream
stream_by i v shape = record { scope = i.scope; name = lower (unwrap_or v.rename i.name); unit = i.unit; shape = shape }

abbrev pub fed_by : ℕ → Instrument → View → Fit → Option Wanted
fed_by owner i v (fits.Stream shape) = Some (record { owner = owner; stream = stream_by i v shape; keep = v.keep })
fed_by owner i v fits.Nothing = None
fed_by owner i v fits.Refused = None

-- the feed of the instrument at a place by a view, where its aggregation gives a stream
abbrev pub feed_by : ℕ → Instrument → View → Option Wanted
feed_by owner i v = fed_by owner i v (fit i.kind v.aggregation)

-- the feeds by the views at these places
abbrev pub feeds_at : ℕ → Instrument → List View → List ℕ → List Wanted
feeds_at owner i views places = filter_map (λ n. option_and_then (feed_by owner i) (slice_get views n)) places

-- the feeds of the instrument at a place: of the views that apply, in their order, without those that drop
abbrev pub wanted_by : List View → ℕ → Instrument → List Wanted
wanted_by views owner i = filter_map (feed_by owner i) (applying_views views i)

-- the same of an instrument that no earlier one is equal to; others have no feeds of their own
abbrev pub own_feeds : List View → List Instrument → ℕ × Instrument → List Wanted
own_feeds views is p = if owner_of is p.1 == p.0 then wanted_by views p.0 p.1 else []

-- the feeds of all instruments, in order
unfoldable pub wanted_of : List View → List Instrument → List Wanted
wanted_of views is = flat_map (own_feeds views is) (enumerate_from 0 is)

-- the feeds of one owner, each under its number, where the list begins at number n
abbrev pub feeds_from : ℕ → ℕ → List Wanted → List Feed
feeds_from owner n [] = []
feeds_from owner n (w ∷ ws) = cond (w.owner == owner) (record { stream = n; keep = w.keep } ∷ feeds_from owner (n + 1) ws) (feeds_from owner (n + 1) ws)

-- each list stays, but the owner's, which has one feed more
abbrev pub AddsFeed : ℕ → Feed → List (List Feed) → List (List Feed) → Type 0
AddsFeed owner feed olds news =
    (o : ℕ) → slice_index_or news o [] ≡ (if owner == o then slice_index_or olds o [] ++ feed ∷ [] else slice_index_or olds o [])

-- the plan of lowered instruments and their feeds: the feeds of an instrument are those of the first one equal to it, and
-- the streams are numbered in the order of the feeds
abbrev pub plan_from : List Instrument → List Wanted → ℕ → Planned
plan_from is ws limit = record {
  instruments = map (λ i. record { kind = i.kind; feeds = feeds_from (owner_of is i) 0 ws }) is;
  streams = map (λ w. w.stream) ws;
  limit = limit;
}

-- the plan that instruments and views give
unfoldable pub plan_of : List Instrument → List View → ℕ → Planned
plan_of is views limit = let named = map with_name_lowered is in plan_from named (wanted_of views named) limit
