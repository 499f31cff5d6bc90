-- The incarnations and the services of which a gateway holds points.
use Rattle.std.specs.Prelude.{ℕ, nat_eq, List, map, length}
use Rattle.std.specs.Cmp.Lexicographic.{pointwise}
use Rattle.std.specs.FinMap.{entries}
use Rattle.std.specs.List.{dedup}
use Rattle.std.specs.Ordering.{eq_by_cmp}
use Rattle.point_kit.specs.Exports.{Points}
use Rattle.point_kit.specs.declared.key.Key.{Key}
use Rattle.point_kit.specs.declared.writer_id.WriterId.{WriterId}
use Rattle.shelf_kit.specs.Walks.{walk_left}
use Rattle.gateway_kit.specs.Keys.{IncarnationKey, incarnation_cmp}
use Rattle.gateway_kit.specs.IncarnationState.{IncarnationState}
use Rattle.gateway_kit.specs.Queries.{incarnation_points}
use Rattle.gateway_kit.specs.Times.{latest}
use Rattle.gateway_kit.specs.declared.listing.IncarnationRef.{IncarnationRef}
use Rattle.gateway_kit.specs.declared.listing.Incarnations.{Incarnations}
use Rattle.gateway_kit.specs.declared.listing.Services.{Services}

-- an incarnation that is held: whose it is, since when it runs, the greatest time held of it, and how many points
pub record HeldIncarnation : Type 0 where
  pub writer : WriterId
  pub start : ℕ
  pub newest : ℕ
  pub points : ℕ

-- the incarnation of a key
abbrev pub incarnation_of : Key → IncarnationKey
incarnation_of key = (key.writer, key.start)

-- what points tell of an incarnation
abbrev pub held_of : Points → IncarnationKey → HeldIncarnation
held_of points a = record { writer = a.0; start = a.1; newest = latest (incarnation_points a.0 a.1 points); points = length (incarnation_points a.0 a.1 points) }

-- each incarnation of which there are points, once, in the order of their keys
abbrev pub held_incarnations : Points → List HeldIncarnation
held_incarnations points = map (held_of points) (dedup (eq_by_cmp incarnation_cmp) (map (λ e. incarnation_of e.0) (entries points)))

-- each service of which there are points, once, in their order
abbrev pub held_services : Points → List (List ℕ)
held_services points = dedup (pointwise nat_eq) (map (λ e. e.0.writer.service) (entries points))

-- what is kept of an incarnation, as it is listed
abbrev pub held_as_kept : IncarnationState → HeldIncarnation
held_as_kept p = record { writer = p.writer; start = p.start; newest = latest (entries p.cells); points = length (entries p.cells) }

-- a lent one
abbrev pub held_of_ref : IncarnationRef → HeldIncarnation
held_of_ref r = record { writer = r.writer.now; start = r.start; newest = r.newest; points = r.points }

-- what is left to be listed
abbrev pub incarnations_left : Incarnations → List HeldIncarnation
incarnations_left i = map held_as_kept (walk_left i.ahead)

-- of services
abbrev pub services_left : Services → List (List ℕ)
services_left s = dedup (pointwise nat_eq) (map (λ p. p.writer.service) (walk_left s.ahead))
