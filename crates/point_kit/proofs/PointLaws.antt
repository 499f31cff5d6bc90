-- The laws of states at this crate's own keys and payloads, and what a join keeps of what is held.
use Rattle.std.proofs.Common.{◌≡◌, true, false, if◌then◌else◌, ap, ◌∙◌}
use Rattle.std.proofs.lemmas.Grind.{flat_map-append}
use Rattle.std.specs.List.{flat_map}
use Rattle.point_kit.specs.Equality.{payload_eq, cell_eq}
use Rattle.point_kit.specs.Exports.{Points, join_points, changed_points, points_of, JoinsExports}
use Rattle.point_kit.specs.Join.{join_held, join_cells, IsCommutative, IsAssociative, IsIdempotent, JoinsAbove, JoinsLeast}
use Rattle.point_kit.specs.Orders.{key_cmp}
use Rattle.point_kit.specs.Payload.{IsSoundHeld}
use Rattle.point_kit.specs.States.{state_of}
use Rattle.point_kit.specs.declared.cell.Held.{Held}
use Rattle.point_kit.specs.declared.cell.Held.TheVariants.{One, Conflict}
use Rattle.point_kit.specs.declared.payload.Payload.{Payload}
use Rattle.point_kit.specs.declared.shape.Shape.{Shape}
use Rattle.point_kit.proofs.ChangeLaws.{changed_keys-same, unchanged}
use Rattle.point_kit.proofs.EqualityLaws.{payload_equivalence, payload_exact, cell_exact, cell_itself}
use Rattle.point_kit.proofs.JoinLaws.{cells_commute, cells_associate, cells_idempotent}
use Rattle.point_kit.proofs.OrderLaws.{key_total, key_exact}
use Rattle.point_kit.proofs.StateLaws.{maps_commute, maps_associate, maps_idempotent, maps_above, maps_least, state-append}

commutes : IsCommutative (join_cells payload_eq)
commutes = cells_commute payload_eq payload_equivalence payload_exact

associates : IsAssociative (join_cells payload_eq)
associates = cells_associate payload_eq payload_equivalence payload_exact

repeats : IsIdempotent (join_cells payload_eq)
repeats = cells_idempotent payload_eq payload_equivalence payload_exact

pub points_commute : IsCommutative join_points
points_commute = maps_commute key_total key_exact (join_cells payload_eq) commutes

pub points_associate : IsAssociative join_points
points_associate = maps_associate key_total key_exact (join_cells payload_eq) associates

pub points_idempotent : IsIdempotent join_points
points_idempotent = maps_idempotent key_total key_exact (join_cells payload_eq) repeats

pub points_above : JoinsAbove join_points
points_above = maps_above key_total key_exact (join_cells payload_eq) commutes associates repeats

pub points_least : JoinsLeast join_points
points_least = maps_least key_total key_exact (join_cells payload_eq) associates

pub states_join : JoinsExports
states_join xs ys = ap (state_of key_cmp payload_eq) (flat_map-append points_of xs ys) ∙ state-append key_total key_exact payload_eq payload_equivalence payload_exact (flat_map points_of xs) (flat_map points_of ys)

-- no key changes where nothing does, and where no key changes, nothing does
pub changed_points-same : (m : Points) → changed_points m m ≡ 0
changed_points-same m = changed_keys-same key_total key_exact cell_eq cell_itself m

pub unchanged_points : (m n : Points) → changed_points m n ≡ 0 → m ≡ n
unchanged_points m n e = unchanged key_total key_exact cell_eq cell_exact m n e

-- what is joined of what is sound in a shape is sound in it
pub held_sound : (s : Shape) (a b : Held Payload) → IsSoundHeld s a → IsSoundHeld s b → IsSoundHeld s (join_held payload_eq a b)
held_sound s (One p) (One q) g h = elim (payload_eq p q) as (λ t. IsSoundHeld s (if t then One p else Conflict)) [ true ↦ g | false ↦ tt ]
held_sound s (One p) Conflict g h = tt
held_sound s Conflict b g h = tt
