-- Incarnations of which there are points, read by numbers.
use Rattle.std.specs.Prelude.{◌≡◌, ◌/◌, ◌%◌, ◌^◌, ℕ, List, map}
use Rattle.gateway_kit.specs.Listing.{HeldIncarnation, held_incarnations}
use Rattle.point_kit.specs.Exports.{Points}
use Rattle.point_kit.specs.Orders.{instance_number}
use Rattle.kit_c.specs.declared.incarnations.Incarnation.{Incarnation}

abbrev pub told_incarnation : HeldIncarnation → Incarnation
told_incarnation h = record { writer = h.writer; start = h.start; newest = h.newest; points = h.points }

-- those of which there are points, in the order of their keys
abbrev pub incarnations_held : Points → List Incarnation
incarnations_held points = map told_incarnation (held_incarnations points)

-- an incarnation's instance as two numbers, its start, the greatest time of its points, and how many they are
pub record Tells (i : Incarnation) (high low start newest points : ℕ) : Type 0 where
  pub is_high : high ≡ instance_number i.writer.instance / 2 ^ 64
  pub is_low : low ≡ instance_number i.writer.instance % 2 ^ 64
  pub starts : start ≡ i.start
  pub newest_is : newest ≡ i.newest
  pub has : points ≡ i.points
