-- One of two nodes of a list joins what the other holds.
use Rattle.std.specs.Prelude.{◌≡◌, ℕ, List, slice_get, slice_set, Some}
use Rattle.gossip_kit.specs.Gossip.{Renumbers}
use Rattle.gossip_kit.specs.Views.{NodeModel}
use Rattle.point_kit.specs.Exports.{join_points, changed_points}

-- the node at one place is another, which has what both had; the others are as they were
pub record Merges (old : List NodeModel) (into from changed : ℕ) (new : List NodeModel) : Type 0 where
  pub is : NodeModel
  pub new_is : new ≡ slice_set old into is
  pub joined : (was other : NodeModel) → slice_get old into ≡ Some was → slice_get old from ≡ Some other
      → (is.gateway.id ≡ was.gateway.id) × (is.gateway.points ≡ join_points was.gateway.points other.gateway.points) × (changed ≡ changed_points was.gateway.points is.gateway.points)
      × Renumbers was is × (is.acked ≡ was.acked)
