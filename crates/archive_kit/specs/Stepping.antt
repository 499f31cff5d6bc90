-- What calls make of a node: it takes points in, and drops keys.
use Rattle.std.specs.Prelude.{◌≡◌, ℕ, ◌⊎◌, Bool, true, not, ◌&&◌, List, Some}
use Rattle.std.specs.FinMap.{FinMap, get, retain_keys}
use Rattle.std.specs.Ordering.{nat_cmp}
use Rattle.gossip_kit.specs.Gossip.{Renumbers}
use Rattle.gossip_kit.specs.Views.{NodeModel}
use Rattle.point_kit.specs.declared.cell.Cell.{Cell}
use Rattle.point_kit.specs.declared.key.Key.{Key}
use Rattle.point_kit.specs.declared.payload.Payload.{Payload}
use Rattle.point_kit.specs.Exports.{Points, join_points}
use Rattle.archive_kit.specs.Keeping.{is_of_any}
use Rattle.archive_kit.specs.Showing.{hides}
use Rattle.archive_kit.specs.Tombstones.{is_tombstone, names_key}
use Rattle.archive_kit.specs.declared.dropping.Gone.{Gone}

-- a node took in points, as `take`, `merge` and `hand` do, and has then these books
pub record Joins (brought : Points) (books : FinMap nat_cmp ℕ) (old new : NodeModel) : Type 0 where
  pub id : new.gateway.id ≡ old.gateway.id
  pub points : new.gateway.points ≡ join_points old.gateway.points brought
  pub numbers : Renumbers old new
  pub acked : new.acked ≡ books

-- a node dropped keys, as `forget` does
pub record Drops (gone : Key → Bool) (old new : NodeModel) : Type 0 where
  pub id : new.gateway.id ≡ old.gateway.id
  pub points : new.gateway.points ≡ retain_keys old.gateway.points (λ k. not (gone k))
  pub numbers : new.gateway.numbers ≡ retain_keys old.gateway.numbers (λ k. not (gone k))
  pub change : new.change ≡ old.change
  pub acked : new.acked ≡ old.acked

-- of what a node holds, it hides all these
abbrev pub AreHidden : (Key → Bool) → Points → Type 0
AreHidden gone points = (k : Key) (c : Cell Payload) → get points k ≡ Some c → gone k ≡ true → hides names_key points k ≡ true

-- a key is of one of these incarnations, and no tombstone
abbrev pub is_gone : List Gone → Key → Bool
is_gone gone k = not (is_tombstone k) && is_of_any gone k

-- a node took points in, and then dropped keys that it hid
pub record JoinsAndDrops (brought : Points) (books : FinMap nat_cmp ℕ) (old new : NodeModel) : Type 0 where
  pub between : NodeModel
  pub gone : Key → Bool
  pub joins : Joins brought books old between
  pub drops : Drops gone between new
  pub hidden : AreHidden gone between.gateway.points

-- a node left points out, since it hides all of them
pub record Skips (brought : Points) (old new : NodeModel) : Type 0 where
  pub same : new ≡ old
  pub hidden : (k : Key) (c : Cell Payload) → get brought k ≡ Some c → hides names_key old.gateway.points k ≡ true

-- a node took points in and dropped keys that it hid, or left them all out
abbrev pub JoinsOrSkips : Points → FinMap nat_cmp ℕ → NodeModel → NodeModel → Type 0
JoinsOrSkips brought books old new = JoinsAndDrops brought books old new ⊎ Skips brought old new
