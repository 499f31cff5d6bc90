-- What a keeper holds and answers: a gateway's points that are always what is shown, and the names that held tombstones tell.
use Rattle.std.specs.Prelude.{◌≡◌, ℕ, Bool, true, false, ◌&&◌, ◌==◌, if◌then◌else◌, List}
use Rattle.std.specs.List.{list_any}
use Rattle.std.specs.FinMap.{keys}
use Rattle.gateway_kit.specs.Listing.{held_incarnations}
use Rattle.gateway_kit.specs.Queries.{is_of_incarnation}
use Rattle.point_kit.specs.Exports.{Points, join_points}
use Rattle.point_kit.specs.declared.key.Key.{Key}
use Rattle.point_kit.specs.declared.stream.Stream.{Stream}
use Rattle.point_kit.specs.declared.writer_id.WriterId.{WriterId}
use Rattle.archive_kit.specs.Showing.{shown}
use Rattle.archive_kit.specs.Tombstones.{tombstones, incarnation_attrs, is_tombstone, names_key, set_eq}
use Rattle.archive_kit.specs.declared.dropping.Gone.{Gone}
use Rattle.archive_kit.specs.Named.{Name, has_name}
use Rattle.archive_kit.specs.declared.taking.Taking.{Taking}
use Rattle.archive_kit.specs.declared.taking.Taking.TheVariants.{Taken, Stale, Late}

-- a key is a tombstone that tells the incarnation
abbrev pub tells : WriterId → ℕ → Key → Bool
tells writer start t = is_tombstone t && set_eq t.attrs (incarnation_attrs writer start)

-- a tombstone among the points tells it
abbrev pub is_named : Points → WriterId → ℕ → Bool
is_named points writer start = list_any (tells writer start) (keys points)

-- what two joined show
abbrev pub kept_points : Points → Points → Points
kept_points points coming = shown names_key (join_points points coming)

-- what a keeper answers to an export of an incarnation that was named before or not, of which so many keys changed
abbrev pub taking : Bool → ℕ → Taking
taking true changed = Late
taking false changed = if changed == 0 then Stale else Taken changed

-- the names are those that the tombstones tell, whatever incarnation is asked for
abbrev pub Tell : List Name → Points → Type 0
Tell names points = (writer : WriterId) (start : ℕ) → has_name names writer start ≡ is_named points writer start

-- a point of the key's incarnation is held
abbrev pub is_held : Points → Key → Bool
is_held points key = list_any (λ h. is_of_incarnation h.writer h.start key) (held_incarnations points)

-- of one of these incarnations
abbrev pub is_of_any : List Gone → Key → Bool
is_of_any gone key = list_any (λ g. is_of_incarnation g.writer g.start key) gone

-- a keeper's fields
pub record IsKeeping (stream : Stream) (names : List Name) (points : Points) : Type 0 where
  pub stream_is : stream ≡ tombstones
  pub told : Tell names points
  pub all_shown : shown names_key points ≡ points
