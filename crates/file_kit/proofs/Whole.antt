-- What files without tombstones show.
use Rattle.std.proofs.Common.{◌≡◌, true, false, List, [], ◌∷◌, ℕ, refl, ap}
use Rattle.std.specs.Prelude.{◌||◌, ◌&&◌, not}
use Rattle.std.specs.List.{list_any}
use Rattle.std.specs.FinMap.{keys}
use mathlib.Core.Bool.{true≢false}
use Rattle.point_kit.specs.Exports.{Points}
use Rattle.point_kit.specs.declared.key.Key.{Key}
use Rattle.archive_kit.proofs.Left.{left_all}
use Rattle.archive_kit.specs.Showing.{hides}
use Rattle.archive_kit.specs.Tombstones.{incarnation_attrs, is_tombstone, names_key, set_eq}
use Rattle.file_kit.specs.Contents.{Says, Shows}

-- where no key is a tombstone, none names another
none_names : (k : Key) (ts : List Key) → list_any is_tombstone ts ≡ false → list_any (λ t. names_key t k) ts ≡ false
none_names k [] e = refl
none_names k (t ∷ ts) e =
    elim (is_tombstone t) as (λ b. (b || list_any is_tombstone ts) ≡ false
    → ((b && (not (is_tombstone k) && set_eq t.attrs (incarnation_attrs k.writer k.start))) || list_any (λ t. names_key t k) ts) ≡ false) [
      | true ↦ λ h. absurd (true≢false h)
      | false ↦ λ h. none_names k ts h
    ] e

pub all_shown : (files : List (List ℕ)) (points : Points) → Says files points → list_any is_tombstone (keys points) ≡ false → Shows files points
all_shown files points says none =
    (points, says, left_all points (λ k. not (hides names_key points k)) (λ k. ap not (none_names k (keys points) none)))
