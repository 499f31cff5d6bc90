-- The point of a feed that keeps all keys, at the place where it is known to stand, in the points of its stream as they were read.
use Rattle.std.proofs.Common.{◌≡◌, ℕ, ℤ, ◌<◌, Bool, List, Some, length, get_or, position, sym, ap, subst, ◌∙◌}
use Rattle.std.specs.Map.{keys_of}
use Rattle.attr_kit.specs.declared.attr_set.AttrSet.{AttrSet}
use Rattle.point_kit.specs.declared.shape.Shape.{Shape}
use Rattle.plan_kit.specs.Plans.{Planned}
use Rattle.agg_kit.specs.Feeding.{set_eq}
use Rattle.agg_kit.specs.Feeds.{entries_of, series_at, shape_at}
use Rattle.agg_kit.specs.FreshPoints.{payload_in}
use Rattle.agg_kit.specs.Held.{place_of}
use Rattle.agg_kit.specs.Payloads.{is_out_of_range}
use Rattle.agg_kit.specs.Steps.{Stored, bounds_of, fed_set, payload_after, payload_with_value}
use Rattle.agg_kit.specs.Tallies.{Points}
use Rattle.agg_kit.proofs.Records.{entries-read}
use Rattle.agg_kit.proofs.Steps.{range-there}

pub placed : (p : Planned) (a : AttrSet) (ss : List Stored) (points : Stored) (stream place : ℕ) → stream < length ss → points ≡ get_or ss stream points
    → place_of p.limit (series_at (entries_of ss) stream) a ≡ Some place → position (set_eq (fed_set p.limit points.entries a)) (keys_of points.entries) ≡ Some place
placed p a ss points stream place l was at = ap (λ (es : Points). place_of p.limit es a) (sym (entries-read ss stream points l was)) ∙ at

-- whether it stays in range with one more value, where that was asked of its payload there
pub told_there : (p : Planned) (a : AttrSet) (v : ℤ) (points : Stored) (stream place : ℕ) (s : Shape) (out : Bool)
    → position (set_eq (fed_set p.limit points.entries a)) (keys_of points.entries) ≡ Some place → s ≡ shape_at p stream
    → is_out_of_range (payload_with_value (bounds_of s) (payload_in s points.entries place) v) ≡ out
    → is_out_of_range (payload_after (shape_at p stream) points.entries (fed_set p.limit points.entries a) v) ≡ out
told_there p a v points stream place s out at is told =
    subst (λ (t : Shape). is_out_of_range (payload_after t points.entries (fed_set p.limit points.entries a) v) ≡ out) is
    (range-there s points.entries (fed_set p.limit points.entries a) v place out at told)
