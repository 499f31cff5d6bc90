-- What the streams of a plan keep true.
use Rattle.std.specs.Prelude.{◌≡◌, ℕ, List, Option, Some, slice_get}
use Rattle.attr_kit.specs.declared.attr_set.AttrSet.{AttrSet}
use Rattle.plan_kit.specs.Plans.{Planned, feeds_of}
use Rattle.agg_kit.specs.Feeding.{overflow_set}
use Rattle.agg_kit.specs.Held.{lone_feed}
use Rattle.agg_kit.specs.Sound.{AllSound}
use Rattle.agg_kit.specs.Tallies.{Points}

-- a stream that is kept of an instrument is that of its one feed, which keeps all keys
abbrev pub AreLone : Planned → List (Option ℕ) → Type 0
AreLone p lone = (i m : ℕ) → slice_get lone i ≡ Some (Some m) → feeds_of p i ≡ lone_feed m

-- the overflow set is at hand, each stream has sound points, and lone feeds are known
pub record AreStreams (plan : Planned) (overflow : AttrSet) (series : List Points) (lone : List (Option ℕ)) : Type 0 where
  pub overflow_is : overflow ≡ overflow_set
  pub sound : AllSound plan.streams series
  pub lone_is : AreLone plan lone
