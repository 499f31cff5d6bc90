-- Views, and the aggregations that numbers stand for.
use Rattle.std.specs.Prelude.{ℕ, ◌==◌, cond, is_none, Option, Some, None}
use Rattle.attr_kit.specs.Refusing.{when}
use Rattle.attr_kit.specs.declared.keep.Keep.TheVariants as keeps
use Rattle.plan_kit.specs.declared.view.Aggregation.{Aggregation}
use Rattle.plan_kit.specs.declared.view.Aggregation.TheVariants as aggregations
use Rattle.plan_kit.specs.declared.view.NameRule.{NameRule}
use Rattle.plan_kit.specs.declared.view.View.{View}
use Rattle.kit_c.specs.declared.fault.Fault.{Fault}
use Rattle.kit_c.specs.declared.fault.Fault.TheVariants as faults

-- a view that matches by its name rule alone, and changes nothing
abbrev pub plain_view : NameRule → View
plain_view rule = record { name = rule; kind = None; scope = None; rename = None; keep = keeps.All; aggregation = aggregations.Default }

-- the aggregation that a number stands for
abbrev pub numbered_aggregation : ℕ → Option Aggregation
numbered_aggregation n = cond (n == 0) (Some aggregations.Default) (cond (n == 1) (Some aggregations.Sum)
    (cond (n == 2) (Some aggregations.LastValue) (cond (n == 3) (Some aggregations.Drop) None)))

-- a number that stands for none
abbrev pub aggregation_fault : ℕ → Option Fault
aggregation_fault n = when (is_none (numbered_aggregation n)) faults.BadNumber
