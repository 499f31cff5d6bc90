-- Kinds of instruments by numbers.
use Rattle.std.specs.Prelude.{ℕ, ◌==◌, cond, is_none, Option, Some, None}
use Rattle.attr_kit.specs.Refusing.{when}
use Rattle.plan_kit.specs.declared.instrument.Kind.{Kind}
use Rattle.plan_kit.specs.declared.instrument.Kind.TheVariants.{Counter, UpDown, Gauge, Histogram}
use Rattle.kit_c.specs.declared.fault.Fault.{Fault}
use Rattle.kit_c.specs.declared.fault.Fault.TheVariants.{BadNumber}

-- the kind that a number stands for
abbrev pub numbered_kind : ℕ → Option Kind
numbered_kind n = cond (n == 0) (Some Counter)
    (cond (n == 1) (Some UpDown) (cond (n == 2) (Some Gauge) (cond (n == 3) (Some Histogram) None)))

-- a number that stands for none
abbrev pub kind_fault : ℕ → Option Fault
kind_fault n = when (is_none (numbered_kind n)) BadNumber
