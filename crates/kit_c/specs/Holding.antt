-- Writers that hold each pair of an instrument and a set once.
use Rattle.std.specs.Prelude.{ℕ, length, Option, None}
use Rattle.std.specs.Option.{option_map_or, unwrap_or}
use Rattle.attr_kit.specs.declared.attr_set.AttrSet.{AttrSet}
use Rattle.writer_kit.specs.Recording.{after_hold}
use Rattle.writer_kit.specs.Refusals.{hold_fault}
use Rattle.writer_kit.specs.Written.{Written}
use Rattle.writer_kit.specs.declared.fault.MeasureFault.{MeasureFault}
use Rattle.kit_c.specs.Pairs.{number_of}

-- the number of a pair that a writer holds, the least of an equal one
abbrev pub number_at : Written → ℕ → AttrSet → Option ℕ
number_at w i a = number_of w.tally.held i a

-- a writer once it holds a pair: one that it holds already it holds as it did
abbrev pub after_holding : Written → ℕ → AttrSet → Written
after_holding w i a = option_map_or (λ n. w) (number_at w i a) (after_hold w i a)

-- the number that the pair then has
abbrev pub number_after : Written → ℕ → AttrSet → ℕ
number_after w i a = unwrap_or (number_at w i a) (length w.tally.held)

-- why it does not: a pair that it holds already is not refused
abbrev pub holding_fault : Written → ℕ → AttrSet → Option MeasureFault
holding_fault w i a = option_map_or (λ n. None) (number_at w i a) (hold_fault w i)
