-- Two values under one set.
use Rattle.std.specs.Prelude.{ℕ, ℤ}
use Rattle.agg_kit.specs.Entries.{entry_of}
use Rattle.agg_kit.specs.Measuring.{after_measure}
use Rattle.agg_kit.specs.Tallies.{Tallied}
use Rattle.attr_kit.specs.declared.attr_set.AttrSet.{AttrSet}

-- a tally once an instrument has recorded one value and then another
abbrev pub after_two : Tallied → ℕ → AttrSet → ℤ → ℤ → Tallied
after_two t instrument attrs first second = after_measure (after_measure t (entry_of instrument attrs first)) (entry_of instrument attrs second)
