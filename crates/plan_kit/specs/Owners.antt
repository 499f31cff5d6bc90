-- Which instruments are equal.
use Rattle.std.specs.Prelude.{ℕ, List, Bool}
use Rattle.std.specs.List.{position_or_len}
use Rattle.plan_kit.specs.declared.instrument.Instrument.{Instrument}
use Rattle.plan_kit.specs.contracts.instrument.InstrumentPartialEq.TheImpl as instruments

-- two lowered instruments are equal: scope, name, unit and kind
abbrev pub is_same : Instrument → Instrument → Bool
is_same i j = (instruments.ghosts).eq i j

-- the place of the first instrument that is equal to this one, which is its own where no earlier one is
abbrev pub owner_of : List Instrument → Instrument → ℕ
owner_of is i = position_or_len (is_same i) is
