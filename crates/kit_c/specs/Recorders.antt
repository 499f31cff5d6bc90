-- What calls make of recorders, and why they are refused.
use Rattle.std.specs.Prelude.{◌^◌, ◌++◌, ℕ, [], ◌∷◌, ◌||◌, length, nat_le, Option}
use Rattle.attr_kit.specs.Refusing.{when}
use Rattle.recorder_kit.specs.Log.{Logged, Recording}
use Rattle.recorder_kit.specs.declared.fault.RecordFault.TheVariants as records
use Rattle.kit_c.specs.declared.fault.Fault.{Fault}
use Rattle.kit_c.specs.declared.fault.Fault.TheVariants as faults

-- a log of no recordings
abbrev pub empty_log : ℕ → Logged
empty_log capacity = record { log = []; capacity = capacity }

-- a log with a recording more
abbrev pub noted : Recording → Logged → Logged
noted e r = record r { log = r.log ++ e ∷ [] }

-- a log has as many recordings as it may
unfoldable pub full_log : Logged → Option Fault
full_log r = when (nat_le r.capacity (length r.log)) (faults.Record records.Full)

-- the same, or a number is too great to be noted
unfoldable pub full_for_number : ℕ → Logged → Option Fault
full_for_number n r = when (nat_le r.capacity (length r.log) || nat_le (2 ^ 32) n) (faults.Record records.Full)
