-- What a run of a script has written where it ends, and at which line it ends.
use Rattle.std.specs.Prelude.{◌≡◌, ◌<◌, ◌≤◌, ℕ, List, Option, Result, IfErr, IfSome, length}
use Rattle.std.specs.Io.KnownBytes.{Appends}
use Rattle.script_kit.specs.Bytes.{AppendsFront}
use Rattle.script_kit.specs.declared.fault.ScriptFault.TheVariants as faults
use Rattle.otm_kit.specs.Says.{says}
use Rattle.otm_kit.specs.declared.ended.Ended.{Ended}

-- known bytes grow by all that the script says, where its bytes are known
abbrev pub Writes : Option (List ℕ) → Option (List ℕ) → Option (List ℕ) → Type 0
Writes script old new = IfSome script (λ s. Appends old new (says s))

-- they grow by a front of that
abbrev pub WritesFront : Option (List ℕ) → Option (List ℕ) → Option (List ℕ) → Type 0
WritesFront script old new = IfSome script (λ s. AppendsFront old new (says s))

-- a script has no more bytes than so many, where they are known
abbrev pub HasAtMost : ℕ → Option (List ℕ) → Type 0
HasAtMost most script = IfSome script (λ s. length s ≤ most)

abbrev pub HasMoreThan : ℕ → Option (List ℕ) → Type 0
HasMoreThan most script = IfSome script (λ s. most < length s)

-- where a run ended at a bad line, this holds of its end and of the line's number
abbrev pub AtBadLine : {A : Type 0} → Result A Ended → (Ended → ℕ → Type 0) → Type 0
AtBadLine result P = IfErr result (λ end. (n : ℕ) → end.fault ≡ faults.BadLine n → P end n)
