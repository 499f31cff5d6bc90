-- What a reader answers.
use Rattle.std.specs.Prelude.{◌≡◌, ◌≢◌, ℕ, List, ◌++◌, Result, Ok, Err}
use Rattle.bytes_kit.specs.declared.fault.DecodeFault.{DecodeFault}
use Rattle.bytes_kit.specs.declared.fault.DecodeFault.TheVariants as faults

-- the bytes do not begin with the form of a value
abbrev pub NoneAt : {A : Type 0} → (A → List ℕ) → (A → Type 0) → List ℕ → Type 0
NoneAt {A} code is_value bytes = (a : A) (rest : List ℕ) → is_value a → bytes ≡ code a ++ rest → ⊥

-- The value whose form comes first, and what is left behind it; if there is none, or no memory, a fault.
abbrev pub Reads : {A : Type 0} → (A → List ℕ) → (A → Type 0) → List ℕ → Result A DecodeFault → List ℕ → Type 0
Reads code is_value bytes (Ok a) rest = bytes ≡ code a ++ rest
Reads code is_value bytes (Err fault) rest = fault ≢ faults.NoMemory → NoneAt code is_value bytes
