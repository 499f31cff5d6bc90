-- What calls answer, and what they make of what handles have.
use Rattle.std.specs.Prelude.{ℤ, pos, List, [], ◌++◌, length, take, drop, Option, Some, None}
use Rattle.kit_c.specs.Codes.{code_of}
use Rattle.kit_c.specs.declared.fault.Fault.{Fault}
use Rattle.kit_c.specs.declared.fault.Fault.TheVariants as faults

-- the code of the first refusal that fits, or 0 where none does
abbrev pub code_for : Option Fault → ℤ
code_for None = pos 0
code_for (Some f) = code_of f

-- what a handle that has nothing refuses, else what the thing does
abbrev pub of_one : {X : Type 0} → Option X → (X → Option Fault) → Option Fault
of_one None refusal = Some faults.Nothing
of_one (Some x) refusal = refusal x

-- the same of two handles, the first one first
abbrev pub of_two : {X Y : Type 0} → Option X → Option Y → (X → Y → Option Fault) → Option Fault
of_two m n refusal = of_one m (λ x. of_one n (refusal x))

-- nothing else is refused
abbrev pub if_any : {X : Type 0} → X → Option Fault
if_any x = None

abbrev pub if_both : {X Y : Type 0} → X → Y → Option Fault
if_both x y = None

-- a handle that is to be filled has something
abbrev pub full_fault : {X : Type 0} → Option X → Option Fault
full_fault None = None
full_fault (Some x) = Some faults.Full

-- what a handle has once it was changed
abbrev pub in_one : {X : Type 0} → (X → X) → Option X → Option X
in_one change None = None
in_one change (Some x) = Some (change x)

-- the same by what another has, of which one may have nothing
abbrev pub in_first : {X Y : Type 0} → (X → Y → X) → Option X → Option Y → Option X
in_first change (Some x) (Some y) = Some (change x y)
in_first change m n = m

-- what is made of what two handles have
abbrev pub from_two : {X Y Z : Type 0} → (X → Y → Z) → Option X → Option Y → Option Z
from_two make (Some x) (Some y) = Some (make x y)
from_two make m n = None

-- a list that there may not be
abbrev pub listed : {X : Type 0} → Option (List X) → List X
listed None = []
listed (Some xs) = xs

-- a room once the front of a list was copied into it
abbrev pub filled : {X : Type 0} → List X → List X → List X
filled xs room = take (length room) xs ++ drop (length xs) room
