-- Asks.
use Rattle.std.specs.Prelude.{ℕ, List, [], ◌∷◌, Option, None}
use Rattle.attr_kit.specs.Refusing.{first}
use Rattle.attr_kit.specs.declared.keep.Keep.TheVariants as keeps
use Rattle.plan_kit.specs.Names.{lower}
use Rattle.point_kit.specs.declared.shape.Shape.{Shape}
use Rattle.point_kit.specs.declared.stream.Stream.{Stream}
use Rattle.rollup_kit.specs.declared.ask.Ask.{Ask}
use Rattle.kit_c.specs.Calls.{full_fault}
use Rattle.kit_c.specs.Faults.{text_fault}
use Rattle.kit_c.specs.declared.fault.Fault.{Fault}

-- the texts of a stream are no texts
abbrev pub stream_fault : List ℕ → List ℕ → List ℕ → Option Fault
stream_fault scope name unit = first (text_fault scope ∷ text_fault name ∷ text_fault unit ∷ [])

-- the same of an ask in a handle that is to be filled
abbrev pub asking_fault : Option Ask → List ℕ → List ℕ → List ℕ → Option Fault
asking_fault m scope name unit = first (full_fault m ∷ stream_fault scope name unit ∷ [])

-- a stream, whose name plans lower
abbrev pub stream_of : List ℕ → List ℕ → List ℕ → Shape → Stream
stream_of scope name unit shape = record { scope = scope; name = lower name; unit = unit; shape = shape }

-- an ask of all points of a stream, each set of attributes apart
abbrev pub all_of : Stream → Ask
all_of stream = record { stream = stream; service = None; only = []; keep = keeps.All }
