-- What a fault of a script prints.
use Rattle.std.specs.Prelude.{ℕ, List, ◌++◌, codes}
use Rattle.std.specs.Fmt.{decimal}
use Rattle.script_kit.specs.declared.fault.ScriptFault.{ScriptFault}
use Rattle.script_kit.specs.declared.fault.ScriptFault.TheVariants as fault

abbrev pub text_of : ScriptFault → List ℕ
text_of fault.ReadFault = codes "read failed"
text_of fault.TooLong = codes "too long"
text_of (fault.BadLine n) = codes "line " ++ decimal n
text_of fault.WriteFault = codes "write failed"
text_of fault.NoMemory = codes "no memory"
