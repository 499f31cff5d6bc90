-- Why bytes are no export, and what decoding answers.
use Rattle.std.specs.Prelude.{◌≡◌, Result, Ok, Err}
use Rattle.point_kit.specs.declared.export.Export.{Export}
use Rattle.point_kit.specs.declared.export_fault.ExportFault.{ExportFault}
use Rattle.point_kit.specs.declared.export_fault.ExportFault.TheVariants as builds
use Rattle.bytes_kit.specs.declared.fault.DecodeFault.{DecodeFault}
use Rattle.bytes_kit.specs.declared.fault.DecodeFault.TheVariants as faults

-- why values make no export
abbrev pub decode_fault : ExportFault → DecodeFault
decode_fault builds.NoMemory = faults.NoMemory
decode_fault fault = faults.BadExport fault

-- the export, or want of memory
abbrev pub GivesBack : Result Export DecodeFault → Export → Type 0
GivesBack (Ok found) e = found ≡ e
GivesBack (Err fault) e = fault ≡ faults.NoMemory
