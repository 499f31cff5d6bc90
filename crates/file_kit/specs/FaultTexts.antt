-- What the faults of files print.
use Rattle.std.specs.Prelude.{ℕ, List, codes, string_bytes, Option, Some, None}
use Rattle.bytes_kit.specs.FaultTexts.{decode_text}
use Rattle.file_kit.specs.declared.command.CommandFault.{CommandFault}
use Rattle.file_kit.specs.declared.command.CommandFault.TheVariants as command
use Rattle.file_kit.specs.declared.fault.ArchiveFault.{ArchiveFault}
use Rattle.file_kit.specs.declared.fault.ArchiveFault.TheVariants as archive
use Rattle.file_kit.specs.declared.fault.FileFault.{FileFault}
use Rattle.file_kit.specs.declared.fault.FileFault.TheVariants as file
use Rattle.file_kit.specs.declared.fault.SendFault.{SendFault}
use Rattle.file_kit.specs.declared.fault.SendFault.TheVariants as send

-- that of a file that is none is the reason's
abbrev pub file_text : FileFault → Option (List ℕ)
file_text (file.Refused place fault) = decode_text fault
file_text file.NoMemory = Some (codes "no memory")

abbrev pub send_text : SendFault → Option (List ℕ)
send_text (send.Refused place fault) = decode_text fault
send_text (send.Unsaid place fault) = None
send_text send.NoMemory = Some (codes "no memory")

abbrev pub archive_text : ArchiveFault → Option (List ℕ)
archive_text archive.TimeNotLater = Some (codes "the time is not later than the start")
archive_text (archive.Unjoined fault) = file_text fault
archive_text archive.Taken = Some (codes "the files hold points of this instance and start")
archive_text (archive.Unadopted writer start fault) = None
archive_text archive.NoMemory = Some (codes "no memory")

abbrev pub command_text : CommandFault → Option (List ℕ)
command_text (command.BadWords text) = Some (string_bytes text)
command_text command.NoMemory = Some (codes "no memory")
