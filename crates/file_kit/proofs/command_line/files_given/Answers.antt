use Rattle.std.proofs.Common.{codes}
use Rattle.clap.specs.Matches.{found_of}
use Rattle.clap.specs.Words.{rows_of}
use Rattle.file_kit.proofs.Taking.{files_are, lent}
use Rattle.file_kit.proofs.command_line.files_given.Goals as goal

pub returns-in-Some : goal.returns-in-Some
returns-in-Some c =
    files_are (rows_of (found_of c.args.options.now)) _ c.texts.result
    (lent (found_of c.args.options.now) (codes "files") c.get_strs.result c.in-Some.names c.get_strs.ensures c.in-Some.is) c.texts.ensures
