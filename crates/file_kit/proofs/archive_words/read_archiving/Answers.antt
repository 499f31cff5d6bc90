use Rattle.std.proofs.Common.{◌≡◌, Err, ap}
use Rattle.file_kit.specs.declared.command.CommandFault.{CommandFault}
use Rattle.file_kit.specs.declared.command.CommandFault.TheVariants as faults
use Rattle.file_kit.proofs.archive_words.read_archiving.Goals as goal

pub returns-in-Err-read_time-clause-bad_words : goal.returns-in-Err-read_time-clause-bad_words
returns-in-Err-read_time-clause-bad_words c = λ text is ask asks.
    let same : c.in-Err-read_time.fault ≡ faults.BadWords text = cc in
    c.in-Err-read_time.ensures.bad_words text (ap (λ (f : CommandFault). Err f) same) ask.time asks.time

pub returns-in-Err-clause-bad_words : goal.returns-in-Err-clause-bad_words
returns-in-Err-clause-bad_words c = λ text is ask asks.
    let same : c.in-Err.fault ≡ faults.BadWords text = cc in
    c.in-Err.ensures.bad_words text (ap (λ (f : CommandFault). Err f) same) ask.writer ask.start asks.writer
