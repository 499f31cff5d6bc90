use Rattle.std.proofs.Common.{◌≡◌, Err, ap, codes}
use Rattle.clap.specs.Matches.{found_of}
use Rattle.clap.specs.Words.{rows_of}
use Rattle.file_kit.specs.declared.command.CommandFault.{CommandFault}
use Rattle.file_kit.specs.declared.command.CommandFault.TheVariants as faults
use Rattle.file_kit.proofs.Taking.{lent, no_ask, report_asks}
use Rattle.file_kit.proofs.command_line.read_report.Goals as goal

pub returns-in-Err-clause-bad_words : goal.returns-in-Err-clause-bad_words
returns-in-Err-clause-bad_words c = λ text is.
    let same : c.in-Err.fault ≡ faults.BadWords text = cc in
    no_ask (rows_of (found_of c.args.options.now)) c.in-Some.words.now c.split_at.result.0.now
    (lent (found_of c.args.options.now) (codes "words") c.get_strs.result c.in-Some.words c.get_strs.ensures c.in-Some.is)
    c.split_at.ensures.front (c.in-Err.ensures.bad_words text (ap (λ (f : CommandFault). Err f) same))

pub returns-in_ok-texts-in-Ok-clause-ok : goal.returns-in_ok-texts-in-Ok-clause-ok
returns-in_ok-texts-in-Ok-clause-ok c =
    report_asks (rows_of (found_of c.args.options.now)) c.in-Some.words.now c.split_at.result.0.now
    (lent (found_of c.args.options.now) (codes "words") c.get_strs.result c.in-Some.words c.get_strs.ensures c.in-Some.is)
    c.split_at.ensures.front c.split_at.result.1.now c.in-Ok.ask c.in_ok-texts-in-Ok.field-0 c.split_at.ensures.back c.in-Ok.ensures.ok c.in_ok-texts-in-Ok.ensures
