use Rattle.std.proofs.Common.{◌≡◌, ◌∙◌, Err, Some, ap, codes, sym}
use Rattle.clap.specs.Matches.{found_of}
use Rattle.clap.specs.Words.{Text, rows_of}
use Rattle.file_kit.specs.declared.command.CommandFault.{CommandFault}
use Rattle.file_kit.specs.declared.command.CommandFault.TheVariants as faults
use Rattle.file_kit.proofs.Taking.{archive_asks, lent, no_archive}
use Rattle.file_kit.proofs.command_line.read_archive.Goals as goal

pub returns-in-Err-clause-bad_words : goal.returns-in-Err-clause-bad_words
returns-in-Err-clause-bad_words c = λ text is.
    let same : c.in-Err.fault ≡ faults.BadWords text = cc in
    no_archive (rows_of (found_of c.args.options.now)) c.in-Some-get_strs.words.now
    (lent (found_of c.args.options.now) (codes "words") c.get_strs.result c.in-Some-get_strs.words c.get_strs.ensures c.in-Some-get_strs.is)
    (c.in-Err.ensures.bad_words text (ap (λ (f : CommandFault). Err f) same))

pub returns-in_ok-texts-in-Ok-clause-ok : goal.returns-in_ok-texts-in-Ok-clause-ok
returns-in_ok-texts-in-Ok-clause-ok c =
    archive_asks (rows_of (found_of c.args.options.now)) c.in-Some-get_strs.words.now
    (lent (found_of c.args.options.now) (codes "words") c.get_strs.result c.in-Some-get_strs.words c.get_strs.ensures c.in-Some-get_strs.is)
    _ c.in-Ok.ask c.split_at.result.1.now c.in_ok-texts-in-Ok.field-0
    (sym c.in_ok-into.ensures ∙ c.in-Some.is ∙ ap (λ (t : Text). Some t) (sym c.into.view_is)) c.in-Ok.ensures.ok c.split_at.ensures.back c.in_ok-texts-in-Ok.ensures
