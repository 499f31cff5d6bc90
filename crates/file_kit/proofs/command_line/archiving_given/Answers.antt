use Rattle.std.proofs.Common.{codes, ◌∙◌}
use Rattle.clap.specs.Matches.{found_of}
use Rattle.clap.specs.Words.{rows_of}
use Rattle.file_kit.proofs.Taking.{asks_archive, asks_none, first_lent}
use Rattle.file_kit.proofs.command_line.archiving_given.Goals as goal

pub returns-clause-ok : goal.returns-clause-ok
returns-clause-ok c =
    asks_archive (rows_of (found_of c.args.options.now)) c.args.words.now c.split_at.result.0.now c.split_at.result.1.now c.split_at-2.result.0.now _
    c.split_at.ensures.front c.split_at.ensures.back c.split_at-2.ensures.front (c.get_str.ensures ∙ first_lent (found_of c.args.options.now) (codes "limit"))
    c.read_archiving.result c.read_archiving.ensures.ok

pub returns-clause-bad_words : goal.returns-clause-bad_words
returns-clause-bad_words c = λ text is.
    asks_none (rows_of (found_of c.args.options.now)) c.args.words.now c.split_at.result.0.now c.split_at.result.1.now c.split_at-2.result.0.now _
    c.split_at.ensures.front c.split_at.ensures.back c.split_at-2.ensures.front (c.get_str.ensures ∙ first_lent (found_of c.args.options.now) (codes "limit"))
    (c.read_archiving.ensures.bad_words text is)
