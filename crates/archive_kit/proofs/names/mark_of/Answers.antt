use Rattle.std.proofs.Common.{ap, ◌∙◌, length}
use Rattle.uuid.specs.Text.{hyphenated_text, lower}
use Rattle.archive_kit.proofs.Naming.{text_long}
use Rattle.archive_kit.proofs.names.mark_of.Goals as goal

pub returns-in_err-instance-clause-none : goal.returns-in_err-instance-clause-none
returns-in_err-instance-clause-none c =
    absurd (c.in_err-instance.ensures.none (ap (λ t. length t) (c.encode_lower.ensures.text ∙ ap (hyphenated_text lower) c.hyphenated-id.ensures) ∙ text_long c.args.writer.now))
