use Rattle.std.proofs.Common.{ℕ, Option, is_some, sym, ap, ◌∙◌}
use Rattle.std.proofs.lemmas.Bool.{false≢true}
use Rattle.bytes_kit.specs.Format.{text}
use Rattle.bytes_kit.specs.Laws.{text_code}
use Rattle.bytes_kit.specs.PastFits.{IsNewText}
use Rattle.bytes_kit.proofs.Refusing.{none_but}
use Rattle.bytes_kit.proofs.passages.read_new.Goals as goal

pub returns-then-is_some-clause-err : goal.returns-then-is_some-clause-err
returns-then-is_some-clause-err c =
    λ _. none_but text (IsNewText c.args.history.now) text_code c.in_ok-text.text c.args.reader.now.rest c.read.new.reader.rest c.in_ok-text.ensures.found
    (λ fit. false≢true (sym (ap (λ (o : Option ℕ). is_some o) (c.in_ok-enter.ensures.value ∙ fit.1)) ∙ sym c.is_some.ensures ∙ c.if-is_some.true))
