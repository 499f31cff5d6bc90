use Rattle.std.proofs.Common.{sym, ap, ◌∙◌}
use Rattle.std.proofs.lemmas.Bool.{false≢true}
use Rattle.bytes_kit.specs.Format.{stream}
use Rattle.bytes_kit.specs.FieldLaws.{stream_code}
use Rattle.bytes_kit.specs.Past.{Past, is_last}
use Rattle.bytes_kit.specs.PastFits.{IsOtherStream}
use Rattle.bytes_kit.proofs.Refusing.{none_but}
use Rattle.bytes_kit.proofs.fields.read_other.Goals as goal

pub returns-then-is_last-clause-err : goal.returns-then-is_last-clause-err
returns-then-is_last-clause-err c =
    let p = c.args.history.now in
    λ _. none_but (stream p) (IsOtherStream p) (stream_code p) c.in_ok-stream.stream c.args.reader.now.rest c.read_behind.new.reader.rest c.in_ok-stream.ensures.found
    (λ fit. false≢true (sym fit.1 ∙ sym (ap (λ (h : Past). is_last h.stream c.in_ok-stream.stream) c.in_ok-stream.ensures.history) ∙ sym c.is_last.ensures.value ∙ c.if-is_last.true))
