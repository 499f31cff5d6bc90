use Rattle.std.proofs.Common.{◌≡◌, ◌∙◌, sym, true, false}
use Rattle.std.proofs.lemmas.Result.{err_from_is_err_and}
use Rattle.file_kit.specs.Contents.{is_message}
use Rattle.file_kit.proofs.Reading.{export_read, export_unread, message_read, message_unread}
use Rattle.file_kit.proofs.content.read.Goals as goal

pub returns-in_err-decode_message-clause-found : goal.returns-in_err-decode_message-clause-found
returns-in_err-decode_message-clause-found c = λ k fits is.
    let letter : is_message c.args.bytes.now ≡ true = sym c.is_message.ensures ∙ c.if-is_message.true in
    let p = err_from_is_err_and c.from_residual.result c.from_residual.ensures.1 in
    rw (p.1, p.2) (message_unread c.args.bytes.now letter _ c.in_err-decode_message.ensures.found k fits is)

pub returns-in_err-decode_export-clause-found : goal.returns-in_err-decode_export-clause-found
returns-in_err-decode_export-clause-found c = λ k fits is.
    let letter : is_message c.args.bytes.now ≡ false = sym c.is_message.ensures ∙ c.if-is_message.false in
    let p = err_from_is_err_and c.from_residual-in_err-decode_export.result c.from_residual-in_err-decode_export.ensures.1 in
    rw (p.1, p.2) (export_unread c.args.bytes.now letter _ c.in_err-decode_export.ensures.found k fits is)

pub returns-in_ok-decode_message-clause-found : goal.returns-in_ok-decode_message-clause-found
returns-in_ok-decode_message-clause-found c =
    let letter : is_message c.args.bytes.now ≡ true = sym c.is_message.ensures ∙ c.if-is_message.true in
    message_read c.args.bytes.now letter c.in_ok-decode_message.field-0 c.in_ok-decode_message.ensures.found

pub returns-in_ok-decode_export-clause-found : goal.returns-in_ok-decode_export-clause-found
returns-in_ok-decode_export-clause-found c =
    let letter : is_message c.args.bytes.now ≡ false = sym c.is_message.ensures ∙ c.if-is_message.false in
    export_read c.args.bytes.now letter c.in_ok-decode_export.field-0 c.in_ok-decode_export.ensures.found
