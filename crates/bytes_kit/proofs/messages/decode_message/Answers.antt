use Rattle.std.proofs.Common.{sym}
use Rattle.std.proofs.lemmas.Result.{err_from_is_err_and}
use Rattle.gossip_kit.specs.Bodies.{cells_of, delta_of, ack_of}
use Rattle.bytes_kit.specs.Messages.{MessageFields, fields_of_message}
use Rattle.bytes_kit.proofs.MessageSealing.{faulty, view_bytes, view_fits, view_is, view_sound, same_message_fields}
use Rattle.bytes_kit.proofs.Sealing.{no_memory}
use Rattle.bytes_kit.proofs.messages.decode_message.Goals as goal

pub returns-in_err-from-clause-found : goal.returns-in_err-from-clause-found
returns-in_err-from-clause-found c =
    let p = err_from_is_err_and c.from_residual.result c.from_residual.ensures.1 in
    rw (p.1, p.2) (λ m fit sound is. no_memory c.in_err-from.field-0.0 (λ ne. c.in_err-from.ensures.err ne (fields_of_message m) fit.0 is))

pub returns-in-Some-clause-found : goal.returns-in-Some-clause-found
returns-in-Some-clause-found c =
    let x : MessageFields = (c.in_ok-from.from, c.in_ok-from.to, c.in_ok-from.carried) in
    λ m fit sound is. absurd (faulty x c.in-Some.fault m sound (sym c.in-Some.ensures) (same_message_fields c.args.bytes.now x (fields_of_message m) c.in_ok-from.ensures.ok is))

pub returns-in-Some-clause-fault : goal.returns-in-Some-clause-fault
returns-in-Some-clause-fault c =
    let x : MessageFields = (c.in_ok-from.from, c.in_ok-from.to, c.in_ok-from.carried) in
    (x, c.in_ok-from.ensures.ok, sym c.in-Some.ensures)

pub returns-clause-ok : goal.returns-clause-ok
returns-clause-ok c =
    let body = c.in_ok-body.body in
    view_bytes c.new.result c.args.bytes.now c.in_ok-from.from c.in_ok-from.to (cells_of body) (delta_of body) (ack_of body) c.in_ok-from.carried c.new.ensures.value c.in_ok-body.ensures.value c.in_ok-from.ensures.ok

pub returns-clause-value : goal.returns-clause-value
returns-clause-value c =
    let body = c.in_ok-body.body in
    view_fits c.new.result c.in_ok-from.from c.in_ok-from.to (cells_of body) (delta_of body) (ack_of body) c.in_ok-from.carried c.new.ensures.value c.in_ok-body.ensures.one c.in_ok-body.ensures.value c.in_ok-from.ensures.value

pub returns-clause-sound : goal.returns-clause-sound
returns-clause-sound c =
    let body = c.in_ok-body.body in
    view_sound c.new.result c.in_ok-from.from c.in_ok-from.to (cells_of body) (delta_of body) (ack_of body) c.in_ok-from.carried c.new.ensures.value c.in_ok-body.ensures.one c.in_ok-body.ensures.value (sym c.in_default.ensures)

pub returns-clause-found : goal.returns-clause-found
returns-clause-found c =
    let body = c.in_ok-body.body in
    let x : MessageFields = (c.in_ok-from.from, c.in_ok-from.to, c.in_ok-from.carried) in
    λ m fit sound is.
    view_is c.new.result m c.in_ok-from.from c.in_ok-from.to (cells_of body) (delta_of body) (ack_of body) c.in_ok-from.carried c.new.ensures.value c.in_ok-body.ensures.one c.in_ok-body.ensures.value fit.1
    (same_message_fields c.args.bytes.now x (fields_of_message m) c.in_ok-from.ensures.ok is)
