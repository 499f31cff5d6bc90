use Rattle.file_kit.proofs.Requests.{sent_of, unsent_of}
use Rattle.file_kit.proofs.sending.file_request.Goals as goal

pub returns-in-Ok-clause-ok : goal.returns-in-Ok-clause-ok
returns-in-Ok-clause-ok c = sent_of c.args.bytes.now c.in-Ok.export c.in-Ok.ensures.value c.in-Ok.ensures.ok c.request_of.result c.request_of.ensures.ok

pub returns-in-Ok-clause-err : goal.returns-in-Ok-clause-err
returns-in-Ok-clause-err c = unsent_of c.args.place c.args.bytes.now c.in-Ok.export c.in-Ok.ensures.value c.in-Ok.ensures.ok c.request_of.result c.request_of.ensures.err
