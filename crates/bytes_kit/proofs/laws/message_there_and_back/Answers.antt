use Rattle.std.proofs.Common.{◌∙◌}
use Rattle.bytes_kit.proofs.laws.message_there_and_back.Goals as goal

pub returns : goal.returns
returns c = λ sound. c.decode_message.ensures.found c.args.message.now c.in_ok-bytes.ensures.value sound (c.as_slice.ensures.value ∙ c.in_ok-bytes.ensures.ok)
