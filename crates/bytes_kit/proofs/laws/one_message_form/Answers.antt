use Rattle.std.proofs.Common.{refl}
use Rattle.bytes_kit.specs.Messages.{fields_of_message, bytes_of_message}
use Rattle.bytes_kit.proofs.MessageSealing.{same_message, same_message_fields}
use Rattle.bytes_kit.proofs.laws.one_message_form.Goals as goal

pub returns : goal.returns
returns c = λ a b h k e. same_message a b h k (same_message_fields (bytes_of_message a) (fields_of_message a) (fields_of_message b) refl e)
