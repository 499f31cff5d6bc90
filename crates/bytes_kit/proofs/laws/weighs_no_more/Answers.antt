use Rattle.bytes_kit.proofs.Weighing.{export_weighs, message_weighs}
use Rattle.bytes_kit.proofs.laws.weighs_no_more.Goals as goal

pub returns : goal.returns
returns c = record {
  exports = export_weighs;
  messages = message_weighs;
}
