use Rattle.bytes_kit.proofs.MessageSealing.{none_in_empty}
use Rattle.bytes_kit.proofs.Staying.{exports_sound, joins_sound}
use Rattle.bytes_kit.proofs.laws.stays_sound.Goals as goal

pub returns : goal.returns
returns c = record {
  nothing = none_in_empty;
  exports = exports_sound;
  joins = joins_sound;
  messages = λ carried points held sound k cell e. sound k cell (held k cell e);
}
