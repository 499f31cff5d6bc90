use Rattle.std.proofs.Common.{IsUtf8, take, ap, subst, sym}
use Rattle.std.proofs.lemmas.Str.{IsUtf8-had}
use Rattle.round_kit.proofs.text.RoundText.as_str.Goals as goal

pub from_utf8_unchecked-requires : goal.from_utf8_unchecked-requires
from_utf8_unchecked-requires c = subst IsUtf8 (ap (λ n. take n c.self.inside.bytes) (sym c.from.ensures)) (IsUtf8-had _ c.self.invariant.1)
