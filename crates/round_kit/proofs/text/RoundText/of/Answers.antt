use Rattle.std.proofs.Common.{◌∙◌, ◌≤◌, IsUtf8, arith, length, subst, sym}
use Rattle.round_kit.proofs.Room.{text_copied}
use Rattle.round_kit.proofs.text.RoundText.of.Goals as goal

pub invariant_of-result : goal.invariant_of-result
invariant_of-result c =
    let room : length c.as_str-len.result.now ≤ 20 = omega (arith, c.if-len-gt-ROOM.false) in
    let text = text_copied _ _ _ _ _ 20 c.as_str-len.ensures.value c.room.ensures c.in_ok-bytes.ensures.cases.same room in
    (room, ∣ subst IsUtf8 (c.as_str-len.ensures.value ∙ sym text) c.as_str-len.utf8 ∣₁)

pub returns-clause-some : goal.returns-clause-some
returns-clause-some c =
    let room : length c.as_str-len.result.now ≤ 20 = omega (arith, c.if-len-gt-ROOM.false) in
    text_copied _ _ _ _ _ 20 c.as_str-len.ensures.value c.room.ensures c.in_ok-bytes.ensures.cases.same room
