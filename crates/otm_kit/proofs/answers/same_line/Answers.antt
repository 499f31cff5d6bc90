use Rattle.otm_kit.proofs.Runnings.{same_yes, same_no}
use Rattle.otm_kit.proofs.answers.same_line.Goals as goal

pub returns-in_ok-from_str : goal.returns-in_ok-from_str
returns-in_ok-from_str c = same_yes c.same.result c.args.one.now.points c.args.other.now.points _ c.same.ensures.value c.if-same.true c.in_ok-from_str.ensures.ok

pub returns-in_ok-from_str-2 : goal.returns-in_ok-from_str-2
returns-in_ok-from_str-2 c = same_no c.same.result c.args.one.now.points c.args.other.now.points _ c.same.ensures.value c.if-same.false c.in_ok-from_str-2.ensures.ok
