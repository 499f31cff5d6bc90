use Rattle.std.proofs.Common.{◌≡◌, ◌∙◌, sym, rules, append_assoc}
use Rattle.std.specs.Str.{chars}
use Rattle.std.proofs.lemmas.Iterator.{YieldsList-from_chars}
use Rattle.std.proofs.lemmas.Iterator.Consumers.{YieldsList-end}
use Rattle.std.proofs.lemmas.List.{map-id}
use Rattle.file_kit.specs.Shown.{escaped}
use Rattle.file_kit.proofs.word.push_all_escaped.Goals as goal

pub returns : goal.returns
unfolding escaped
returns c =
    let t = YieldsList-end (YieldsList-from_chars c.args.word.now c.utf8.word cc) c.loop-c.yielded _ c.loop-c.yielded_by _ _ c.in-None.is c.next.ensures.steps in
    let all : c.loop-c.yielded ≡ chars c.args.word.now = sym (map-id c.loop-c.yielded) ∙ t.0 in
    let before = rw all at c.loop-c.invariant in
    search (rules, append_assoc)
