use Rattle.std.proofs.Common.{◌≡◌, ◌∙◌, sym, rules, append_assoc}
use Rattle.std.specs.Str.{chars}
use Rattle.std.proofs.lemmas.Iterator.{YieldsList-from_chars}
use Rattle.std.proofs.lemmas.Iterator.Consumers.{YieldsList-end}
use Rattle.std.proofs.lemmas.List.{map-id}
use Rattle.page_kit.specs.Lines.{escaped}
use Rattle.page_kit.proofs.text.push_all_escaped.Goals as goal

pub returns : goal.returns
unfolding escaped
returns c =
    let t = YieldsList-end (YieldsList-from_chars c.args.plain.now c.utf8.plain cc) c.loop-c.yielded _ c.loop-c.yielded_by _ _ c.in-None.is c.next.ensures.steps in
    let all : c.loop-c.yielded ≡ chars c.args.plain.now = sym (map-id c.loop-c.yielded) ∙ t.0 in
    let before = rw all at c.loop-c.invariant in
    search (rules, append_assoc)
