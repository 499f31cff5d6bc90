use Rattle.std.proofs.Common.{◌∙◌, ap}
use Rattle.attr_kit.specs.Putting.{value_of}
use Rattle.attr_kit.proofs.Finding.{has_held, has_none}
use Rattle.attr_kit.proofs.attr_set.AttrSet.has.Goals as goal

pub returns-in-Some : goal.returns-in-Some
returns-in-Some c =
    has_held c.args.key.now c.args.value.now c.in-Some.held.now c.args.self.now c.eq.result c.pairs.ensures.attributes (c.in-Some.ensures ∙ ap (value_of c.args.key.now) c.pairs.ensures.value) c.eq.ensures

pub returns-in-None : goal.returns-in-None
returns-in-None c = has_none c.args.key.now c.args.value.now c.args.self.now c.pairs.ensures.attributes (c.in-None.ensures ∙ ap (value_of c.args.key.now) c.pairs.ensures.value)
