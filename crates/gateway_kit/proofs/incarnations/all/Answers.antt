use Rattle.std.proofs.Common.{◌∙◌, arith}
use Rattle.std.proofs.lemmas.List.{take_all}
use Rattle.gateway_kit.proofs.incarnations.all.Goals as goal

pub returns : goal.returns
returns c = c.walk.ensures.value ∙ take_all _ c.args.incarnations.now.items (omega (arith, c.len.ensures.value))
