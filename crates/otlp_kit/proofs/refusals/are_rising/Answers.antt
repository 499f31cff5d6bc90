use Rattle.std.proofs.Common.{rules}
use Rattle.std.proofs.lemmas.Fn.{always_returns_same}
use Rattle.otlp_kit.proofs.Rising.{below, stepwise}
use Rattle.otlp_kit.proofs.refusals.are_rising.Goals as goal

pub returns : goal.returns
returns c = stepwise c.args.bounds.now c.is_sorted_by.result (c.is_sorted_by.ensures.cases below (always_returns_same _ _ _ (λ a r q k. search rules)))
