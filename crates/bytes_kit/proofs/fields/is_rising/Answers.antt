use Rattle.std.proofs.Common.{rules}
use Rattle.std.proofs.lemmas.Fn.{always_returns_same}
use Rattle.std.specs.Ordering.{is_lt}
use Rattle.attr_kit.specs.OrderLaws.{text_total}
use Rattle.attr_kit.specs.Orders.{text_cmp}
use Rattle.attr_kit.proofs.Sorted.{stepwise}
use Rattle.bytes_kit.proofs.fields.is_rising.Goals as goal

pub returns : goal.returns
returns c =
    stepwise text_cmp text_total c.args.pairs.now c.is_sorted_by.result
    (c.is_sorted_by.ensures.cases (λ x y. is_lt (text_cmp x.0 y.0)) (always_returns_same _ _ _ (λ a r q k. search rules)))
