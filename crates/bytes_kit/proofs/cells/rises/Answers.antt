use Rattle.std.proofs.Common.{rules}
use Rattle.std.proofs.lemmas.Fn.{always_returns_same}
use Rattle.std.specs.Ordering.{is_lt}
use Rattle.attr_kit.proofs.Sorted.{stepwise}
use Rattle.point_kit.proofs.OrderLaws.{key_total}
use Rattle.point_kit.specs.Orders.{key_cmp}
use Rattle.bytes_kit.proofs.cells.rises.Goals as goal

pub returns : goal.returns
returns c =
    stepwise key_cmp key_total c.args.entries.now c.is_sorted_by.result
    (c.is_sorted_by.ensures.cases (λ x y. is_lt (key_cmp x.0 y.0)) (always_returns_same _ _ _ (λ a r q k. search rules)))
