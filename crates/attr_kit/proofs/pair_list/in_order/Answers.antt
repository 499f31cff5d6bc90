use Rattle.std.proofs.Common.{◌≡◌, sym, rules, true}
use Rattle.std.specs.FinMap.Entries.{is_sorted}
use Rattle.attr_kit.specs.Orders.{text_cmp}
use Rattle.attr_kit.proofs.Putting.{attributes_rising}
use Rattle.attr_kit.proofs.pair_list.in_order.Goals as goal

pub returns-then-is_rising-clause-value : goal.returns-then-is_rising-clause-value
returns-then-is_rising-clause-value c =
    let rising : is_sorted text_cmp c.args.pairs.items ≡ true = search (rules, c.is_rising.ensures, c.as_slice.ensures.value, c.if-is_rising.true) in
    sym (attributes_rising c.args.pairs.items rising)
