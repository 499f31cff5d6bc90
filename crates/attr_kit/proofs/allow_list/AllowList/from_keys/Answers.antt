use Rattle.std.proofs.Common.{◌∙◌, ap}
use Rattle.std.specs.Cmp.Lexicographic.{slice_cmp}
use Rattle.std.specs.Ordering.{nat_cmp}
use Rattle.attr_kit.specs.AllowLists.{is_rising}
use Rattle.attr_kit.proofs.Allowing.{listed_keys_rising}
use Rattle.attr_kit.proofs.allow_list.AllowList.from_keys.Goals as goal

pub invariant_of-result : goal.invariant_of-result
invariant_of-result c = ap (is_rising (slice_cmp nat_cmp)) (c.from_vec.ensures ∙ c.in_ok-sorted.ensures) ∙ listed_keys_rising c.args.keys.items
