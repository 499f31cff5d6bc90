use Rattle.std.proofs.Common.{◌≡◌, take, filter}
use Rattle.attr_kit.specs.AllowLists.{is_listed}
use Rattle.attr_kit.proofs.pair_list.copy_listed.Given as goal

abbrev pub invariant-loop-pair : goal.invariant-loop-pair
invariant-loop-pair l = l.few.items ≡ filter (λ p. is_listed l.list p.0) (take l.pair-index l.pair-items)
