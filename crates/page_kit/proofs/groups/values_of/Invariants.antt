use Rattle.std.proofs.Common.{◌≡◌, ◌++◌}
use Rattle.std.specs.List.{flat_map}
use Rattle.page_kit.proofs.groups.values_of.Given as goal

abbrev pub invariant-loop-values : goal.invariant-loop-values
invariant-loop-values g l = l.all.items ++ flat_map (λ e. e.1.items) l.values-iterator ≡ flat_map (λ e. e.1.items) l.fn.groups.entries
