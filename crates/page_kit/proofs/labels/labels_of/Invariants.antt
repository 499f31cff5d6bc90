use Rattle.std.proofs.Common.{◌≡◌, ◌++◌}
use Rattle.page_kit.specs.Labels.{labels_of_groups}
use Rattle.page_kit.specs.Views.{lists}
use Rattle.page_kit.proofs.labels.labels_of.Given as goal

abbrev pub invariant-loop-name : goal.invariant-loop-name
invariant-loop-name l = l.labels.items ++ labels_of_groups (lists l.name-iterator) ≡ labels_of_groups (lists l.fn.texts.entries)
