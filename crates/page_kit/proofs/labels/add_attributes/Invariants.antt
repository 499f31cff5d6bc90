use Rattle.std.proofs.Common.{◌≡◌, map, take, fold}
use Rattle.attr_kit.specs.Orders.{text_cmp}
use Rattle.page_kit.specs.Groups.{put}
use Rattle.page_kit.specs.Labels.{label_name, value_text}
use Rattle.page_kit.specs.Views.{lists}
use Rattle.page_kit.proofs.labels.add_attributes.Given as goal

abbrev pub invariant-loop-key : goal.invariant-loop-key
invariant-loop-key l = lists l.texts.entries ≡ fold (put text_cmp) (lists l.fn.texts.entries) (map (λ p. (label_name p.0, value_text p.1)) (take l.key-index l.key-items))
