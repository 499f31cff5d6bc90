use Rattle.std.proofs.Common.{ap}
use Rattle.std.specs.Map.{lookup}
use Rattle.std.specs.Ordering.{is_eq}
use Rattle.attr_kit.specs.Orders.{text_cmp}
use Rattle.bytes_kit.proofs.Indexing.{no_texts}
use Rattle.bytes_kit.proofs.index.Index.free.Goals as goal

pub returns : goal.returns
returns c =
    no_texts _ c.args.count c.requires (c.in_ok-vec.ensures.items_if_clones_equal (λ y e. e))
    (λ t. ap (lookup (λ k. is_eq (text_cmp t k))) c.new.ensures.empty)
