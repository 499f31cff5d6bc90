use Rattle.attr_kit.proofs.Allowing.{listed_keys_push}
use Rattle.attr_kit.proofs.allow_list.in_order.Goals as goal

pub loop-key-preserved : goal.loop-key-preserved
loop-key-preserved c = listed_keys_push _ _ _ _ c.loop-key.invariant c.in_ok-insert.ensures.keys
