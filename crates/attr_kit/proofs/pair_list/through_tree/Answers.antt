use Rattle.attr_kit.proofs.Putting.{put_next}
use Rattle.attr_kit.proofs.pair_list.through_tree.Goals as goal

pub loop-key-preserved-in_ok-insert : goal.loop-key-preserved-in_ok-insert
loop-key-preserved-in_ok-insert c = put_next _ _ _ _ _ c.loop-key.invariant c.in_ok-insert.ensures.entries

pub loop-key-preserved-in_ok-insert-2 : goal.loop-key-preserved-in_ok-insert-2
loop-key-preserved-in_ok-insert-2 c = put_next _ _ _ _ _ c.loop-key.invariant c.in_ok-insert.ensures.entries

pub loop-key-preserved : goal.loop-key-preserved
loop-key-preserved c = put_next _ _ _ _ _ c.loop-key.invariant c.in_ok-insert.ensures.entries

pub loop-key-preserved-in_ok-insert-3 : goal.loop-key-preserved-in_ok-insert-3
loop-key-preserved-in_ok-insert-3 c = put_next _ _ _ _ _ c.loop-key.invariant c.in_ok-insert.ensures.entries
