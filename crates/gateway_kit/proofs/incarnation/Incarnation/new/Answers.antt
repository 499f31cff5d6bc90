use Rattle.gateway_kit.proofs.Entries.{from_sorted-nil}
use Rattle.gateway_kit.proofs.incarnation.Incarnation.new.Goals as goal

pub returns-clause-cells : goal.returns-clause-cells
returns-clause-cells c = rw c.new.ensures.items from_sorted-nil

pub returns-clause-numbers : goal.returns-clause-numbers
returns-clause-numbers c = rw c.new.ensures.items from_sorted-nil
