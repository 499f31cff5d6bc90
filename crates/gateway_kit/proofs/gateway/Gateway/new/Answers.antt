use Rattle.gateway_kit.proofs.Entries.{from_sorted-nil}
use Rattle.gateway_kit.proofs.gateway.Gateway.new.Goals as goal

pub returns-clause-value : goal.returns-clause-value
returns-clause-value c = rw c.new.ensures.items from_sorted-nil

pub returns-clause-numbers : goal.returns-clause-numbers
returns-clause-numbers c = rw c.new.ensures.items from_sorted-nil
