use Rattle.std.proofs.Common.{Bool, subst}
use Rattle.std.specs.List.{IsDistinct}
use Rattle.std.specs.Map.{keys_of}
use Rattle.rollup_kit.specs.Asks.{Attributes}
use Rattle.rollup_kit.proofs.SetOrders.{ties}
use Rattle.rollup_kit.proofs.groups.list_of_groups.Goals as goal

pub returns-clause-distinct : goal.returns-clause-distinct
returns-clause-distinct c = subst (λ (e : Attributes → Attributes → Bool). IsDistinct e (keys_of c.args.rows.entries)) (λ i x y. ties x y i) c.len.ensures.unique

pub returns-in_err-with_capacity-clause-distinct : goal.returns-in_err-with_capacity-clause-distinct
returns-in_err-with_capacity-clause-distinct c = subst (λ (e : Attributes → Attributes → Bool). IsDistinct e (keys_of c.args.rows.entries)) (λ i x y. ties x y i) c.len.ensures.unique
