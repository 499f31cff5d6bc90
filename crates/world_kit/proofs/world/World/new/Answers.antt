use Rattle.std.proofs.Common.{◌≡◌, map, Some, None, ap, ◌∙◌}
use Rattle.world_kit.proofs.Beginnings.{begins, fault_none, fault_some}
use Rattle.world_kit.specs.Building.{same_gateway, fresh}
use Rattle.world_kit.proofs.world.World.new.Goals as goal

pub returns-in-Some-clause-err : goal.returns-in-Some-clause-err
returns-in-Some-clause-err c = λ _.
    let found : same_gateway c.args.setup.gateways ≡ Some (c.in-Some.first, c.in-Some.second) = cc (ap same_gateway c.as_slice.ensures, c.in_ok-first.ensures, c.in-Some.is) in
    fault_some c.args.setup c.in-Some.first c.in-Some.second found

pub returns-clause-ok : goal.returns-clause-ok
returns-clause-ok c =
    let none : same_gateway c.args.setup.gateways ≡ None = cc (ap same_gateway c.as_slice.ensures, c.in_ok-first.ensures, c.in_default.is) in
    fault_none c.args.setup none

pub returns-clause-value : goal.returns-clause-value
returns-clause-value c =
    let none : same_gateway c.args.setup.gateways ≡ None = cc (ap same_gateway c.as_slice.ensures, c.in_ok-first.ensures, c.in_default.is) in
    begins c.args.setup _ none c.in_ok-start.ensures.value (c.in_ok-open.ensures.value ∙ ap (map fresh) c.as_slice-2.ensures) c.new.ensures.items c.new-2.ensures.items
