use Rattle.std.proofs.Common.{List, sym, ap, ◌∙◌}
use Rattle.std.specs.FinMap.{from_sorted}
use Rattle.std.specs.FinMap.Entries.{is_sorted}
use Rattle.point_kit.specs.Orders.{key_cmp}
use Rattle.gateway_kit.specs.Keys.{IncarnationKey, incarnation_cmp, whole_key}
use Rattle.gateway_kit.specs.IncarnationState.{Cells}
use Rattle.gateway_kit.specs.Incarnations.{flatten}
use Rattle.gateway_kit.specs.GatewayState.{GatewayState}
use Rattle.gateway_kit.proofs.Covered.{unnumbered_covered}
use Rattle.gateway_kit.proofs.Recent.{conflicts_alike, numbers_gone, whole_alike}
use Rattle.gateway_kit.proofs.gateway.Gateway.without_numbers.Goals as goal

pub invariant_of-gateway : goal.invariant_of-gateway
invariant_of-gateway c =
    let olds = c.gateway.inside.incarnations.items in
    let news = c.without_numbers.new.incarnations.items in
    (whole_alike olds news c.without_numbers.ensures.same c.gateway.inside.len c.gateway.invariant.0, c.gateway.invariant.1 ∙ sym (conflicts_alike olds news c.without_numbers.ensures.same), unnumbered_covered c.without_numbers.new.incarnations.bounds news c.without_numbers.ensures.numbers)

pub returns : goal.returns
returns c =
    let news = c.without_numbers.new.incarnations.items in
    let points = ap (λ (l : List (IncarnationKey × Cells)). from_sorted {R = key_cmp} (flatten whole_key l)) c.without_numbers.ensures.same ∙ ap (λ (v : GatewayState). v.points) c.gateway.view_is in
    let none = numbers_gone news (ap (is_sorted incarnation_cmp) c.without_numbers.ensures.same ∙ c.gateway.invariant.0.sorted) c.without_numbers.ensures.numbers in
    record { value = λ i. record { id = (c.gateway.view_is i).id; points = points i; numbers = none i } }
