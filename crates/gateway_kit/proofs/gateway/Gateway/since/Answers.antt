use Rattle.std.proofs.Common.{◌≡◌, length, map, nat_lt, refl, ap, ◌∙◌}
use Rattle.std.specs.FinMap.{retain_keys}
use Rattle.gateway_kit.specs.Numbering.{number_of}
use Rattle.gateway_kit.specs.Incarnations.{all_points, keyed_cells}
use Rattle.gateway_kit.specs.Recent.{recent_incarnations}
use Rattle.gateway_kit.specs.GatewayState.{GatewayState}
use Rattle.gateway_kit.proofs.Covered.{unnumbered_covered}
use Rattle.gateway_kit.proofs.Recent.{numbers_gone, since_points, since_sorted, since_whole}
use Rattle.gateway_kit.proofs.Tallies.{whole_few}
use Rattle.gateway_kit.proofs.gateway.Gateway.since.Goals as goal

pub all_len-len-requires : goal.all_len-len-requires
all_len-len-requires c =
    let olds = c.self.inside.incarnations.items in
    let news = c.without_numbers.new.incarnations.items in
    let is : map keyed_cells news ≡ map keyed_cells (recent_incarnations c.args.number olds) = c.without_numbers.ensures.same ∙ c.in_ok-incarnations.ensures in
    (since_whole c.args.number olds news (length (all_points news)) c.self.inside.len c.self.invariant.0 is refl).bounded

pub all_conflicts-conflicts-requires : goal.all_conflicts-conflicts-requires
all_conflicts-conflicts-requires c =
    let olds = c.self.inside.incarnations.items in
    let news = c.without_numbers.new.incarnations.items in
    let is : map keyed_cells news ≡ map keyed_cells (recent_incarnations c.args.number olds) = c.without_numbers.ensures.same ∙ c.in_ok-incarnations.ensures in
    whole_few news (length (all_points news)) (since_whole c.args.number olds news (length (all_points news)) c.self.inside.len c.self.invariant.0 is refl)

pub invariant_of-result : goal.invariant_of-result
invariant_of-result c =
    let olds = c.self.inside.incarnations.items in
    let news = c.without_numbers.new.incarnations.items in
    let is : map keyed_cells news ≡ map keyed_cells (recent_incarnations c.args.number olds) = c.without_numbers.ensures.same ∙ c.in_ok-incarnations.ensures in (
      since_whole c.args.number olds news c.all_len-len.result c.self.inside.len c.self.invariant.0 is c.all_len-len.ensures,
      c.all_conflicts-conflicts.ensures,
      unnumbered_covered c.without_numbers.new.incarnations.bounds news c.without_numbers.ensures.numbers,
    )

pub returns-clause-value : goal.returns-clause-value
returns-clause-value c =
    let olds = c.self.inside.incarnations.items in
    let news = c.without_numbers.new.incarnations.items in
    let is : map keyed_cells news ≡ map keyed_cells (recent_incarnations c.args.number olds) = c.without_numbers.ensures.same ∙ c.in_ok-incarnations.ensures in
    since_points c.args.number olds news c.self.invariant.0.sorted is c.self.inside.id ∙ ap (λ (v : GatewayState). retain_keys v.points (λ k. nat_lt c.args.number (number_of v k))) c.self.view_is

pub returns-clause-numbers : goal.returns-clause-numbers
returns-clause-numbers c =
    let olds = c.self.inside.incarnations.items in
    let news = c.without_numbers.new.incarnations.items in
    let is : map keyed_cells news ≡ map keyed_cells (recent_incarnations c.args.number olds) = c.without_numbers.ensures.same ∙ c.in_ok-incarnations.ensures in
    numbers_gone news (since_sorted c.args.number olds news c.self.invariant.0.sorted is) c.without_numbers.ensures.numbers
