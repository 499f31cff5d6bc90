use Rattle.std.proofs.Common.{◌≡◌, ◌+◌, ◌-◌, ◌/◌, ◌<◌, ◌≤◌, ◌^◌, ℕ, min, get_or, sym, ap, ◌∙◌, arith, rules}
use Rattle.std.proofs.lemmas.Grind.{common_steps}
use Rattle.gateway_kit.specs.Inserting.{moved_to}
use Rattle.gateway_kit.proofs.Inserted.{moved_count, spread_at}
use Rattle.gateway_kit.proofs.merging.place_after.Goals as goal

pub halve-preserved-then-is_reached : goal.halve-preserved-then-is_reached
halve-preserved-then-is_reached c =
    let ps = c.args.places.now in
    let m = c.halve.low + (c.halve.high - c.halve.low) / 2 in
    let inv = c.halve.invariant in
    let order = inv.order in
    let within = inv.within in
    let more : c.halve.low < c.halve.high = grind (arith, common_steps) in
    let here : m < c.halve.high = omega (arith, more) in
    let yes : get_or ps m 0 ≤ c.args.place + m = c.is_reached.ensures.yes (search rules) in
    record {
      order = omega (arith, here);
      within = within;
      passed = λ k h. let far = spread_at ps k m c.requires (omega (arith, h)) (omega (arith, here, within)) in omega (arith, far, yes, h);
      ahead = inv.ahead;
    }

pub halve-preserved : goal.halve-preserved
halve-preserved c =
    let ps = c.args.places.now in
    let m = c.halve.low + (c.halve.high - c.halve.low) / 2 in
    let inv = c.halve.invariant in
    let within = inv.within in
    let more : c.halve.low < c.halve.high = grind (arith, common_steps) in
    let here : m < c.halve.high = omega (arith, more) in
    let no : c.args.place + m < get_or ps m 0 = c.is_reached.ensures.no (search rules) in
    record {
      order = omega arith;
      within = omega (arith, here, within);
      passed = inv.passed;
      ahead = λ k from less. let far = spread_at ps m k c.requires from less in omega (arith, far, no, from);
    }

pub returns : goal.returns
returns c =
    let ps = c.args.places.now in
    let n = c.halve.low in
    let inv = c.halve.invariant in
    let order = inv.order in
    let within = inv.within in
    let done : c.halve.high ≤ n = grind (arith, common_steps) in
    let count : moved_to ps c.args.place ≡ c.args.place + n = moved_count ps c.args.place n (omega (arith, order, within)) inv.passed (λ k from less. let one = inv.ahead k (omega (arith, done, from)) less in omega (arith, one, from)) in
    let sum : c.saturating_add.result ≡ min (c.args.place + n) (2 ^ 64 - 1) = c.saturating_add.ensures in
    sum ∙ ap (λ (m : ℕ). min m (2 ^ 64 - 1)) (sym count)
