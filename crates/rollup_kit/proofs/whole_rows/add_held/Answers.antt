use Rattle.std.proofs.Common.{◌∙◌, Some, is_some, ap, rules}
use Rattle.std.specs.Map.{keys_of}
use Rattle.rollup_kit.specs.Groups.{Grouped, with_held}
use Rattle.rollup_kit.specs.Walks.{group_at}
use Rattle.rollup_kit.proofs.Adding.{held_changed, none_changed}
use Rattle.rollup_kit.proofs.SetOrders.{sets_total, sets_exact, by_order, changed_by_order}
use Rattle.rollup_kit.proofs.Walked.{room_of}
use Rattle.rollup_kit.proofs.whole_rows.add_held.Goals as goal

pub add-requires-clause-points : goal.add-requires-clause-points
add-requires-clause-points c = (room_of c.args.rows.now.entries c.args.attrs.now c.in-Some.group.now c.requires (c.in-Some.ensures.value ∙ by_order c.args.rows.now.entries c.args.attrs.now)).0

pub add-requires-clause-conflicts : goal.add-requires-clause-conflicts
add-requires-clause-conflicts c = (room_of c.args.rows.now.entries c.args.attrs.now c.in-Some.group.now c.requires (c.in-Some.ensures.value ∙ by_order c.args.rows.now.entries c.args.attrs.now)).1

pub returns-in-Some-clause-value : goal.returns-in-Some-clause-value
returns-in-Some-clause-value c = ap is_some (c.in-Some.ensures.value ∙ by_order c.args.rows.now.entries c.args.attrs.now)

pub returns-in-None-clause-value : goal.returns-in-None-clause-value
returns-in-None-clause-value c = ap is_some (c.in-None.ensures.value ∙ by_order c.args.rows.now.entries c.args.attrs.now)

pub returns-in-Some-clause-adds : goal.returns-in-Some-clause-adds
returns-in-Some-clause-adds c =
    let written = c.get_mut.follows.holds c.add.new.self in
    let old = c.args.rows.now.entries in
    let new = (c.get_mut.follows.lender c.add.new.self).entries in
    held_changed sets_total sets_exact (λ (g : Grouped). with_held g c.args.cell.now.time c.args.cell.now.held) (group_at old) (group_at new) c.args.attrs.now
    c.in-Some.group.now c.add.new.self (c.in-Some.ensures.value ∙ by_order old c.args.attrs.now) c.add.ensures (changed_by_order old new c.args.attrs.now (Some c.add.new.self) (written.3 (search rules)).0)

pub returns-in-None-clause-adds : goal.returns-in-None-clause-adds
returns-in-None-clause-adds c =
    let old = c.args.rows.now.entries in
    let new = (c.get_mut.follows.lender-at-none).entries in
    none_changed sets_total sets_exact (λ (g : Grouped). with_held g c.args.cell.now.time c.args.cell.now.held) (group_at old) (group_at new) c.args.attrs.now
    (c.in-None.ensures.value ∙ by_order old c.args.attrs.now) (λ q. ap (λ m. group_at m.entries q) c.get_mut.follows.holds-at-none)

pub returns-in-Some-clause-keys : goal.returns-in-Some-clause-keys
returns-in-Some-clause-keys c = (c.get_mut.follows.holds c.add.new.self).1

pub returns-in-None-clause-keys : goal.returns-in-None-clause-keys
returns-in-None-clause-keys c = ap (λ m. keys_of m.entries) c.get_mut.follows.holds-at-none

pub returns-in-None-clause-kept : goal.returns-in-None-clause-kept
returns-in-None-clause-kept c = λ _. ap (λ m. m.entries) c.get_mut.follows.holds-at-none
