use Rattle.std.proofs.Common.{sym, subst}
use Rattle.plan_kit.specs.Plans.{IsPlan}
use Rattle.plan_kit.proofs.Finishing.{is_plan, plan_from_parts_is}
use Rattle.plan_kit.proofs.plan.Plan.finish.Goals as goal

pub invariant_of-result : goal.invariant_of-result
invariant_of-result c =
    subst IsPlan
    (sym (plan_from_parts_is c.args.instruments.now c.args.wanted.now c.args.limit c.in_ok-places.places.items c.in_ok-lists.lists.items c.in_ok-streams.streams.items c.in_ok-places.ensures c.in_ok-lists.ensures c.in_ok-streams.ensures))
    (is_plan c.args.instruments.now c.args.wanted.now c.args.limit c.requires.apart c.requires.sound c.requires.limit)

pub returns : goal.returns
returns c = plan_from_parts_is c.args.instruments.now c.args.wanted.now c.args.limit c.in_ok-places.places.items c.in_ok-lists.lists.items c.in_ok-streams.streams.items c.in_ok-places.ensures c.in_ok-lists.ensures c.in_ok-streams.ensures
