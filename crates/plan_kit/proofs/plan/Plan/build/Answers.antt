use Rattle.std.proofs.Common.{◌≡◌, List, not, true, sym, subst, ◌∙◌}
use Rattle.std.specs.List.{list_all}
use Rattle.plan_kit.specs.declared.view.View.{View}
use Rattle.plan_kit.specs.Aggregations.{has_bad_bounds}
use Rattle.plan_kit.specs.PlanFaults.{own_fault}
use Rattle.plan_kit.proofs.Sound.{good_bounds}
use Rattle.plan_kit.proofs.plan.Plan.build.Goals as goal

pub joint-requires : goal.joint-requires
joint-requires c =
    subst (λ (vs : List View). list_all (λ v. not (has_bad_bounds v.aggregation)) vs ≡ true) (sym c.as_slice-in-None-2.ensures)
    (good_bounds c.args.instruments c.args.views ((λ j. own_fault (sym c.as_slice.ensures j) (sym c.as_slice-2.ensures j)) ∙ sym c.in-None.ensures.value))
