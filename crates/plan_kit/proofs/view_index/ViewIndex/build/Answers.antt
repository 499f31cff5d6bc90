use Rattle.std.proofs.Common.{ap, sym, ◌∙◌, cond, ◌++◌, ◌∷◌, []}
use Rattle.plan_kit.specs.Matching.{places_under}
use Rattle.plan_kit.specs.Names.{lower}
use Rattle.plan_kit.specs.Views.{text_eq}
use Rattle.plan_kit.proofs.Matching.{index_every, index_exact, index_other}
use Rattle.plan_kit.proofs.view_index.ViewIndex.build.Goals as goal
use Rattle.plan_kit.proofs.view_index.ViewIndex.build.Goals.{then-is_of_sort+in-Every+in_ok-push-in-Every, then-is_of_sort+in-Exact+in_ok-try_copy-in-Exact+in_ok-add-in-Exact, else-is_of_sort}

pub loop-place-preserved : goal.loop-place-preserved
loop-place-preserved c =
    let sort = c.args.drops in
    let views = c.args.views.now in
    let view = c.index-views-place.result in
    let place = c.loop-place.place in
    elim c.if-is_of_sort.branch [
      | then-is_of_sort+in-Every+in_ok-push-in-Every w ↦
          rw (w.exact-is, w.every-is) (index_every sort c.loop-place.exact c.loop-place.every.items w.push.new.self.items views place view c.loop-place-test.true c.index-views-place.is (sym c.is_of_sort.ensures ∙ w.if-is_of_sort.true) w.in-Every.is c.loop-place.invariant w.in_ok-push-in-Every.ensures.items)
      | then-is_of_sort+in-Exact+in_ok-try_copy-in-Exact+in_ok-add-in-Exact w ↦
          let own = w.in-Exact.name in
          rw (w.exact-is, w.every-is) (index_exact sort c.loop-place.exact w.add.new.lists c.loop-place.every.items views place view own c.loop-place-test.true c.index-views-place.is (sym c.is_of_sort.ensures ∙ w.if-is_of_sort.true) w.in-Exact.is c.loop-place.invariant
          (λ q. w.in_ok-add-in-Exact.ensures q ∙ ap (λ n. cond (text_eq n q) (places_under c.loop-place.exact q ++ place ∷ []) (places_under c.loop-place.exact q)) (w.in_lower_case.ensures ∙ ap lower w.in_ok-try_copy-in-Exact.ensures.ok)))
      | else-is_of_sort w ↦
          rw (w.exact-is, w.every-is) (index_other sort c.loop-place.exact c.loop-place.every.items views place view c.loop-place-test.true c.index-views-place.is (sym c.is_of_sort.ensures ∙ w.if-is_of_sort.false) c.loop-place.invariant)
    ]
