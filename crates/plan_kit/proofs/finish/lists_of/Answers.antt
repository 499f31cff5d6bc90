use Rattle.std.proofs.Common.{◌∙◌}
use Rattle.plan_kit.specs.declared.feed.Feed.{Feed}
use Rattle.plan_kit.proofs.Finishing.{lists_more}
use Rattle.plan_kit.proofs.finish.lists_of.Goals as goal

pub loop-number-preserved : goal.loop-number-preserved
loop-number-preserved c =
    let number = c.loop-number.number in
    let feed : Feed = record { stream = number; keep = c.in_ok-keep.keep } in
    record {
      len = c.in_ok-add_feed.ensures.len ∙ c.loop-number.invariant.len;
      feeds = λ o. lists_more o number c.args.wanted.now c.index-wanted-number.result feed _ _ c.loop-number-test.true c.index-wanted-number.is (c.loop-number.invariant.feeds o) (λ j. record { stream = number; keep = c.in_ok-keep.ensures j }) (c.in_ok-add_feed.ensures.feeds o);
    }
