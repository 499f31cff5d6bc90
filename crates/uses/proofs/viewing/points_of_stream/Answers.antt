use Rattle.std.proofs.Common.{◌≤◌, ◌+◌, length, subst, sym}
use Rattle.agg_kit.proofs.RoundLaws.{is_limited}
use Rattle.agg_kit.specs.Feeds.{series_at}
use Rattle.uses.proofs.Limited.{few_points}
use Rattle.uses.proofs.viewing.points_of_stream.Goals as goal

pub returns : goal.returns
returns c = λ recordings stands.
    let t = c.args.tally.now in
    few_points (t.plan.limit + 1) t.series c.args.stream _ c.series_len.ensures.value (subst (λ ss. length (series_at ss c.args.stream) ≤ t.plan.limit + 1) (sym stands) (is_limited t.plan recordings c.args.stream))
