use Rattle.std.proofs.Common.{◌∙◌, sym}
use Rattle.agg_kit.proofs.Records.{lone-here}
use Rattle.agg_kit.proofs.held.lone_stream.Goals as goal

pub returns-in-All : goal.returns-in-All
returns-in-All c = lone-here c.args.feeds.now c.in-Some.rest.now c.in-Some.feed.now c.in-Some.ensures.cases.0 (sym c.is_empty.ensures ∙ c.if-not-is_empty.false) c.in-All.is
