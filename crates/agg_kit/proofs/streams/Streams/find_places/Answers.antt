use Rattle.std.proofs.Common.{ℕ, length, sym, subst}
use Rattle.plan_kit.specs.Plans.{AreFeeds}
use Rattle.agg_kit.proofs.Records.{stored-length}
use Rattle.agg_kit.proofs.streams.Streams.find_places.Goals as goal

pub fill_places-requires-clause-feeds : goal.fill_places-requires-clause-feeds
fill_places-requires-clause-feeds c =
    let p = c.self.inside.plan in
    subst (λ (n : ℕ). AreFeeds n c.in-Some.feeds.now) (sym (stored-length p.streams c.self.inside.series.items c.self.invariant.sound))
    (subst (AreFeeds (length p.streams)) (sym c.in-Some.ensures.value) c.in-Some.ensures.feeds)
