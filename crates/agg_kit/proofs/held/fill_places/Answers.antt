use Rattle.std.proofs.Common.{◌≡◌, ◌∙◌, ◌∷◌, [], ◌++◌, ◌+◌, ◌≤◌, ℕ, List, Option, Some, IfSome, length, take, sym, subst, ap}
use Rattle.std.specs.Prelude.{vec_capacity}
use Rattle.std.proofs.lemmas.List.{take_more}
use Rattle.attr_kit.specs.Keeping.{kept}
use Rattle.plan_kit.specs.declared.feed.Feed.{Feed}
use Rattle.agg_kit.specs.Feeds.{entries_of, series_at}
use Rattle.agg_kit.specs.Held.{place_at, AreAt}
use Rattle.agg_kit.proofs.HeldPoints.{at-push, held-feed, place-there, stream-below}
use Rattle.agg_kit.proofs.held.fill_places.Goals as goal

pub place_at-requires-clause-stream : goal.place_at-requires-clause-stream
place_at-requires-clause-stream c =
    stream-below (length c.args.series.now.items) c.args.feeds.now c.loop-feed.feed-index c.feed-item.result c.requires.feeds c.loop-feed-test.true c.feed-item.is

pub returns-in_default-clause-found : goal.returns-in_default-clause-found
returns-in_default-clause-found c = λ room all.
    let p = c.args.plan.now in
    let a = c.args.attrs.now in
    let ss = entries_of c.args.series.now.items in
    let f = c.feed-item.result in
    let there = held-feed p c.args.feeds.now a ss c.loop-feed.feed-index f all c.loop-feed-test.true c.feed-item.is in
    absurd (place-there p.limit (series_at ss f.stream) (kept f.keep a) there.1 (sym (c.place_at.ensures.found there.0) ∙ c.in_default.is))

pub loop-feed-preserved : goal.loop-feed-preserved
loop-feed-preserved c =
    let p = c.args.plan.now in
    let a = c.args.attrs.now in
    let ss = c.args.series.now.items in
    let fs = c.args.feeds.now in
    let f = c.feed-item.result in
    let i = c.loop-feed.feed-index in
    let at = c.in-Some.place in
    let taken : take (i + 1) fs ≡ take i fs ++ f ∷ [] = take_more fs i f c.loop-feed-test.true ∙ ap (λ (x : Feed). take i fs ++ x ∷ []) (sym c.feed-item.is) in
    let here = subst (λ (o : Option ℕ). IfSome o (λ j. place_at p a ss f ≡ Some j)) c.in-Some.is c.place_at.ensures.at in
    let more = at-push p (take i fs) c.loop-feed.each.items f at a (entries_of ss) c.loop-feed.invariant.at here in
    let same = sym c.push_reserved.ensures.capacity in
    record {
      at = subst (λ (gs : List Feed). AreAt p gs c.push_reserved.new.self.items a (entries_of ss)) (sym taken)
          (subst (λ (is : List ℕ). AreAt p (take i fs ++ f ∷ []) is a (entries_of ss)) (sym c.push_reserved.ensures.items) more);
      len = c.push_reserved.ensures.len ∙ ap (λ (n : ℕ). n + 1) c.loop-feed.invariant.len;
      room = subst (λ (n : ℕ). length fs ≤ n) same c.loop-feed.invariant.room;
      kept = subst (λ (n : ℕ). vec_capacity c.reserve_exact.new.self ≤ n) same c.loop-feed.invariant.kept;
    }
