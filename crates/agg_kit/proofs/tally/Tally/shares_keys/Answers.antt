use Rattle.std.proofs.Common.{◌∙◌, ◌↔◌, [], IsTrue, sym, ap, subst, refl}
use Rattle.agg_kit.specs.Alike.{ShareKeys}
use Rattle.agg_kit.specs.Feeds.{series_at}
use Rattle.agg_kit.specs.Tallies.{Points, Tallied}
use Rattle.agg_kit.proofs.Alike.{alike-none}
use Rattle.agg_kit.proofs.Records.{series-none}
use Rattle.agg_kit.proofs.Rounds.{got}
use Rattle.agg_kit.proofs.tally.Tally.shares_keys.Goals as goal

pub returns-in-Some : goal.returns-in-Some
returns-in-Some c =
    let some = ap (λ (t : Tallied). series_at t.series c.args.stream) (sym c.self.view_is) ∙ got c.self.inside.streams.series c.args.stream c.in-Some.series.now.entries [] (sym c.in-Some.ensures.value) in
    subst (λ (es : Points). IsTrue c.shares_keys.result ↔ ShareKeys es) (sym some) c.shares_keys.ensures

pub returns-in-None : goal.returns-in-None
returns-in-None c =
    let none = ap (λ (t : Tallied). series_at t.series c.args.stream) (sym c.self.view_is) ∙ series-none c.self.inside.streams.series c.args.stream (sym c.in-None.ensures.value) in
    (λ _. alike-none _ none, λ _. refl)
