use Rattle.std.proofs.Common.{◌∙◌, ℕ, sym, ap}
use Rattle.attr_kit.specs.Keeping.{kept}
use Rattle.attr_kit.specs.declared.attr_set.AttrSet.{AttrSet}
use Rattle.agg_kit.specs.Held.{place_at, place_of}
use Rattle.agg_kit.specs.Tallies.{Points}
use Rattle.agg_kit.proofs.Records.{entries-read, if_some_self}
use Rattle.agg_kit.proofs.held.place_at.Goals as goal

pub returns-clause-found : goal.returns-clause-found
returns-clause-found c = λ _.
    let p = c.args.plan.now in
    let f = c.args.feed.now in
    let points = c.index.result.now in
    c.find.ensures
    ∙ ap (λ (n : ℕ). place_of n points.entries c.set_or.result.now) c.limit.ensures.value
    ∙ ap (λ (b : AttrSet). place_of p.limit points.entries b) (c.set_or.ensures ∙ c.in-Ok.ensures.value)
    ∙ ap (λ (es : Points). place_of p.limit es (kept f.keep c.args.attrs.now)) (sym (entries-read c.args.series.now.items f.stream points c.requires.stream c.index.ensures))

pub returns-clause-at : goal.returns-clause-at
returns-clause-at c =
    let p = c.args.plan.now in
    let f = c.args.feed.now in
    let points = c.index.result.now in
    if_some_self c.find.result (place_at p c.args.attrs.now c.args.series.now.items f)
    (c.find.ensures
    ∙ ap (λ (n : ℕ). place_of n points.entries c.set_or.result.now) c.limit.ensures.value
    ∙ ap (λ (b : AttrSet). place_of p.limit points.entries b) (c.set_or.ensures ∙ c.in-Ok.ensures.value)
    ∙ ap (λ (es : Points). place_of p.limit es (kept f.keep c.args.attrs.now)) (sym (entries-read c.args.series.now.items f.stream points c.requires.stream c.index.ensures)))
