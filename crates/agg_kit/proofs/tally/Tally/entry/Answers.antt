use Rattle.std.proofs.Common.{◌∙◌, sym, ap, slice_get}
use Rattle.agg_kit.specs.Feeds.{series_at}
use Rattle.agg_kit.specs.Tallies.{Points, Tallied}
use Rattle.agg_kit.proofs.Records.{series-none}
use Rattle.agg_kit.proofs.tally.Tally.entry.Goals as goal

pub returns-in-None : goal.returns-in-None
returns-in-None c =
    let none = ap (λ (t : Tallied). series_at t.series c.args.stream) (sym c.self.view_is) ∙ series-none c.self.inside.streams.series c.args.stream (sym c.in-None.ensures.value) in
    record { value = sym (ap (λ (es : Points). slice_get es c.args.place) none) }
