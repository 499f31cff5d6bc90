use Rattle.std.proofs.Common.{◌∙◌, [], ap, sym, subst, replicate}
use Rattle.agg_kit.specs.Feeds.{entries_of}
use Rattle.agg_kit.specs.Measuring.{emptied_tally}
use Rattle.agg_kit.specs.Sound.{AllSound}
use Rattle.agg_kit.specs.Tallies.{Tallied}
use Rattle.agg_kit.proofs.Records.{sound-nothing}
use Rattle.agg_kit.proofs.Rounds.{begins}
use Rattle.agg_kit.proofs.streams.Streams.restart.Goals as goal

pub invariant_of-self : goal.invariant_of-self
invariant_of-self c = record {
  overflow_is = c.self.invariant.overflow_is;
  sound = subst (AllSound c.self.inside.plan.streams) (sym (c.in_ok-series.ensures ∙ ap (λ n. replicate n []) c.streams_len.ensures.len)) (sound-nothing c.self.inside.plan.streams);
  lone_is = c.self.invariant.lone_is;
}

pub returns-clause-value : goal.returns-clause-value
returns-clause-value c =
    let t : Tallied = record { plan = c.self.inside.plan; series = entries_of c.in_ok-series.series.items; held = [] } in
    begins t c.streams_len.result c.in_ok-series.ensures c.streams_len.ensures.len ∙ ap emptied_tally c.self.view_is
