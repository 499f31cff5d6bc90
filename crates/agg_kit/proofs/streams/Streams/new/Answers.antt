use Rattle.std.proofs.Common.{◌∙◌, [], ap, sym, subst, replicate}
use Rattle.agg_kit.specs.Feeds.{entries_of}
use Rattle.agg_kit.specs.Sound.{AllSound}
use Rattle.agg_kit.specs.Tallies.{Tallied}
use Rattle.agg_kit.proofs.Records.{sound-nothing}
use Rattle.agg_kit.proofs.Rounds.{begins}
use Rattle.agg_kit.proofs.streams.Streams.new.Goals as goal

pub invariant_of-result : goal.invariant_of-result
invariant_of-result c = record {
  overflow_is = c.in_ok-overflow.ensures;
  sound = subst (AllSound c.args.plan.streams) (sym (c.in_ok-series.ensures ∙ ap (λ n. replicate n []) c.streams_len.ensures.len)) (sound-nothing c.args.plan.streams);
  lone_is = c.in_ok-lone.ensures;
}

pub returns : goal.returns
returns c =
    let t : Tallied = record { plan = c.args.plan; series = entries_of c.in_ok-series.series.items; held = [] } in
    record { value = begins t c.streams_len.result c.in_ok-series.ensures c.streams_len.ensures.len }
