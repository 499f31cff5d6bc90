use Rattle.std.proofs.Common.{◌≡◌, ◌∙◌, ◌<◌, ◌≤◌, ◌-◌, ◌^◌, ◌+◌, ℕ, ap, sym, subst, length, take}
use Rattle.std.specs.Prelude.{List, min, sum_by}
use Rattle.std.specs.Option.{unwrap_or}
use Rattle.std.proofs.lemmas.List.{take_all}
use Rattle.agg_kit.specs.Feeds.{series_at}
use Rattle.agg_kit.specs.Tallies.{Points}
use Rattle.plan_kit.specs.Plans.{Planned}
use Rattle.round_kit.proofs.Steps.{bounded_sum, more_points, points_len}
use Rattle.round_kit.proofs.round.points_len.Goals as goal

pub loop-number-preserved : goal.loop-number-preserved
loop-number-preserved c =
    let series = c.args.tally.now.series in
    let number = c.loop-number.number in
    let end : c.streams_len-number-end.result ≡ length c.args.tally.now.plan.streams = c.streams_len-number-end.ensures.len ∙ ap (λ (p : Planned). length p.streams) c.plan.ensures.value in
    let within : number < length series = subst (λ (n : ℕ). number < n) (end ∙ sym c.plan.ensures.len) c.loop-number-test.true in
    let next = more_points series number within in
    let here = points_len series number in
    let more : c.unwrap_or.result ≡ length (series_at series number) = c.unwrap_or.ensures ∙ ap (λ o. unwrap_or o 0) c.series_len.ensures.value ∙ here in
    c.saturating_add-total.ensures
    ∙ (λ i. min (c.loop-number.invariant i + more i) (2 ^ 64 - 1))
    ∙ bounded_sum (sum_by (λ (es : Points). length es) (take number series)) (length (series_at series number)) (2 ^ 64 - 1)
    ∙ ap (λ (n : ℕ). min n (2 ^ 64 - 1)) (sym next)

pub returns : goal.returns
returns c =
    let series = c.args.tally.now.series in
    let number = c.loop-number.number in
    let end : c.streams_len-number-end.result ≡ length c.args.tally.now.plan.streams = c.streams_len-number-end.ensures.len ∙ ap (λ (p : Planned). length p.streams) c.plan.ensures.value in
    let all : take number series ≡ series = take_all number series (subst (λ (n : ℕ). n ≤ number) (end ∙ sym c.plan.ensures.len) c.loop-number-test.false) in
    c.loop-number.invariant ∙ ap (λ (ess : List Points). min (sum_by (λ es. length es) ess) (2 ^ 64 - 1)) all
