use Rattle.std.proofs.Common.{◌≡◌, ◌∙◌, ◌<◌, ◌++◌, ℕ, ap, sym, subst, map, take, length, arith}
use Rattle.std.proofs.lemmas.List.{take_all}
use Rattle.plan_kit.specs.Plans.{Planned}
use Rattle.point_kit.specs.ExportFaults.{export_fault}
use Rattle.round_kit.specs.Rounds.{point_of, points_at, points_of}
use Rattle.round_kit.proofs.Sound.{tally_builds}
use Rattle.round_kit.proofs.Steps.{apart_from, one_more, there}
use Rattle.round_kit.proofs.round.place.Goals as goal

pub loop-number-preserved : goal.loop-number-preserved
loop-number-preserved c =
    let streams = c.args.tally.now.plan.streams in
    let series = c.args.tally.now.series in
    let number = c.loop-number.number in
    let end : c.streams_len-number-end.result ≡ length streams = c.streams_len-number-end.ensures.len ∙ ap (λ (p : Planned). length p.streams) c.plan.ensures.value in
    let within : number < length streams = subst (λ (n : ℕ). number < n) end c.loop-number-test.true in
    let s = there streams number within in
    let es = there series number (subst (λ (n : ℕ). number < n) (sym c.plan.ensures.len) within) in
    record {
      placed =
          c.in_ok-place_series.ensures.points s.0 es.0 s.1 es.1 ∙ ap (λ l. l ++ points_at s.0 es.0) c.loop-number.invariant.placed ∙ sym (one_more streams series number s.0 es.0 s.1 es.1);
      apart = λ _. c.in_ok-place_series.ensures.apart;
    }

-- no refusal of an export fits the points of all streams
pub invariant_of-result : goal.invariant_of-result
invariant_of-result c =
    let streams = c.args.tally.now.plan.streams in
    let series = c.args.tally.now.series in
    let number = c.loop-number.number in
    let end : c.streams_len-number-end.result ≡ length streams = c.streams_len-number-end.ensures.len ∙ ap (λ (p : Planned). length p.streams) c.plan.ensures.value in
    let whole : number ≡ length streams = omega arith in
    let all_streams : take number streams ≡ streams = take_all number streams (omega arith) in
    let all_series : take number series ≡ series = take_all number series (omega (arith, c.plan.ensures.len)) in
    let points : map point_of c.into_bump_slice.result.now ≡ points_of streams series =
    ap (map point_of) c.into_bump_slice.ensures ∙ c.loop-number.invariant.placed ∙ (λ i. points_of (all_streams i) (all_series i)) in
    ap (export_fault c.args.start c.args.time) points
    ∙ tally_builds c.args.start c.args.time streams series c.requires (apart_from streams number whole c.loop-number.invariant.apart) c.plan.ensures.sound
