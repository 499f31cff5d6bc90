use Rattle.std.proofs.Common.{ℕ, ℤ, List, ◌+◌, drop, sym, ap, ◌∙◌, arith}
use Rattle.std.proofs.lemmas.List.{drop_all}
use Rattle.page_kit.specs.Bounds.{count_up_to, within_room}
use Rattle.page_kit.proofs.Counted.{up_to_more, room_more, nothing_left}
use Rattle.page_kit.proofs.bounds.add_up_to.Goals as goal

pub loop-place-preserved : goal.loop-place-preserved
loop-place-preserved c =
    let i = c.loop-place.place in
    let bound = c.args.bound.now in
    let limits = c.args.limits.now in
    let buckets = c.args.buckets.now in
    let rest = count_up_to bound (drop (i + 1) limits) (drop (i + 1) buckets) in (
      ap (λ (n : ℕ). within_room (n + rest)) c.saturating_add-total.ensures
          ∙ room_more c.loop-place.total c.from.result rest
          ∙ ap (λ (n : ℕ). within_room (c.loop-place.total + (n + rest))) (c.from.ensures ∙ c.counted-more.ensures)
          ∙ ap (λ (n : ℕ). within_room (c.loop-place.total + n)) (sym (up_to_more bound limits buckets i _ c.loop-place-test.true))
          ∙ c.loop-place.invariant.0,
      omega (arith, c.saturating_add-total.ensures),
    )

pub returns : goal.returns
returns c =
    let i = c.loop-place.place in
    let bound = c.args.bound.now in
    nothing_left c.loop-place.total (count_up_to bound (drop i c.args.limits.now) (drop i c.args.buckets.now)) c.loop-place.invariant.1
    (ap (λ (ls : List ℤ). count_up_to bound ls (drop i c.args.buckets.now)) (drop_all i c.args.limits.now c.loop-place-test.false))
    ∙ c.loop-place.invariant.0
