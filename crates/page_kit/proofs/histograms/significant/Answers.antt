use Rattle.std.proofs.Common.{ℕ, ◌+◌, ◌≤◌, eqb, get_or, take, sym, ap, subst, ◌∙◌}
use Rattle.page_kit.proofs.Digits.{digits_kept, kept_within}
use Rattle.page_kit.proofs.histograms.significant.Goals as goal

pub loop-place-preserved : goal.loop-place-preserved
loop-place-preserved c =
    let ds = c.args.digits.now in
    let i = c.loop-place.place in
    let len = c.loop-place.len in (
      subst (λ (n : ℕ). n ≤ i + 1) (sym c.len_with-len.ensures) (kept_within len i (eqb (get_or ds i 0) 48) c.loop-place.invariant.0),
      ap (λ (n : ℕ). take n ds) c.len_with-len.ensures ∙ digits_kept ds len i c.loop-place-test.true c.loop-place.invariant.1,
    )
