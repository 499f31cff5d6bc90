use Rattle.std.proofs.Common.{rules, ◌<◌, ℤ, List, length, subst}
use Rattle.uses.proofs.Logs.{log_more}
use Rattle.uses.specs.Sharing.{noted}
use Rattle.uses.proofs.sharing.note_all.Goals as goal

pub loop-value-preserved : goal.loop-value-preserved
loop-value-preserved c =
    let there = subst (λ (xs : List ℤ). c.loop-value.value-index < length xs) c.deref-value-items.ensures.value c.loop-value-test.true in
    log_more c.loop-value.recorder c.measure.new.self (noted c.args.work.now) c.args.work.now.values.items c.loop-value.value-index _ c.in_ok-measure.ensures.value c.loop-value.invariant
    there (search rules)
