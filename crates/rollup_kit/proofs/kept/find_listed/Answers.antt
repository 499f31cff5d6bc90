use Rattle.std.proofs.Common.{◌∙◌, ap}
use Rattle.attr_kit.specs.AllowLists.{is_listed}
use Rattle.rollup_kit.proofs.Shown.{more_noted}
use Rattle.rollup_kit.proofs.kept.find_listed.Goals as goal

pub loop-place-preserved : goal.loop-place-preserved
loop-place-preserved c =
    more_noted (λ p. is_listed c.args.list.now p.0) c.args.pairs.now c.loop-place.place c.index-pairs-place.result c.loop-place.places.items c.note.new.places.items c.has.result
    c.loop-place-test.true c.index-pairs-place.is (c.has.ensures ∙ ap (is_listed c.args.list.now) c.as_str.ensures) c.in_ok-note.ensures c.loop-place.invariant
