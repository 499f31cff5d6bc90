use Rattle.std.proofs.Common.{◌∙◌, map, slice_get, ap, sym}
use Rattle.attr_kit.specs.Keeping.{kept}
use Rattle.attr_kit.specs.declared.keep.Keep.{Keep}
use Rattle.rollup_kit.proofs.kept.kept_set.Goals as goal

pub returns-then-show : goal.returns-then-show
returns-then-show c =
    let attrs = c.args.attrs.now in
    c.requires.places c.in-Ok.set c.show.ensures.attributes ((λ i. map (slice_get (sym c.pairs-pairs.ensures.value i)) c.args.places.now) ∙ c.show.ensures.shown c.if-show.true)
    ∙ sym (ap (λ (k : Keep). kept k attrs) c.requires.keep)
