use Rattle.std.proofs.Common.{◌≡◌, ◌∙◌, ap, sym}
use Rattle.attr_kit.specs.Exact.{exact_lists, exact_signed}
use Rattle.point_kit.specs.declared.shape.Shape.TheVariants as shapes
use Rattle.round_kit.specs.Placed.{shape_of}
use Rattle.round_kit.proofs.stream.RoundShape.is.Goals as goal

pub returns-in-Histogram-Histogram : goal.returns-in-Histogram-Histogram
returns-in-Histogram-Histogram c =
    λ equal.
    (let bounds : c.in-Histogram-Histogram.bounds.now ≡ c.in-Histogram-Histogram.other =
    exact_lists exact_signed c.in-Histogram-Histogram.bounds.now c.as_slice.result.now (sym c.eq.ensures ∙ equal) ∙ c.as_slice.ensures in
    ap shape_of c.in-Histogram-Histogram.is-0 ∙ ap (λ b. shapes.Histogram b) bounds ∙ sym c.in-Histogram-Histogram.is-1)
