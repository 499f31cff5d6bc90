use Rattle.std.proofs.Common.{◌≡◌, ap, ◌∙◌}
use Rattle.std.specs.Int.{w64}
use Rattle.std.specs.Prelude.{unsigned_abs}
use Rattle.std.proofs.lemmas.Int.{to_z-of_z}
use Rattle.otlp_kit.specs.Doubles.{rounded_size}
use Rattle.otlp_kit.proofs.Doubled.{zero_of, below_zero, from_zero, double_above, double_below}
use Rattle.otlp_kit.proofs.doubles.double.Goals as goal

pub returns-then-n-eq0 : goal.returns-then-n-eq0
returns-then-n-eq0 c = zero_of c.args.n c.ranges.n c.if-n-eq0.true

pub returns-then-n-lt0 : goal.returns-then-n-lt0
returns-then-n-lt0 c =
    let size : c.rounded_size.result ≡ rounded_size (unsigned_abs c.args.n) = c.rounded_size.ensures.value ∙ ap rounded_size (c.unsigned_abs.ensures.value ∙ ap unsigned_abs (to_z-of_z w64 c.args.n c.ranges.n)) in
    double_below c.args.n c.rounded_size.result c.double_size-size.result (below_zero c.args.n c.ranges.n c.if-n-lt0.true) size c.double_size-size.ensures.value

pub returns : goal.returns
returns c =
    let size : c.rounded_size.result ≡ rounded_size (unsigned_abs c.args.n) = c.rounded_size.ensures.value ∙ ap rounded_size (c.unsigned_abs.ensures.value ∙ ap unsigned_abs (to_z-of_z w64 c.args.n c.ranges.n)) in
    double_above c.args.n c.rounded_size.result c.double_size-size.result c.if-n-eq0.false (from_zero c.args.n c.ranges.n c.if-n-lt0.false) size c.double_size-size.ensures.value
