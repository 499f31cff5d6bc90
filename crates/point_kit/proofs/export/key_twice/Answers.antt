use Rattle.std.proofs.Common.{◌<◌, ◌≡◌, sym, List, [], ◌∷◌, length, arith, None, refl}
use Rattle.attr_kit.specs.Refusing.{repeat}
use Rattle.point_kit.specs.declared.export_point.ExportPoint.{ExportPoint}
use Rattle.point_kit.specs.ExportFaults.{same_key}
use Rattle.point_kit.proofs.export.key_twice.Goals as goal

small : (ps : List ExportPoint) → length ps < 2 → repeat same_key ps ≡ None
small [] h = refl
small (p ∷ []) h = refl
small (p ∷ q ∷ ps) h = absurd (omega arith)

pub returns-then-points-lt2-clause-value : goal.returns-then-points-lt2-clause-value
returns-then-points-lt2-clause-value c = sym (small c.args.points.now c.if-points-lt2.true)
