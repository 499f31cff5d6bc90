use Rattle.std.proofs.Common.{length, sym, ap, ◌∙◌}
use Rattle.shelf_kit.specs.Shelved.{Shelved}
use Rattle.shelf_kit.proofs.Bounds.{length_bounds}
use Rattle.shelf_kit.proofs.shelves.Shelves.bounds_match.Goals as goal

pub returns : goal.returns
returns g c =
    ap (λ (v : Shelved g.row.T.Denot). length v.bounds) (sym c.self.view_is)
    ∙ length_bounds c.self.inside.shelves.items c.self.invariant.0.filled
    ∙ ap (λ (v : Shelved g.row.T.Denot). length v.items) c.self.view_is
