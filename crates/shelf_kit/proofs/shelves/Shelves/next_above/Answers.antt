use Rattle.std.proofs.Common.{subst, arith, sym, ap, ◌∙◌, length}
use Rattle.shelf_kit.specs.Shelved.{Shelved}
use Rattle.shelf_kit.specs.Shelving.{IsNextAbove}
use Rattle.shelf_kit.proofs.Bounds.{length_bounds}
use Rattle.shelf_kit.proofs.shelves.Shelves.next_above.Goals as goal

pub returns : goal.returns
returns g c =
    let told = subst (λ (v : Shelved g.row.T.Denot). IsNextAbove v.bounds c.args.index c.args.number c.above_from.result) c.self.view_is c.above_from.ensures in
    let many = ap (λ (v : Shelved g.row.T.Denot). length v.bounds) (sym c.self.view_is) ∙ length_bounds c.self.inside.shelves.items c.self.invariant.0.filled ∙ ap (λ (v : Shelved g.row.T.Denot). length v.items) c.self.view_is in
    let most = told.within in
    record {
      on = told.on;
      within = omega (arith, many, most);
      passed = told.passed;
      above = λ h. told.above (omega (arith, many, h));
    }
