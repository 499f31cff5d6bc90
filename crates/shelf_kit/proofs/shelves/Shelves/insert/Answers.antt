use Rattle.std.proofs.Common.{◌≡◌, length, sym, ap, ◌∙◌}
use Rattle.std.proofs.lemmas.Result.{on_ok_weaker}
use Rattle.std.specs.List.{insert}
use Rattle.shelf_kit.specs.Shelved.{Shelved}
use Rattle.shelf_kit.specs.Shelving.{bounds_on}
use Rattle.shelf_kit.proofs.Bounds.{length_bounds}
use Rattle.shelf_kit.proofs.First.{bound_alone}
use Rattle.shelf_kit.proofs.Most.{at_most_same}
use Rattle.shelf_kit.proofs.shelves.Shelves.insert.Goals as goal

pub returns-then-self-eq0-clause-bounds : goal.returns-then-self-eq0-clause-bounds
returns-then-self-eq0-clause-bounds g c =
    let none : length c.args.self.now.bounds ≡ 0 = ap (λ (v : Shelved g.row.T.Denot). length v.bounds) (sym c.self.view_is) ∙ length_bounds c.self.inside.shelves.items c.self.invariant.0.filled ∙ sym c.self.invariant.0.counted ∙ c.if-self-eq0.true in
    on_ok_weaker c.begin.result (λ e. bound_alone c.args.self.now.bounds c.args.index c.args.bound c.begin.new.self.bounds none e) c.begin.ensures.bounds

pub returns-clause-bounds : goal.returns-clause-bounds
returns-clause-bounds g c =
    at_most_same (insert c.args.self.now.bounds c.args.index c.args.bound) (bounds_on c.split.new.shelves.items)
    (c.split.ensures.bounds ∙ c.in_ok-shelf.ensures.bounds ∙ ap (λ (v : Shelved g.row.T.Denot). insert v.bounds c.args.index c.args.bound) c.self.view_is)
