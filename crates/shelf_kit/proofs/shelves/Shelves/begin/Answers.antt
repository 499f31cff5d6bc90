use Rattle.std.proofs.Common.{◌≡◌, [], ◌∷◌, ◌++◌, ap, ◌∙◌, rules}
use Rattle.shelf_kit.specs.Shelved.{Shelved}
use Rattle.shelf_kit.specs.Shelving.{items_on}
use Rattle.shelf_kit.specs.declared.shelf.Shelf.{Shelf}
use Rattle.shelf_kit.proofs.First.{begun, begun_bounds, begun_tops}
use Rattle.shelf_kit.proofs.shelves.Shelves.begin.Goals as goal

pub invariant_of-self-2 : goal.invariant_of-self-2
invariant_of-self-2 g c =
    let x : Shelf g.row.T.Denot = record { items = c.push-2.new.self; bounds = c.push.new.self } in
    let none : items_on c.self.inside.shelves.items ≡ [] = ap (λ (v : Shelved g.row.T.Denot). v.items) c.self.view_is ∙ c.requires in
    let one : c.push-2.new.self.items ≡ c.args.value ∷ [] = search rules in
    let only : c.push.new.self.items ≡ c.args.bound ∷ [] = search rules in
    let put : c.push-3.new.self.items ≡ c.self.inside.shelves.items ++ x ∷ [] = search rules in
    let start : c.push-4.new.self.items ≡ c.self.inside.starts.items ++ 0 ∷ [] = search rules in
    let top : c.push-5.new.self.items ≡ c.self.inside.tops.items ++ c.args.bound ∷ [] = search rules in (
      begun c.self.invariant.0 none x one only put start,
      begun_tops c.self.invariant.0 none x one only put c.self.inside.tops.items c.self.invariant.1 top,
    )

pub returns-clause-bounds : goal.returns-clause-bounds
returns-clause-bounds g c =
    let x : Shelf g.row.T.Denot = record { items = c.push-2.new.self; bounds = c.push.new.self } in
    let none : items_on c.self.inside.shelves.items ≡ [] = ap (λ (v : Shelved g.row.T.Denot). v.items) c.self.view_is ∙ c.requires in
    let one : c.push-2.new.self.items ≡ c.args.value ∷ [] = search rules in
    let only : c.push.new.self.items ≡ c.args.bound ∷ [] = search rules in
    let put : c.push-3.new.self.items ≡ c.self.inside.shelves.items ++ x ∷ [] = search rules in
    begun_bounds c.self.invariant.0 none x one only put
