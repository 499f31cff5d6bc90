use Rattle.std.proofs.Common.{get_or, ap, ◌∙◌, arith}
use Rattle.std.specs.List.{remove}
use Rattle.shelf_kit.specs.Shelved.{Shelved}
use Rattle.shelf_kit.proofs.Places.{seen_len}
use Rattle.shelf_kit.proofs.shelves.Shelves.remove.Goals as goal

pub take_at-value-requires-clause-inside : goal.take_at-value-requires-clause-inside
take_at-value-requires-clause-inside g c =
    let long = seen_len c.self.inside.shelves.items c.self.inside.starts.items c.self.inside.len c.self.invariant.0 c.args.self.now c.self.view_is in
    let asked = c.requires in
    omega (arith, long, asked)

pub returns-clause-value : goal.returns-clause-value
returns-clause-value g c = c.take_at-value.ensures.removes.was ∙ ap (λ (v : Shelved g.row.T.Denot). get_or v.items c.args.index c.take_at-value.result) c.self.view_is

pub returns-clause-items : goal.returns-clause-items
returns-clause-items g c = c.take_at-value.ensures.removes.items ∙ ap (λ (v : Shelved g.row.T.Denot). remove v.items c.args.index) c.self.view_is

pub returns-clause-bounds : goal.returns-clause-bounds
returns-clause-bounds g c = c.take_at-value.ensures.removes.bounds ∙ ap (λ (v : Shelved g.row.T.Denot). remove v.bounds c.args.index) c.self.view_is
