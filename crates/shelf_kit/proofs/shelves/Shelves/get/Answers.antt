use Rattle.std.proofs.Common.{◌<◌, get_or, sym, ap, ◌∙◌, arith}
use Rattle.shelf_kit.specs.Shelved.{Shelved}
use Rattle.shelf_kit.proofs.Places.{got, seen_len}
use Rattle.shelf_kit.proofs.shelves.Shelves.get.Goals as goal

pub returns : goal.returns
returns g c =
    let xs = c.self.inside.shelves.items in
    let long = seen_len xs c.self.inside.starts.items c.self.inside.len c.self.invariant.0 c.args.self.now c.self.view_is in
    let asked = c.requires in
    let inside : c.args.index < c.self.inside.len = omega (arith, long, asked) in
    record {
      value = c.index-2.ensures
          ∙ sym (got xs c.self.inside.len c.args.index c.locate-shelf.result.0 c.locate-shelf.result.1 c.locate-shelf.ensures inside c.index.result.now c.index.ensures c.index-2.result.now)
          ∙ ap (λ (v : Shelved g.row.T.Denot). get_or v.items c.args.index c.index-2.result.now) c.self.view_is;
    }
