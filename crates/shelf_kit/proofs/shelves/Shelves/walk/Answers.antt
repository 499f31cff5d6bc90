use Rattle.std.proofs.Common.{◌≡◌, ◌-◌, ◌++◌, suc, List, take, drop, sym, ap, ◌∙◌, add-one}
use Rattle.shelf_kit.specs.Shelved.{Shelved}
use Rattle.shelf_kit.specs.Shelving.{items_on}
use Rattle.shelf_kit.proofs.Places.{left}
use Rattle.shelf_kit.proofs.shelves.Shelves.walk.Goals as goal

pub returns : goal.returns
returns g c =
    let xs = c.self.inside.shelves.items in
    let s = c.locate-shelf.result.0 in
    let i = c.locate-shelf.result.1 in
    let here : c.split_at.result.1.now ≡ drop i c.index.result.now.items.items = c.split_at.ensures.back ∙ ap (λ l. drop i l) c.as_slice.ensures.value in
    let ahead : c.split_at-2.result.1.now ≡ drop (suc s) xs = c.split_at-2.ensures.back ∙ (λ k. drop (add-one s k) (c.as_slice-2.ensures.value k)) in
    record {
      value = ap (λ (l : List g.row.T.Denot). take (c.args.until - c.args.from) l) (
          (λ k. here k ++ items_on (ahead k))
          ∙ sym (left xs c.self.inside.len c.args.from s i c.locate-shelf.ensures c.index.result.now c.index.ensures)
          ∙ ap (λ (v : Shelved g.row.T.Denot). drop c.args.from v.items) c.self.view_is
          );
    }
