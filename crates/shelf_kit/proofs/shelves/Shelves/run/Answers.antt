use Rattle.std.proofs.Common.{◌≡◌, ◌<◌, ◌++◌, List, length, take, drop, sym, ap, ◌∙◌, arith, append_assoc}
use Rattle.std.proofs.lemmas.List.{length-drop, length-take, take-append-drop}
use Rattle.shelf_kit.specs.Shelved.{Shelved}
use Rattle.shelf_kit.specs.Shelving.{items_of}
use Rattle.shelf_kit.proofs.Pieces.{back}
use Rattle.shelf_kit.proofs.Places.{left, run_taken, run_within, seen_len}
use Rattle.shelf_kit.proofs.shelves.Shelves.run.Goals as goal

pub returns : goal.returns
returns g c =
    let xs = c.self.inside.shelves.items in
    let s = c.locate-shelf.result.0 in
    let at = c.locate-shelf.result.1 in
    let rest = c.split_at.result.1.now in
    let run = c.split_at-2.result.0.now in
    let n = c.min.result in
    let rests : rest ≡ drop at c.index.result.now.items.items = c.split_at.ensures.back ∙ ap (λ l. drop at l) c.as_slice.ensures.value in
    let runs : run ≡ take n rest = c.split_at-2.ensures.front in
    let behind : List g.row.T.Denot = drop n rest ++ back items_of xs s in
    let parts : rest ≡ run ++ drop n rest = sym (take-append-drop n rest) ∙ ap (λ l. l ++ drop n rest) (sym runs) in
    let whole : drop c.args.index c.args.self.now.items ≡ run ++ behind =
    ap (λ (v : Shelved g.row.T.Denot). drop c.args.index v.items) (sym c.self.view_is)
    ∙ left xs c.self.inside.len c.args.index s at c.locate-shelf.ensures c.index.result.now c.index.ensures
    ∙ ap (λ l. l ++ back items_of xs s) (sym rests ∙ parts)
    ∙ append_assoc run (drop n rest) (back items_of xs s) in
    let long = seen_len xs c.self.inside.starts.items c.self.inside.len c.self.invariant.0 c.args.self.now c.self.view_is in
    let asked = c.requires in
    let inside : c.args.index < c.self.inside.len = omega (arith, long, asked) in
    let more = c.locate-shelf.ensures.inside c.index.result.now c.index.ensures inside in
    let count = ap length rests in
    let few = length-drop at c.index.result.now.items.items in
    let taken = ap length runs ∙ length-take n rest in
    record {
      some = omega (arith, count, few, more, taken);
      within = run_within c.args.self.now.items run behind c.args.index c.requires whole;
      value = run_taken c.args.self.now.items run behind c.args.index whole;
    }
