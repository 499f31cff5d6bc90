use Rattle.std.proofs.Common.{◌<◌, Some, List, length, ap, ◌∙◌, rules}
use mathlib.Core.List.{map-map}
use Rattle.std.specs.Prelude.{slice_get}
use Rattle.gateway_kit.specs.Keys.{ItemKey, keyed_cell_of}
use Rattle.gateway_kit.specs.declared.part_item.PartItem.{PartItem}
use Rattle.gateway_kit.proofs.Moved.{got_map}
use Rattle.gateway_kit.proofs.items.place_near.Goals as goal

pub returns-then-is_of : goal.returns-then-is_of
returns-then-is_of c =
    let items = c.args.items.now in
    let item = c.index-items-guess.result in
    let within : c.args.guess < length items = search rules in
    ap (λ (ks : List ItemKey). slice_get ks c.args.guess) (map-map (λ e. e.0) keyed_cell_of items) ∙ got_map (λ (x : PartItem). (keyed_cell_of x).0) items c.args.guess item within c.index-items-guess.is ∙ ap (λ k. Some k) (c.is_of.ensures (search rules))
