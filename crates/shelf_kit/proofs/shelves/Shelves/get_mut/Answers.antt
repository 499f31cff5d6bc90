use Rattle.std.proofs.Common.{◌≡◌, ◌<◌, get_or, refl, sym, ap, ◌∙◌, arith}
use Rattle.std.specs.Prelude.{slice_set}
use Rattle.std.specs.Vec.{with_item}
use Rattle.std.proofs.lemmas.List.{length-set}
use Rattle.shelf_kit.specs.Shelved.{Shelved}
use Rattle.shelf_kit.specs.Shelving.{Changes, bounds_of, bounds_on, items_of, items_on}
use Rattle.shelf_kit.specs.declared.shelf.Shelf.{Shelf}
use Rattle.shelf_kit.proofs.Bounds.{filled_at}
use Rattle.shelf_kit.proofs.Pieces.{piece_same, set_in}
use Rattle.shelf_kit.proofs.Places.{got, seen_len}
use Rattle.shelf_kit.proofs.Same.{shelved_same}
use Rattle.shelf_kit.proofs.Tops.{tops_kept}
use Rattle.shelf_kit.proofs.shelves.Shelves.get_mut.Goals as goal

pub invariant_of-self-lent : goal.invariant_of-self-lent
invariant_of-self-lent g c = λ w.
    let old = c.index_mut-here.result.now in
    let new : Shelf g.row.T.Denot = record { items = with_item old.items c.locate-shelf.result.1 w; bounds = old.bounds } in
    let at = c.index_mut-here.ensures.value in
    let xs = c.self.inside.shelves.items in
    let within = c.locate-shelf.ensures.within in
    let long = length-set old.items.items c.locate-shelf.result.1 w in
    let changes : Changes xs (slice_set xs c.locate-shelf.result.0 new) c.locate-shelf.result.0 old new = record { at = at; is = refl } in
    let own = (filled_at xs c.locate-shelf.result.0 old c.self.invariant.0.filled within at).matched in (
      shelved_same xs c.self.inside.starts.items c.self.inside.len c.locate-shelf.result.0 old new c.self.invariant.0 within at long (own ∙ sym long),
      tops_kept within changes c.self.inside.tops.items c.self.invariant.1 (λ top. top),
    )

pub returns : goal.returns
returns g c =
    let xs = c.self.inside.shelves.items in
    let s = c.locate-shelf.result.0 in
    let i = c.locate-shelf.result.1 in
    let l = c.locate-shelf.ensures in
    let old = c.index_mut-here.result.now in
    let at = c.index_mut-here.ensures.value in
    let long = seen_len xs c.self.inside.starts.items c.self.inside.len c.self.invariant.0 c.args.self.now c.self.view_is in
    let asked = c.requires in
    let inside : c.args.index < c.self.inside.len = omega (arith, long, asked) in (
      (
        refl,
        λ w.
            let new : Shelf g.row.T.Denot = record { items = with_item old.items i w; bounds = old.bounds } in
            let items : items_on (slice_set xs s new) ≡ slice_set c.args.self.now.items c.args.index w =
            set_in items_of xs s i old l.within at new w (l.inside old at inside) refl
            ∙ ap (λ k. slice_set (items_on xs) k w) l.place ∙ ap (λ (v : Shelved g.row.T.Denot). slice_set v.items c.args.index w) c.self.view_is in
            let bounds : bounds_on (slice_set xs s new) ≡ c.args.self.now.bounds =
            piece_same bounds_of xs s old new l.within at refl ∙ ap (λ (v : Shelved g.row.T.Denot). v.bounds) c.self.view_is in
            λ j. record { items = items j; bounds = bounds j },
      ),
      record {
        writes_back = tt;
        value = c.index_mut.ensures.value
            ∙ sym (got xs c.self.inside.len c.args.index s i l inside old at c.index_mut.result.now)
            ∙ ap (λ (v : Shelved g.row.T.Denot). get_or v.items c.args.index c.index_mut.result.now) c.self.view_is;
      },
    )
