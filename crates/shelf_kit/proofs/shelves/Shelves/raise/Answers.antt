use Rattle.std.proofs.Common.{◌<◌, ℕ, List, ap, sym, subst, ◌∙◌, arith}
use Rattle.std.proofs.lemmas.Slice.Zip.{AllZip-long}
use Rattle.shelf_kit.specs.Shelved.{Shelved}
use Rattle.shelf_kit.specs.Shelving.{AreAtMost, AreTops, bounds_on}
use Rattle.shelf_kit.proofs.Places.{seen_len}
use Rattle.shelf_kit.proofs.Raised.{raised_here, raised_items, raised_kept, raised_shelved, raised_tops}
use Rattle.shelf_kit.proofs.shelves.Shelves.raise.Goals as goal

pub raise_at-requires : goal.raise_at-requires
raise_at-requires g c =
    let long = AllZip-long _ c.self.inside.shelves.items c.self.inside.tops.items c.self.invariant.1 in
    let within = c.locate-shelf.ensures.within in
    omega (arith, long, within)

pub invariant_of-self : goal.invariant_of-self
invariant_of-self g c =
    let long = seen_len c.self.inside.shelves.items c.self.inside.starts.items c.self.inside.len c.self.invariant.0 c.args.self.now c.self.view_is in
    let asked = c.requires in
    let inside : c.args.index < c.self.inside.len = omega (arith, long, asked) in (
      raised_shelved c.self.invariant.0 inside c.locate-shelf.ensures c.raise_on.ensures,
      subst (λ (ns : List ℕ). AreTops c.raise_on.new.shelves.items ns) (sym c.raise_at.ensures)
          (raised_tops c.self.invariant.0 inside c.locate-shelf.ensures c.raise_on.ensures c.self.inside.tops.items c.self.invariant.1),
    )

pub returns : goal.returns
returns g c =
    let is = c.self.invariant.0 in
    let l = c.locate-shelf.ensures in
    let r = c.raise_on.ensures in
    let long = seen_len c.self.inside.shelves.items c.self.inside.starts.items c.self.inside.len is c.args.self.now c.self.view_is in
    let asked = c.requires in
    let inside : c.args.index < c.self.inside.len = omega (arith, long, asked) in
    record {
      items = raised_items is inside l r ∙ ap (λ (v : Shelved g.row.T.Denot). v.items) c.self.view_is;
      kept = subst (λ k. AreAtMost k (bounds_on c.raise_on.new.shelves.items)) (ap (λ (v : Shelved g.row.T.Denot). v.bounds) c.self.view_is) (raised_kept is inside l r);
      here = raised_here is inside l r;
    }
