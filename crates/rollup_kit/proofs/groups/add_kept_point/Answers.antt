use Rattle.std.proofs.Common.{sym, ap}
use Rattle.attr_kit.specs.Keeping.{kept}
use Rattle.attr_kit.specs.declared.keep.Keep.{Keep}
use Rattle.attr_kit.specs.declared.keep.Keep.TheVariants.{Only}
use Rattle.gateway_kit.specs.Walks.{keyed_cell_of_ref}
use Rattle.rollup_kit.proofs.Placed.{added_kept, added_row}
use Rattle.rollup_kit.proofs.groups.add_kept_point.Goals as goal

pub returns-then-add_shown : goal.returns-then-add_shown
returns-then-add_shown c =
    let attrs = c.args.point.attrs.now in
    let a = c.add_shown.ensures.added c.if-add_shown.true in
    added_row c.args.ask.now c.args.buckets (keyed_cell_of_ref c.args.point) (kept (Only c.args.list.now) attrs) c.args.rows.now c.add_shown.new.self
    (sym c.if-not-is_asked.ensures) (sym (ap (λ (k : Keep). kept k attrs) c.requires.keep))
    (added_kept c.args.list.now attrs c.pairs.result.now c.find_kept.new.places.items c.as_slice.result.now c.args.buckets c.args.point.cell.now c.args.rows.now c.add_shown.new.self
    c.in_ok-find_kept.ensures c.pairs.ensures.value c.as_slice.ensures.value a.0 a.1 a.2 a.3 a.4)
