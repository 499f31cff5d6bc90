use Rattle.std.proofs.Common.{List, IfOk, sym, subst}
use Rattle.gateway_kit.specs.Changing.{KeyedCell, Prepares, keyed_cells_of}
use Rattle.gateway_kit.specs.declared.changes.Changes.{Changes}
use Rattle.gateway_kit.proofs.OneCell.{cells_of}
use Rattle.gateway_kit.proofs.incarnation.Incarnation.changes_by.Goals as goal

pub returns-clause-prepares : goal.returns-clause-prepares
returns-clause-prepares c =
    let listed = cells_of c.args.self.now c.self.inside.writer c.self.inside.start c.self.inside.items.items c.self.invariant.sorted c.self.view_is in
    subst (λ (es : List KeyedCell). IfOk c.draft_changes.result (λ (h : Changes). Prepares es (keyed_cells_of c.args.export.now) h)) (sym listed) c.draft_changes.ensures.prepares
