use Rattle.std.proofs.Common.{◌∙◌, ◌++◌, ◌∷◌, [], ap}
use Rattle.indexmap.proofs.CallerLemmas.{insert_entry-new}
use Rattle.rollup_kit.proofs.SetOrders.{set_eq, by_order}
use Rattle.rollup_kit.proofs.whole_rows.start.Goals as goal

pub returns-clause-ok : goal.returns-clause-ok
returns-clause-ok c =
    c.in_ok-insert.ensures.entries ∙ insert_entry-new set_eq c.args.rows.now c.args.attrs c.in_ok-group.group (by_order c.args.rows.now.entries c.args.attrs ∙ c.requires)
    ∙ ap (λ g. c.args.rows.now.entries ++ (c.args.attrs, g) ∷ []) c.in_ok-group.ensures
