use Rattle.std.proofs.Common.{◌≡◌, ◌+◌, length, ap, ◌∙◌, rules, arith}
use Rattle.std.proofs.lemmas.Grind.{common_steps}
use Rattle.std.specs.FinMap.{entries, from_sorted}
use Rattle.gateway_kit.specs.Changing.{keyed_cells_of, after_growth}
use Rattle.gateway_kit.specs.Keys.{IncarnationKey, item_cmp}
use Rattle.gateway_kit.specs.IncarnationState.{IncarnationState, Cells}
use Rattle.gateway_kit.proofs.Growing.{after_growth_joins}
use Rattle.gateway_kit.proofs.incarnation.Incarnation.take.Goals as goal

pub returns-clause-joins : goal.returns-clause-joins
returns-clause-joins c =
    let changes = c.in_ok-changes.changes in
    let cells : Cells = c.install.new.self.cells in
    let is : cells ≡ from_sorted {R = item_cmp} (after_growth (entries c.args.self.now.cells) changes) = ap (λ (e : IncarnationKey × Cells). e.1) c.install.ensures.cells ∙ ap (λ (p : IncarnationState). from_sorted {R = item_cmp} (after_growth (entries p.cells) changes)) (c.reserve.ensures ∙ c.in_ok-changes.ensures.unchanged) in
    let more : c.len-more.result ≡ length changes.fresh.items = search rules in
    let changed : c.len.result + c.len-more.result ≡ length changes.updates.items + length changes.fresh.items = grind (arith, common_steps) in
    after_growth_joins c.args.self.now cells (keyed_cells_of c.args.export.now) changes c.len-more.result (c.len.result + c.len-more.result) c.in_ok-changes.ensures.prepares is more changed
