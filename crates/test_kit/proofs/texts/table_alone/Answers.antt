use Rattle.std.proofs.Common.{◌≡◌, ◌∙◌, List, [], ◌∷◌, ap, subst}
use Rattle.std.specs.Prelude.{IfOk}
use Rattle.point_kit.specs.Exports.{state}
use Rattle.rollup_kit.specs.Rollups.{rollup_rows}
use Rattle.rollup_kit.specs.TableText.{table_text}
use Rattle.rollup_kit.specs.declared.row.Row.{Row}
use Rattle.test_kit.proofs.Taking.{takes_first}
use Rattle.test_kit.proofs.texts.table_alone.Goals as goal

pub returns : goal.returns
returns c =
    let holds = takes_first c.args.export.now _ _ c.new-gateway.ensures.value c.in_ok-take.ensures.ok in
    let rows : c.as_slice.result.now ≡ rollup_rows c.args.ask.now (state (c.args.export.now ∷ [])) = c.as_slice.ensures ∙ c.in_ok-rows.ensures.value ∙ ap (rollup_rows c.args.ask.now) holds in
    subst (λ (rs : List Row). IfOk c.table.result (λ text. text ≡ table_text rs)) rows c.table.ensures.value
