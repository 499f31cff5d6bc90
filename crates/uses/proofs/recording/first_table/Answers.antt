use Rattle.std.proofs.Common.{◌∙◌, [], ◌∷◌, ap}
use Rattle.gossip_kit.proofs.Changes.{alone}
use Rattle.point_kit.specs.Exports.{join_points, state}
use Rattle.rollup_kit.specs.Rollups.{rollup_rows}
use Rattle.rollup_kit.specs.TableText.{table_text}
use Rattle.uses.proofs.recording.first_table.Goals as goal

pub returns : goal.returns
returns c =
    let came = state (c.in_ok-export.export ∷ []) in
    record {
      export = c.in_ok-export.export;
      covers = c.in_ok-export.ensures;
      told = c.in_ok-table.ensures.value ∙ ap table_text (c.as_slice.ensures ∙ c.in_ok-rows.ensures.value
          ∙ ap (rollup_rows c.args.ask.now) (c.in_ok-take.ensures.ok ∙ ap (λ p. join_points p came) c.new-gateway.ensures.value ∙ alone came));
    }
