-- Exports as text.
use Rattle.std.specs.Prelude.{ℕ, List, [], ◌∷◌}
use Rattle.std.specs.List.{flat_map}
use Rattle.point_kit.specs.Exports.{state}
use Rattle.point_kit.specs.declared.export.Export.{Export}
use Rattle.rollup_kit.specs.Rollups.{rollup_rows}
use Rattle.rollup_kit.specs.TableText.{table_text}
use Rattle.rollup_kit.specs.declared.ask.Ask.{Ask}

-- the table that answers an ask of what exports came to
abbrev pub table_of : Ask → List Export → List ℕ
table_of ask exports = table_text (rollup_rows ask (state exports))

-- the tables of exports, each by itself
abbrev pub tables_of : Ask → List Export → List ℕ
tables_of ask exports = flat_map (λ export. table_of ask (export ∷ [])) exports
