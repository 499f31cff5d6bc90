use Rattle.std.proofs.Common.{◌≡◌, ◌++◌, take, string_bytes}
use Rattle.std.specs.List.{flat_map}
use Rattle.rollup_kit.specs.TableText.{line_of, cell}
use Rattle.rollup_kit.proofs.table_text.push_rows.Given as goal

abbrev pub invariant-loop-row : goal.invariant-loop-row
invariant-loop-row l =
    string_bytes l.text ≡ string_bytes l.fn.text ++ flat_map (λ row. line_of l.widths.attributes l.widths.points l.widths.conflicts (λ column. cell column row)) (take l.row-index l.rows)
