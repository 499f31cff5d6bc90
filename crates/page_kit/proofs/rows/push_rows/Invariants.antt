use Rattle.std.proofs.Common.{◌≡◌, ◌++◌, List, take, string_bytes}
use Rattle.std.specs.List.{flat_map}
use Rattle.page_kit.specs.Bounds.{HaveBounds}
use Rattle.page_kit.specs.Rows.{row}
use Rattle.page_kit.specs.Totals.{KeyedCell}
use Rattle.page_kit.specs.Views.{cells}
use Rattle.page_kit.proofs.rows.push_rows.Given as goal

abbrev pub invariant-loop-labels : goal.invariant-loop-labels
invariant-loop-labels l = (all : List KeyedCell) → HaveBounds l.family.kind (λ v. v.items) all l.family.bounds.now.entries
    → string_bytes l.text ≡ string_bytes l.fn.text ++ flat_map (λ r. row l.family.kind l.family.name.now all (r.0, cells r.1.items)) (take l.labels-index l.rows)
