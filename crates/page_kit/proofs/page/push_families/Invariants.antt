use Rattle.std.proofs.Common.{◌≡◌, ◌++◌, take, string_bytes}
use Rattle.std.specs.List.{flat_map}
use Rattle.page_kit.specs.Rows.{family_text}
use Rattle.page_kit.specs.Views.{with_cells}
use Rattle.page_kit.proofs.page.push_families.Given as goal

abbrev pub invariant-loop-measured : goal.invariant-loop-measured
invariant-loop-measured l = string_bytes l.text ≡ string_bytes l.fn.text ++ flat_map (λ m. family_text l.format (with_cells m)) (take l.measured-index l.families)
