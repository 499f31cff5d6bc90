use Rattle.std.proofs.Common.{◌≡◌, ◌++◌, take, string_bytes}
use Rattle.std.specs.List.{flat_map}
use Rattle.std.specs.Fmt.{decimal}
use Rattle.page_kit.specs.Lines.{sample}
use Rattle.page_kit.proofs.own.push_all_numbers.Given as goal

abbrev pub invariant-loop-labels : goal.invariant-loop-labels
invariant-loop-labels l = string_bytes l.text ≡ string_bytes l.fn.text ++ flat_map (λ e. flat_map (λ n. sample l.name e.0 (decimal n)) e.1.items) (take l.labels-index l.rows)
