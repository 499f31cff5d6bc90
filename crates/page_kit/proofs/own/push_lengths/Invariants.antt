use Rattle.std.proofs.Common.{◌≡◌, ◌++◌, length, take, string_bytes, codes}
use Rattle.std.specs.List.{flat_map}
use Rattle.std.specs.Fmt.{decimal}
use Rattle.page_kit.specs.Lines.{sample}
use Rattle.page_kit.proofs.own.push_lengths.Given as goal

abbrev pub invariant-loop-labels : goal.invariant-loop-labels
invariant-loop-labels l = string_bytes l.text ≡ string_bytes l.fn.text ++ flat_map (λ e. sample (codes "kotskhin_conflicts") e.0 (decimal (length e.1.items))) (take l.labels-index l.rows)
