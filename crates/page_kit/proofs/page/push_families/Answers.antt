use Rattle.std.proofs.Common.{ℕ, List, ◌++◌, string_bytes, sym, ap, ◌∙◌}
use Rattle.std.specs.List.{flat_map}
use Rattle.std.proofs.lemmas.List.{take_all}
use Rattle.std.proofs.lemmas.List.Folds.{flat_map-map}
use Rattle.page_kit.specs.Rows.{family_text}
use Rattle.page_kit.specs.Views.{with_cells}
use Rattle.page_kit.specs.declared.families.Measured.{Measured}
use Rattle.page_kit.proofs.page.push_families.Goals as goal

pub returns : goal.returns
returns c =
    let before = string_bytes c.args.text.now in
    c.loop-measured.invariant
    ∙ ap (λ (ms : List Measured). before ++ flat_map (λ (m : Measured). family_text c.args.format (with_cells m)) ms) (take_all c.loop-measured.measured-index c.args.families.now c.loop-measured-test.false)
    ∙ ap (λ (l : List ℕ). before ++ l) (sym (flat_map-map (family_text c.args.format) with_cells c.args.families.now))
