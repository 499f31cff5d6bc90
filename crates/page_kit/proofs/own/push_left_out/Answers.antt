use Rattle.std.proofs.Common.{ℕ, List, Vec, Global, codes, sym, ap, ◌∙◌}
use Rattle.std.specs.Fmt.{decimal}
use Rattle.std.specs.List.{flat_map}
use Rattle.std.proofs.lemmas.List.Folds.{flat_map-map}
use Rattle.std.proofs.lemmas.Result.{on_ok_weaker}
use Rattle.page_kit.specs.Lines.{sample}
use Rattle.page_kit.specs.Page.{left_out_text}
use Rattle.page_kit.specs.declared.labels.Label.{Label}
use Rattle.page_kit.proofs.Texted.{two_parts}
use Rattle.page_kit.proofs.own.push_left_out.Goals as goal

abbrev read : List Label × Vec ℕ Global → List Label × List ℕ
read e = (e.0, e.1.items)

abbrev told : List Label × List ℕ → List ℕ
told g = flat_map (λ (n : ℕ). sample (codes "kotskhin_left_out") g.0 (decimal n)) g.1

pub returns : goal.returns
unfolding left_out_text
returns c =
    on_ok_weaker c.push_all_numbers.result (λ is. two_parts _ _ _ _ _ _ c.in_ok-push_head.ensures is
    (ap (λ (rs : List (List Label × Vec ℕ Global)). flat_map (λ (e : List Label × Vec ℕ Global). told (read e)) rs) c.as_slice.ensures.value ∙ sym (flat_map-map told read c.in_ok-rows.rows.items)
    ∙ ap (λ (rs : List (List Label × List ℕ)). flat_map told rs) c.in_ok-rows.ensures)) c.push_all_numbers.ensures
