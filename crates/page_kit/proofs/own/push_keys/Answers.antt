use Rattle.std.proofs.Common.{ℕ, [], codes, sym, ap}
use Rattle.std.specs.Fmt.{decimal}
use Rattle.std.proofs.lemmas.List.{length-map}
use Rattle.std.proofs.lemmas.Result.{on_ok_weaker}
use Rattle.gateway_kit.specs.Walks.{keyed_cell_of_ref}
use Rattle.page_kit.specs.Lines.{sample}
use Rattle.page_kit.specs.Page.{keys_text}
use Rattle.page_kit.proofs.Texted.{two_parts}
use Rattle.page_kit.proofs.own.push_keys.Goals as goal

pub returns : goal.returns
unfolding keys_text
returns c =
    on_ok_weaker c.push_number.result (λ is. two_parts _ _ _ _ _ _ c.in_ok-push_head.ensures is
    (ap (λ (n : ℕ). sample (codes "kotskhin_keys") [] (decimal n)) (sym (length-map c.args.points.now keyed_cell_of_ref)))) c.push_number.ensures
