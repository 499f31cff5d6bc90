use Rattle.std.proofs.Common.{ℕ, List, map, fold, codes, ap, ◌∙◌}
use Rattle.std.proofs.lemmas.Result.{IfOk-weaker}
use Rattle.attr_kit.specs.Orders.{text_cmp}
use Rattle.gateway_kit.specs.Walks.{keyed_cell_of_ref}
use Rattle.page_kit.specs.Groups.{put, groups}
use Rattle.page_kit.specs.Labels.{labels, labels_of_groups, label_name, value_text, row_labels}
use Rattle.page_kit.specs.Views.{lists}
use Rattle.page_kit.proofs.labels.row_labels.Goals as goal

abbrev Texts : Type 0
Texts = List (List ℕ × List (List ℕ))

pub returns : goal.returns
unfolding row_labels labels groups
returns c =
    let key = (keyed_cell_of_ref c.args.point).0 in
    let empty = ap lists c.new-texts.ensures.empty in
    let one = c.in_ok-add.ensures ∙ ap (λ (g : Texts). put text_cmp g (codes "service_name", key.writer.service)) empty in
    let two = c.in_ok-add-2.ensures ∙ ap (λ (g : Texts). put text_cmp g (codes "otel_scope_name", key.stream.scope)) one in
    let all = c.in_ok-add_attributes.ensures ∙ ap (λ (g : Texts). fold (put text_cmp) g (map (λ p. (label_name p.0, value_text p.1)) key.attrs)) two in
    IfOk-weaker c.labels_of.result _ _ (λ labels is. is ∙ ap labels_of_groups all) c.labels_of.ensures
