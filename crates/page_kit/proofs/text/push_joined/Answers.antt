use Rattle.std.proofs.Common.{ℕ, List, [], ◌∷◌, ◌++◌, take, string_bytes, sym, ap, ◌∙◌, append_assoc}
use Rattle.std.specs.List.{join_by}
use Rattle.page_kit.specs.Labels.{separator}
use Rattle.page_kit.specs.Lines.{label_text}
use Rattle.page_kit.specs.declared.labels.Label.{Label}
use Rattle.page_kit.proofs.Joined.{join_step}
use Rattle.page_kit.proofs.text.push_joined.Goals as goal

pub loop-place-preserved : goal.loop-place-preserved
loop-place-preserved c =
    let i = c.loop-place.place in
    let labels = c.args.labels.now in
    let before = string_bytes c.args.text.now in
    let so_far = join_by label_text (44 ∷ []) (take i labels) in
    let between = separator (44 ∷ []) i in
    let one = label_text c.index-labels-place.result in
    c.in_ok-push_label.ensures
    ∙ ap (λ (l : List ℕ). l ++ one) (c.in_ok-push_str.ensures.bytes ∙ ap (λ (l : List ℕ). l ++ c.separator.result.now) c.loop-place.invariant ∙ ap (λ (l : List ℕ). (before ++ so_far) ++ l) c.separator.ensures)
    ∙ append_assoc (before ++ so_far) between one ∙ append_assoc before so_far (between ++ one) ∙ ap (λ (l : List ℕ). before ++ l) (sym (append_assoc so_far between one)
    ∙ ap (λ (l : Label). (so_far ++ between) ++ label_text l) c.index-labels-place.is ∙ sym (join_step label_text (44 ∷ []) labels i _ c.loop-place-test.true))
