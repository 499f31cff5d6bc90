use Rattle.std.proofs.Common.{ℕ, List, [], ◌∷◌, ◌++◌, take, sym, ap, ◌∙◌}
use Rattle.page_kit.specs.Labels.{separator, joined}
use Rattle.page_kit.proofs.Joined.{join_step}
use Rattle.page_kit.proofs.labels.joined.Goals as goal

pub loop-place-preserved : goal.loop-place-preserved
loop-place-preserved c =
    let i = c.loop-place.place in
    let texts = c.args.texts.now in
    c.in_ok-push_str-2.ensures.bytes
    ∙ ap (λ (l : List ℕ). l ++ c.as_str.result.now) (c.in_ok-push_str.ensures.bytes ∙ ap (λ (l : List ℕ). l ++ c.separator.result.now) c.loop-place.invariant ∙ ap (λ (l : List ℕ). joined (take i texts) ++ l) c.separator.ensures)
    ∙ ap (λ (l : List ℕ). (joined (take i texts) ++ separator (59 ∷ []) i) ++ l) (c.as_str.ensures ∙ c.index-texts-place.is)
    ∙ sym (join_step (λ (t : List ℕ). t) (59 ∷ []) texts i _ c.loop-place-test.true)
