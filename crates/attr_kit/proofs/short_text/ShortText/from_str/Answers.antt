use Rattle.std.proofs.Common.{IsUtf8, length, ap, subst, sym, ◌∙◌}
use Rattle.std.proofs.lemmas.List.{take_at, drop_at, drop-replicate}
use Rattle.attr_kit.proofs.short_text.ShortText.from_str.Goals as goal

pub invariant_of-result : goal.invariant_of-result
invariant_of-result c =
    let same = c.copy_from_slice.ensures.after ∙ c.as_bytes.ensures.value in
    let front = take_at c.copy_from_slice.new.self _ (length c.args.text.now) (ap length same) in
    let behind = drop_at c.copy_from_slice.new.self _ (length c.args.text.now) (ap length same) in
    (c.requires, ∣ subst IsUtf8 (sym (front ∙ same)) c.utf8.text ∣₁, behind ∙ drop-replicate (length c.args.text.now) 30 0)
