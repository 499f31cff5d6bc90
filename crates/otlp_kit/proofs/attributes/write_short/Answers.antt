use Rattle.std.proofs.Common.{◌++◌, List, ℕ, ap, ◌∙◌, append_assoc}
use Rattle.otlp_kit.proofs.Written.{short_head, short_middle, short_written}
use Rattle.otlp_kit.proofs.attributes.write_short.Goals as goal

pub returns : goal.returns
returns c =
    let key = c.args.key.now in
    let text = c.args.text.now in
    let head = short_head c.args.field key text in
    let middle = short_middle text in
    short_written c.args.field key text c.args.out.now.items c.extend_from_slice-4.new.self.items c.requires.field c.requires.short
    (c.in_ok-extend_from_slice-4.ensures.items
    ∙ (λ i. c.in_ok-extend_from_slice-3.ensures.items i ++ c.as_bytes-2.ensures.value i)
    ∙ append_assoc c.extend_from_slice-2.new.self.items middle text
    ∙ ap (λ (l : List ℕ). l ++ (middle ++ text)) (c.in_ok-extend_from_slice-2.ensures.items ∙ (λ i. c.in_ok-extend_from_slice.ensures.items i ++ c.as_bytes.ensures.value i)))
