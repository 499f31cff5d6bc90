use Rattle.std.proofs.Common.{◌≡◌, ℕ, ◌++◌, ◌-◌, take, drop, length, List, ap, ◌∙◌, rules}
use Rattle.std.proofs.lemmas.List.{with_items_is}
use Rattle.otlp_kit.specs.Wire.{varint}
use Rattle.otlp_kit.proofs.Written.{turned}
use Rattle.otlp_kit.proofs.wire.close_block.Goals as goal

pub returns : goal.returns
returns c =
    let old = c.args.out.now.items in
    let start = c.args.start in
    let tagged = c.write_tag.new.out.items in
    let counted = c.write_varint.new.out.items in
    let end : c.len-end.result ≡ length old = search rules in
    with_items_is c.write_varint.new.out c.turn.new.bytes (c.turn.ensures.len ∙ c.as_mut_slice.ensures.len)
    ∙ turned c.args.field start old tagged counted c.turn.new.bytes c.requires.within c.in_ok-write_tag.ensures
    (c.in_ok-write_varint.ensures ∙ ap (λ (n : ℕ). tagged ++ varint (n - start)) end)
    (c.turn.ensures.value
    ∙ ap (λ (l : List ℕ). take start l ++ (drop c.len-end.result l ++ take (c.len-end.result - start) (drop start l))) c.as_mut_slice.ensures.value
    ∙ ap (λ (n : ℕ). take start counted ++ (drop n counted ++ take (n - start) (drop start counted))) end)
