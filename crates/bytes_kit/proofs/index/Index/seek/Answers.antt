use Rattle.std.proofs.Common.{◌≡◌, ◌∙◌, ◌%◌, length, arith}
use Rattle.bytes_kit.specs.Index.{seek, seek_from}
use Rattle.bytes_kit.proofs.index.Index.seek.Goals as goal

pub returns : goal.returns
unfolding seek
returns c =
    let count : c.len.result ≡ length c.args.self.now.slots.items = omega arith in
    c.seek_from.ensures ∙ (λ i. seek_from c.args.texts.now c.args.self.now.slots.items c.args.text.now (c.hash_of.ensures i % count i) 8)
