use Rattle.std.proofs.Common.{◌∙◌, ap, fold}
use Rattle.std.specs.Hash.FoldHasher as folding
use Rattle.std.specs.List.{flat_map}
use Rattle.rollup_kit.specs.Indexed.{pairs_hash, pair_writes}
use Rattle.rollup_kit.proofs.kept_rows.hash_of.Goals as goal

pub returns : goal.returns
unfolding pairs_hash
returns c =
    c.finish.ensures ∙ ap folding.finish (c.hash_slice.ensures ∙ (λ i. fold folding.write (c.default-state.ensures i) (flat_map pair_writes (c.pairs.ensures.value i))))
