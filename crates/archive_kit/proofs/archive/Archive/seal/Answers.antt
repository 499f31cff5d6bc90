use Rattle.std.proofs.Common.{◌≡◌, length, rules}
use Rattle.archive_kit.proofs.Kept.{sealed_kept}
use Rattle.archive_kit.proofs.archive.Archive.seal.Goals as goal

pub invariant_of-self : goal.invariant_of-self
invariant_of-self c =
    let all : c.len-self-inside.result ≡ length c.self.inside.tombstones.items = search rules in
    (rw (c.new.ensures.items, all) (sealed_kept c.self.invariant.0 c.args.start), c.self.invariant.1)
