use Rattle.bytes_kit.proofs.index.Index.+seek_from.Given as goal

abbrev pub decreases-seek_from : goal.decreases-seek_from
decreases-seek_from l = l.more
