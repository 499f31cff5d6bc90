use Rattle.std.proofs.Common.{◌≡◌, length, sym, arith}
use Rattle.std.proofs.lemmas.Bool.Decides.{nat_tests}
use Rattle.archive_kit.proofs.Steps.{other_lengths}
use Rattle.archive_kit.proofs.adding.added_buckets.Goals as goal

pub returns-then-counts-more-clause-fits : goal.returns-then-counts-more-clause-fits
returns-then-counts-more-clause-fits c = sym (other_lengths c.args.counts.now c.args.more.now (λ (e : length c.args.counts.now ≡ length c.args.more.now). first_of (omega arith, grind (arith, nat_tests))))
