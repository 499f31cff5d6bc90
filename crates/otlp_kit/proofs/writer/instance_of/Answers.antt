use Rattle.std.proofs.Common.{true≢false, sym, arith}
use Rattle.otlp_kit.proofs.Instances.{no_instance}
use Rattle.otlp_kit.proofs.writer.instance_of.Goals as goal

pub returns-in-Err-clause-none : goal.returns-in-Err-clause-none
returns-in-Err-clause-none c = no_instance c.args.text.now (omega arith) (λ u e. true≢false (sym (c.in-Err.ensures.ok.1 (u, e))))
