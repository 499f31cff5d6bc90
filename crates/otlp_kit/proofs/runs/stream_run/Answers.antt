use Rattle.std.proofs.Common.{arith}
use Rattle.otlp_kit.specs.Request.{of_one_stream}
use Rattle.otlp_kit.proofs.Fronts.{run_ends}
use Rattle.otlp_kit.proofs.runs.stream_run.Goals as goal

pub returns : goal.returns
returns c = run_ends of_one_stream c.args.points.now c.loop-len.len c.loop-len.invariant.some (omega arith) c.loop-len.invariant.passed
