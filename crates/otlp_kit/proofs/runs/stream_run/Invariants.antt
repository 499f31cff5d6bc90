use Rattle.std.proofs.Common.{◌≡◌, ◌+◌, ◌-◌, ◌<◌, ◌≤◌, drop, length}
use Rattle.otlp_kit.specs.Request.{of_one_stream}
use Rattle.otlp_kit.specs.Runs.{run_length}
use Rattle.otlp_kit.proofs.runs.stream_run.Given as goal

abbrev pub invariant-loop-len : goal.invariant-loop-len
invariant-loop-len l = record {
  some : 0 < l.len;
  within : l.len ≤ length l.points;
  passed : run_length of_one_stream l.points + 1 ≡ l.len + run_length of_one_stream (drop (l.len - 1) l.points);
}

abbrev pub decreases-loop-len : goal.decreases-loop-len
decreases-loop-len l = length l.points - l.len
