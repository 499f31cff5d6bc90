use Rattle.std.proofs.Common.{◌≡◌, ◌≤◌, length, take}
use Rattle.std.specs.Vec.{vec_capacity}
use Rattle.recorder_kit.specs.Lines.{recordings_of, AllThere}
use Rattle.recorder_kit.proofs.names.named_anew.Given as goal

abbrev pub invariant-loop-line : goal.invariant-loop-line
invariant-loop-line l = record {
  long : length l.kept.items ≡ l.line-index;
  there : AllThere l.fresh.named.keys l.fresh.sets.keys l.kept.items;
  same : recordings_of l.fresh.named.keys l.fresh.sets.keys l.kept.items ≡ take l.line-index (recordings_of l.names.named.keys l.names.sets.keys l.lines);
  few_names : length l.fresh.named.keys ≤ l.line-index;
  few_sets : length l.fresh.sets.keys ≤ l.line-index;
  room : length l.lines ≤ vec_capacity l.kept;
}
