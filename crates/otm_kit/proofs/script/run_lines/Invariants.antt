use Rattle.std.proofs.Common.{◌≤◌, ◌+◌, length}
use Rattle.otm_kit.proofs.Telling.{Told}
use Rattle.otm_kit.proofs.script.run_lines.Given as goal

-- the lines before are done, and no more of them than bytes
abbrev pub invariant-loop-text : goal.invariant-loop-text
invariant-loop-text g l = record {
  few : l.number + length l.rest ≤ length l.fn.script + 1;
  told : Told l.fn.script (g.W.Write.contents l.fn.writer) (g.W.Write.contents l.writer) l.desk l.number l.rest;
}

abbrev pub decreases-loop-text : goal.decreases-loop-text
decreases-loop-text g l = length l.rest
