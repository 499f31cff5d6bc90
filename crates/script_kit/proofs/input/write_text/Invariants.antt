use Rattle.std.proofs.Common.{◌≤◌, ◌+◌, length}
use Rattle.script_kit.specs.Bytes.{Leaves}
use Rattle.script_kit.proofs.input.write_text.Given as goal

-- a front is written, at least a byte a turn, and the rest is left
abbrev pub invariant-loop-turn : goal.invariant-loop-turn
invariant-loop-turn g l = record {
  least : length l.rest + l._turn ≤ length l.fn.text;
  written : Leaves (g.W.Write.contents l.fn.writer) (g.W.Write.contents l.writer) l.fn.text l.rest;
}
