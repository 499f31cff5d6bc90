use Rattle.std.proofs.Common.{◌≤◌, vec_len}
use Rattle.std.specs.Io.KnownBytes.{Consumes}
use Rattle.script_kit.proofs.input.read_script.Given as goal

-- what is read so far, at least a byte a turn and no more than fits
abbrev pub invariant-loop-turn : goal.invariant-loop-turn
invariant-loop-turn g l = record {
  some : l._turn ≤ vec_len l.bytes;
  few : vec_len l.bytes ≤ 1048576;
  read : Consumes (g.R.Read.remaining l.fn.reader) (g.R.Read.remaining l.reader) l.bytes.items;
}
