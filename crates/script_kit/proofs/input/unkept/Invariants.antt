use Rattle.std.proofs.Common.{◌≡◌, ◌≤◌, ◌+◌, ℕ, List, length}
use Rattle.std.specs.Io.KnownBytes.{Consumes}
use Rattle.script_kit.proofs.input.unkept.Given as goal

-- what is read so far, at least a byte a turn, and no more than a script may have
abbrev pub invariant-loop-turn : goal.invariant-loop-turn
invariant-loop-turn g l = record {
  some : l._turn ≤ l.read;
  few : l.read ≤ 1048576;
  taken : (front : List ℕ) × Consumes (g.R.Read.remaining l.fn.reader) (g.R.Read.remaining l.reader) front × (l.fn.before + length front ≡ l.read);
}
