use Rattle.std.proofs.Common.{◌≡◌, ◌+◌, take, sum}
use Rattle.bytes_kit.proofs.sound.adds_up.Given as goal

abbrev pub invariant-loop-number : goal.invariant-loop-number
invariant-loop-number l = sum (take l.number-index l.numbers) + l.rest ≡ l.total
