use Rattle.std.proofs.Common.{map, take}
use Rattle.file_kit.specs.Sending.{AreRequests}
use Rattle.file_kit.proofs.sending.otlp.Given as goal

abbrev pub invariant-loop-place : goal.invariant-loop-place
invariant-loop-place l = AreRequests (map (λ f. f.items) (take l.place l.files)) l.bytes.items
