use Rattle.std.proofs.Common.{◌≡◌, map, take}
use Rattle.file_kit.specs.Contents.{Says}
use Rattle.file_kit.proofs.join.joined.Given as goal

abbrev pub invariant-loop-place : goal.invariant-loop-place
invariant-loop-place l = record { says : Says (map (λ f. f.items) (take l.place l.files)) l.gateway.points; id : l.gateway.id ≡ 0 }
