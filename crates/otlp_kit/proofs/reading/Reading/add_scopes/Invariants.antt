use Rattle.std.proofs.Common.{◌≡◌, drop}
use Rattle.otlp_kit.specs.Walks.{walk, walk_from}
use Rattle.otlp_kit.specs.Reading.{add_scope}
use Rattle.otlp_kit.proofs.reading.Reading.add_scopes.Given as goal

abbrev pub invariant-loop-place : goal.invariant-loop-place
invariant-loop-place l = walk_from (add_scope l.scopes) l.place l.self (drop l.place l.scopes) ≡ walk (add_scope l.scopes) l.fn.self l.scopes
