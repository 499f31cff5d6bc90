use Rattle.std.proofs.Common.{◌≡◌, take, map}
use Rattle.otlp_kit.specs.Reading.{scope_name}
use Rattle.otlp_kit.proofs.reading.scope_names.Given as goal

abbrev pub invariant-loop-scope : goal.invariant-loop-scope
invariant-loop-scope l = l.names.items ≡ map scope_name (take l.scope-index l.scopes)
