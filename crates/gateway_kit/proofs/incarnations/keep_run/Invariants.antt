use Rattle.std.proofs.Common.{◌≡◌, ◌++◌, map, take}
use Rattle.gateway_kit.specs.Incarnations.{keyed_cells}
use Rattle.gateway_kit.specs.Recent.{recent_incarnations}
use Rattle.gateway_kit.proofs.incarnations.keep_run.Given as goal

-- what of the incarnations so far is newer
abbrev pub invariant-loop-incarnation : goal.invariant-loop-incarnation
invariant-loop-incarnation l = map keyed_cells l.kept.items ≡ map keyed_cells l.fn.kept.items ++ map keyed_cells (recent_incarnations l.number (take l.incarnation-index l.run))
