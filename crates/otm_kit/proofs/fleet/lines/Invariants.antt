use Rattle.std.proofs.Common.{◌≡◌, take, string_bytes}
use Rattle.std.specs.List.{flat_map}
use Rattle.otm_kit.specs.FleetTexts.{answer_line}
use Rattle.otm_kit.proofs.fleet.lines.Given as goal

abbrev pub invariant-loop-gateway : goal.invariant-loop-gateway
invariant-loop-gateway l = string_bytes l.text ≡ flat_map (answer_line l.ask) (take l.gateway-index l.gateways)
