use Rattle.std.proofs.Common.{◌≡◌, ◌-◌}
use Rattle.otlp_kit.specs.Fields.{fields_from, message}
use Rattle.otlp_kit.proofs.message.read.Given as goal

abbrev pub invariant-loop : goal.invariant-loop
invariant-loop g l = fields_from g.M.Message.step (l.end - l.counter) l.said l.rest ≡ message g.M.Message.step g.M.Message.none l.span
