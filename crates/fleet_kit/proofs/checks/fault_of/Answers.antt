use Rattle.std.proofs.Common.{rules, sym}
use Rattle.fleet_kit.proofs.Refusals as refusals
use Rattle.fleet_kit.proofs.checks.fault_of.Goals as goal

pub returns-in-Some : goal.returns-in-Some
returns-in-Some c = sym (refusals.no_writer c.args.setup.now c.in-Some.job (search rules))

pub returns-in-Some-same_writer : goal.returns-in-Some-same_writer
returns-in-Some-same_writer c = sym (refusals.same_writer c.args.setup.now c.in-Some-same_writer.places (search rules) (search rules))

pub returns-in-Some-same_gateway : goal.returns-in-Some-same_gateway
returns-in-Some-same_gateway c = sym (refusals.same_gateway c.args.setup.now c.in-Some-same_gateway.places (search rules) (search rules) (search rules))

pub returns-in-Some-late_writer : goal.returns-in-Some-late_writer
returns-in-Some-late_writer c = sym (refusals.end_not_after c.args.setup.now c.in-Some-late_writer.writer (search rules) (search rules) (search rules) (search rules))

pub returns-in-Some-first_crowd : goal.returns-in-Some-first_crowd
returns-in-Some-first_crowd c = sym (refusals.too_many_jobs c.args.setup.now c.in-Some-first_crowd.writer (search rules) (search rules) (search rules) (search rules) (search rules))

pub returns : goal.returns
returns c = sym (refusals.not_refused c.args.setup.now (search rules) (search rules) (search rules) (search rules) (search rules))
