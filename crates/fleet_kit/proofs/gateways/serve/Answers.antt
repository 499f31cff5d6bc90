use Rattle.std.proofs.Common.{rules, arith, ap}
use Rattle.crossbeam_channel.specs.Claims.{view}
use Rattle.fleet_kit.proofs.Exports.{get_at}
use Rattle.fleet_kit.proofs.Posting.{gets, learns}
use Rattle.fleet_kit.proofs.Served.{served_more, served_none, served_same}
use Rattle.fleet_kit.proofs.gateways.serve.Goals as goal

pub loop-init : goal.loop-init
loop-init g c = (search rules, search rules, served_none c.args.exports.now c.args.id (view c.args.pass).got c.new-gateway.result c.new-gateway.ensures.id c.new-gateway.ensures.value c.requires.new)

pub recv_as-requires-clause-rule : goal.recv_as-requires-clause-rule
recv_as-requires-clause-rule g c = (gets _ _, learns _ _)

pub loop-preserved-in_ok-take : goal.loop-preserved-in_ok-take
loop-preserved-in_ok-take g c =
    let e = c.index-exports-place.result in
    let there = get_at c.args.exports.now c.in-Ok.place e c.if-place-exports.true c.index-exports-place.is in (
      search rules,
      search rules,
      served_more c.args.exports.now c.args.id (view c.loop.pass).got (view c.recv_as.new.pass).got c.loop.gateway c.take.new.self c.in-Ok.place e (ap (λ v. v.got) c.in-Ok.ensures.rule) c.loop.invariant.2 there c.in_ok-take.ensures.id
          c.in_ok-take.ensures.ok,
    )

pub loop-preserved : goal.loop-preserved
loop-preserved g c = (
  search rules,
  search rules,
  served_same c.args.exports.now c.args.id (view c.loop.pass).got (view c.recv_as.new.pass).got c.loop.gateway c.in-Ok.place (ap (λ v. v.got) c.in-Ok.ensures.rule) c.loop.invariant.2 (let out = c.if-place-exports.false in omega (arith, out)),
)
