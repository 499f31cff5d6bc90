use Rattle.std.proofs.Common.{rules, arith, ◌≡◌, ◌<◌, inr, length, map, refl}
use Rattle.std.specs.Prelude.{Ok}
use Rattle.fleet_kit.proofs.Exported.{ok_then}
use Rattle.fleet_kit.proofs.Exports.{answers_each}
use Rattle.fleet_kit.proofs.Stops.{err_then, fleet_ends, fleet_stops, not_run, told_err}
use Rattle.fleet_kit.specs.Setups.{plan_at, start_at, AllEnded, AreExportsAt, IsExportAt, StopsFleet}
use Rattle.fleet_kit.specs.declared.halt.Halt.TheVariants.{NoMemory}
use Rattle.fleet_kit.proofs.writers.exports_of.Goals as goal

pub returns : goal.returns
returns g c =
    let rs = c.in_ok-results.results.items in
    let passes = g.G.Gate.passes c.args.gate.now in
    let S = c.args.setup.now in
    let long : length rs ≡ length c.args.setup.now.writers.items = search (rules, arith) in
    record {
      ok = ok_then c.gather.result (λ es. map Ok es.items ≡ c.in_ok-results.results.items) (λ es. AreExportsAt c.args.setup.now es.items)
          (λ es is. let r = answers_each (λ w e. IsExportAt c.args.setup.now w e) c.in_ok-results.results.items es.items (length c.args.setup.now.writers.items) is long (λ i d l. (c.in_ok-results.ensures.each i d (search (rules, arith))).1.met.0) in
          record { count = r.0; each = r.1 }) c.gather.ensures.ok;
      ends = ok_then c.gather.result (λ es. map Ok es.items ≡ c.in_ok-results.results.items) (λ es. AllEnded (g.G.Gate.passes c.args.gate.now) c.args.setup.now)
          (λ es is. fleet_ends passes S rs long (λ i d l. (c.in_ok-results.ensures.each i d (search (rules, arith))).1.met.1.0) es.items is) c.gather.ensures.ok;
      err = err_then c.gather.result _ (StopsFleet (g.G.Gate.passes c.args.gate.now) c.args.setup.now)
          (λ h is. fleet_stops passes S rs long (λ i d l. (c.in_ok-results.ensures.each i d (search (rules, arith))).1.met.1.0) (λ i d l. (c.in_ok-results.ensures.each i d (search (rules, arith))).1.met.1.1) h is) c.gather.ensures.err;
    }

pub returns-in_err-results-clause-err : goal.returns-in_err-results-clause-err
returns-in_err-results-clause-err g c =
    let s = c.args.setup.now in
    told_err c.from_residual.result NoMemory (StopsFleet (g.G.Gate.passes c.args.gate.now) c.args.setup.now) c.from_residual.ensures.1
    (not_run (g.G.Gate.passes c.args.gate.now) (plan_at s) (start_at s) (λ w. w < length s.writers.items) s.jobs.items NoMemory (inr refl))
