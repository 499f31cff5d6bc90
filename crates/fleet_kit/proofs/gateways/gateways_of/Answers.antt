use Rattle.std.proofs.Common.{rules, arith, ◌≡◌, ◌∙◌, length, map, slice_get, slice_index, slice_index_or, ap, subst, sym, Some}
use Rattle.std.specs.Prelude.{Ok, IfOk}
use Rattle.std.proofs.lemmas.List.{length-map}
use Rattle.fleet_kit.proofs.Exported.{ok_then}
use Rattle.fleet_kit.proofs.Exports.{answers_each}
use Rattle.fleet_kit.proofs.Served.{all_whole, id_at}
use Rattle.fleet_kit.proofs.Stops.{err_then, gathered_stops, lacking_stops}
use Rattle.fleet_kit.specs.Serving.{AreWhole, IsWhole, StopsGateway, StopsServing}
use Rattle.fleet_kit.proofs.gateways.gateways_of.Goals as goal

pub returns : goal.returns
returns g c =
    let exports = c.args.exports.now in
    let ids = c.args.ids.now in
    let posts = c.in_ok-posts.posts.items in
    let rs = c.in_ok-results.results.items in
    let same = c.in_ok-posts.ensures.ids in
    let count : length c.in_ok-posts.posts.items ≡ length c.args.ids.now = sym (length-map posts (λ p. p.id)) ∙ ap length same in
    let size : length c.in_ok-results.results.items ≡ length c.in_ok-posts.posts.items = search rules in
    let long : length c.in_ok-results.results.items ≡ length c.args.ids.now = size ∙ count in
    record {
      ok = ok_then c.gather.result (λ gs. map Ok gs.items ≡ c.in_ok-results.results.items) (λ gs. AreWhole c.args.exports.now c.args.ids.now gs.items)
          (λ gs is. all_whole exports ids gs.items
          (answers_each (λ i v. IsWhole c.args.exports.now (slice_index c.args.ids.now i) v) rs gs.items (length ids) is long
          (λ i d l. let k = (c.in_ok-results.ensures.each i d (omega (arith, l, count))).1 in
          let id = id_at (λ p. p.id) posts i k.job (omega (arith, l, count)) (k.job_is k.job) ∙ ap (λ l. slice_index l i) same in
          subst (λ n. IfOk (slice_index_or c.in_ok-results.results.items i d) (λ v. IsWhole c.args.exports.now n v)) id k.call.met.0)))
          c.gather.ensures.ok;
      err = err_then c.gather.result _ (StopsServing c.args.exports.now c.args.ids.now)
          (λ h is. gathered_stops (StopsServing c.args.exports.now c.args.ids.now) rs
          (λ i d l. let k = (c.in_ok-results.ensures.each i d (omega (arith, l, count, long))).1 in
          let at = subst (λ p. slice_get c.args.ids.now p.gateway ≡ Some p.id) (k.job_is k.job) (c.in_ok-posts.ensures.gateways i k.job (omega (arith, l, count, long))) in
          err_then (slice_index_or c.in_ok-results.results.items i d) (StopsGateway c.args.exports.now k.job.gateway k.job.id k.job.unsent) (StopsServing c.args.exports.now c.args.ids.now)
          (λ e lacks. lacking_stops exports ids k.job.gateway k.job.id k.job.unsent e at lacks) k.call.met.1) tt h is) c.gather.ensures.err;
    }
