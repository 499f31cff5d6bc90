use Rattle.std.proofs.Common.{rules, arith, ◌≡◌, ◌∙◌, ap, inr, map, refl, subst, slice_index_or}
use Rattle.plan_kit.specs.Plans.{AreApart}
use Rattle.rollup_kit.specs.Fleets.{entries_of}
use Rattle.fleet_kit.proofs.Exported.{ok_then}
use Rattle.fleet_kit.proofs.Exports.{exported, index_at}
use Rattle.fleet_kit.proofs.Stops.{err_then, not_run, setup_ends, setup_stops, told_err, EndAt, StopAt}
use Rattle.fleet_kit.specs.Collected.{IsRoundOfMixed}
use Rattle.fleet_kit.specs.Ends.{AllEnd, StopsShort}
use Rattle.fleet_kit.specs.Jobs.{task_of}
use Rattle.fleet_kit.specs.declared.halt.Halt.TheVariants.{NoMemory}
use Rattle.fleet_kit.specs.Setups.{plan_at, start_at, IsExportAt, no_writer, writer_at}
use Rattle.fleet_kit.proofs.writers.export_at.Goals as goal

pub returns : goal.returns
returns g c =
    let its = c.in_ok-writer.ensures in
    let passes = g.G.Gate.passes c.args.gate.now in
    let s = c.args.setup.now in
    let place = c.args.place in
    let at : c.index-writers-place.result ≡ writer_at c.args.setup.now c.args.place =
    index_at c.as_slice-writers.result.now c.args.place c.index-writers-place.result no_writer (search (rules, arith)) c.index-writers-place.is
    ∙ ap (λ l. slice_index_or l c.args.place no_writer) c.as_slice-writers.ensures.value in
    let plan : c.in_ok-writer.writer.tally.plan ≡ plan_at c.args.setup.now c.args.place = its.plan ∙ c.in_ok-try_copy-2.ensures.value ∙ ap (λ v. v.1) at in
    let start : c.in_ok-writer.writer.start ≡ start_at c.args.setup.now c.args.place = its.start ∙ ap (λ v. v.2) at in
    record {
      ok = ok_then c.export_of.result (λ e. IsRoundOfMixed c.in_ok-writer.writer c.args.setup.now.end (entries_of (map task_of c.as_slice.result.now) c.args.place) e) (λ e. IsExportAt c.args.setup.now c.args.place e)
          (λ e is. exported c.args.setup.now c.args.place c.in_ok-writer.writer e
          (its.id ∙ c.in_ok-try_copy.ensures.value ∙ ap (λ v. v.0) at) plan start
          (subst (λ v. AreApart v.1.streams) at c.streams_are_apart.ensures.apart)
          (subst (λ js. IsRoundOfMixed c.in_ok-writer.writer c.args.setup.now.end (entries_of (map task_of js) c.args.place) e) c.as_slice.ensures.value is)) c.export_of.ensures.ok;
      ends = ok_then c.export_of.result _ (λ _. EndAt (g.G.Gate.passes c.args.gate.now) c.args.setup.now c.args.place)
          (λ e is. setup_ends passes s place c.in_ok-writer.writer.tally.plan c.in_ok-writer.writer.start plan start
          (subst (λ js. AllEnd (g.G.Gate.passes c.args.gate.now) (λ _. c.in_ok-writer.writer.tally.plan) (λ _. c.in_ok-writer.writer.start) (λ w. w ≡ c.args.place) js) c.as_slice.ensures.value is)) c.export_of.ensures.ends;
      err = err_then c.export_of.result _ (StopAt (g.G.Gate.passes c.args.gate.now) c.args.setup.now c.args.place)
          (λ h is. setup_stops passes s place c.in_ok-writer.writer.tally.plan c.in_ok-writer.writer.start plan start h
          (subst (λ js. StopsShort (g.G.Gate.passes c.args.gate.now) (λ _. c.in_ok-writer.writer.tally.plan) (λ _. c.in_ok-writer.writer.start) (λ w. w ≡ c.args.place) js h) c.as_slice.ensures.value is)) c.export_of.ensures.err;
    }

pub returns-in_err-try_copy-clause-err : goal.returns-in_err-try_copy-clause-err
returns-in_err-try_copy-clause-err g c =
    let s = c.args.setup.now in
    told_err c.from_residual.result NoMemory (StopAt (g.G.Gate.passes c.args.gate.now) c.args.setup.now c.args.place) c.from_residual.ensures.1
    (not_run (g.G.Gate.passes c.args.gate.now) (plan_at s) (start_at s) (λ w. w ≡ c.args.place) s.jobs.items NoMemory (inr refl))

pub returns-in_err-try_copy-2-clause-err : goal.returns-in_err-try_copy-2-clause-err
returns-in_err-try_copy-2-clause-err g c =
    let s = c.args.setup.now in
    told_err c.from_residual-in_err-try_copy-2.result NoMemory (StopAt (g.G.Gate.passes c.args.gate.now) c.args.setup.now c.args.place) c.from_residual-in_err-try_copy-2.ensures.1
    (not_run (g.G.Gate.passes c.args.gate.now) (plan_at s) (start_at s) (λ w. w ≡ c.args.place) s.jobs.items NoMemory (inr refl))

pub returns-in_err-writer-clause-err : goal.returns-in_err-writer-clause-err
returns-in_err-writer-clause-err g c =
    let s = c.args.setup.now in
    told_err c.from_residual-in_err-writer.result NoMemory (StopAt (g.G.Gate.passes c.args.gate.now) c.args.setup.now c.args.place) c.from_residual-in_err-writer.ensures.1
    (not_run (g.G.Gate.passes c.args.gate.now) (plan_at s) (start_at s) (λ w. w ≡ c.args.place) s.jobs.items NoMemory (inr refl))
