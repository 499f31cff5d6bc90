use Rattle.std.proofs.Common.{◌≡◌, inl, inr, refl, subst}
use Rattle.fleet_kit.proofs.Stops.{err_then, not_run, ok_always, told_err, well_run}
use Rattle.fleet_kit.specs.Ends.{AllEnd, StopsShort}
use Rattle.fleet_kit.specs.declared.halt.Halt.TheVariants.{NoMemory}
use Rattle.fleet_kit.proofs.writers.export_of.Goals as goal

pub returns-in_default-clause-err : goal.returns-in_default-clause-err
returns-in_default-clause-err g c = not_run (g.G.Gate.passes c.args.gate.now) (λ _. c.args.writer.tally.plan) (λ _. c.args.writer.start) (λ w. w ≡ c.args.place) c.args.jobs.now NoMemory (inr refl)

pub returns-in_err-run_jobs-clause-err : goal.returns-in_err-run_jobs-clause-err
returns-in_err-run_jobs-clause-err g c =
    let h = c.in_err-run_jobs.field-0.0 in
    told_err c.from_residual.result h (StopsShort (g.G.Gate.passes c.args.gate.now) (λ _. c.args.writer.tally.plan) (λ _. c.args.writer.start) (λ w. w ≡ c.args.place) c.args.jobs.now) c.from_residual.ensures.1
    (subst (λ v. StopsShort (g.G.Gate.passes c.args.gate.now) (λ _. v.tally.plan) (λ _. v.start) (λ w. w ≡ c.args.place) c.args.jobs.now c.in_err-run_jobs.field-0.0) c.in-Ok.ensures.first.0 c.in_err-run_jobs.ensures.err)

pub returns-clause-ends : goal.returns-clause-ends
returns-clause-ends g c =
    ok_always c.export_closed.result (AllEnd (g.G.Gate.passes c.args.gate.now) (λ _. c.args.writer.tally.plan) (λ _. c.args.writer.start) (λ w. w ≡ c.args.place) c.args.jobs.now)
    (subst (λ v. AllEnd (g.G.Gate.passes c.args.gate.now) (λ _. v.tally.plan) (λ _. v.start) (λ w. w ≡ c.args.place) c.args.jobs.now) c.in-Ok.ensures.first.0 c.in_ok-run_jobs.ensures.ends)

pub returns-clause-err : goal.returns-clause-err
returns-clause-err g c =
    let ended = subst (λ v. AllEnd (g.G.Gate.passes c.args.gate.now) (λ _. v.tally.plan) (λ _. v.start) (λ w. w ≡ c.args.place) c.args.jobs.now) c.in-Ok.ensures.first.0 c.in_ok-run_jobs.ensures.ends in
    err_then c.export_closed.result _ (StopsShort (g.G.Gate.passes c.args.gate.now) (λ _. c.args.writer.tally.plan) (λ _. c.args.writer.start) (λ w. w ≡ c.args.place) c.args.jobs.now)
    (λ h is. well_run (g.G.Gate.passes c.args.gate.now) (λ _. c.args.writer.tally.plan) (λ _. c.args.writer.start) (λ w. w ≡ c.args.place) c.args.jobs.now ended h (elim is [ inl out ↦ inl out.0 | inr short ↦ inr short ])) c.export_closed.ensures.err
