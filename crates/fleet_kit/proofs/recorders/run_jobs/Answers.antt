use Rattle.std.proofs.Common.{◌≡◌, ◌∙◌, ◌⊎◌, inl, inr, map, Some, subst, sym}
use Rattle.std.specs.Prelude.{IfSome}
use Rattle.schedule_kit.specs.Members.{In}
use Rattle.turn_kit.specs.Public.{made}
use Rattle.writer_kit.specs.Shared.{first_of}
use Rattle.fleet_kit.proofs.Lists.{entries_same, if_none}
use Rattle.fleet_kit.proofs.Stops.{each_ended, jobs_end, jobs_stop, not_run, told_err}
use Rattle.fleet_kit.specs.Ends.{StopsShort}
use Rattle.fleet_kit.specs.Halts.{IsFirst}
use Rattle.fleet_kit.specs.Noting.{IsFilled, TellsRoom}
use Rattle.fleet_kit.specs.Recorded.{Brings}
use Rattle.fleet_kit.specs.declared.halt.Halt.{Halt}
use Rattle.fleet_kit.specs.declared.halt.Halt.TheVariants.{NoMemory, NoThread}
use Rattle.fleet_kit.specs.declared.recorders.Done.{Done}
use Rattle.fleet_kit.specs.declared.recorders.Seated.{Seated}
use Rattle.fleet_kit.proofs.recorders.run_jobs.Goals as goal

pub returns-in_err-seats-clause-err : goal.returns-in_err-seats-clause-err
returns-in_err-seats-clause-err g c =
    let first = first_of c.args.shared.now in
    let h = c.in_err-seats.field-0.0 in
    told_err c.from_residual.result h (StopsShort (g.G.Gate.passes c.args.gate.now) (λ _. (first_of c.args.shared.now).tally.plan) (λ _. (first_of c.args.shared.now).start) (λ w. w ≡ c.args.place) c.args.jobs.now) c.from_residual.ensures.1
    (not_run (g.G.Gate.passes c.args.gate.now) (λ _. first.tally.plan) (λ _. first.start) (λ w. w ≡ c.args.place) c.args.jobs.now h c.in_err-seats.ensures.err)

pub returns-in_err-dones-clause-err : goal.returns-in_err-dones-clause-err
returns-in_err-dones-clause-err g c =
    let first = first_of c.args.shared.now in
    let h = c.in_err-dones.field-0.0 in
    told_err c.from_residual-in_err-dones.result h (StopsShort (g.G.Gate.passes c.args.gate.now) (λ _. (first_of c.args.shared.now).tally.plan) (λ _. (first_of c.args.shared.now).start) (λ w. w ≡ c.args.place) c.args.jobs.now)
    c.from_residual-in_err-dones.ensures.1 (not_run (g.G.Gate.passes c.args.gate.now) (λ _. first.tally.plan) (λ _. first.start) (λ w. w ≡ c.args.place) c.args.jobs.now h (inr c.in_err-dones.ensures.err))

pub returns-in-None-clause-all : goal.returns-in-None-clause-all
returns-in-None-clause-all g c =
    let brings = if_none c.join_all.result _ c.in-None.is c.join_all.ensures.all in
    let same = entries_same (λ (d : Done). d.job.now) (λ (r : Seated). r.job.now) c.in_ok-dones.dones.items c.in_ok-seats.seats.items c.in_ok-dones.ensures.jobs ∙ c.in_ok-seats.ensures.jobs in
    subst (λ es. Brings (first_of c.args.shared.now).tally c.join_all.new.main es) same brings

pub returns-in-None-clause-ends : goal.returns-in-None-clause-ends
returns-in-None-clause-ends g c =
    let first = first_of c.args.shared.now in
    let dones = c.in_ok-dones.ensures in
    let seats = c.in_ok-seats.ensures in
    let each = each_ended (g.G.Gate.passes c.args.gate.now) first.tally.plan first.start c.args.place c.args.jobs.now (λ (d : Done). d.number) (λ (d : Done). d.job.now) (λ (d : Done). d.fault) (λ (r : Seated). r.number) (λ (r : Seated). r.job.now)
    c.in_ok-dones.dones.items c.in_ok-seats.seats.items dones.numbers dones.jobs seats.numbers dones.ends in
    jobs_end (g.G.Gate.passes c.args.gate.now) first.tally.plan first.start c.args.place c.args.jobs.now (λ (d : Done). d.number) (λ (d : Done). d.job.now) (λ (d : Done). d.fault) c.in_ok-dones.dones.items each
    (λ n j at here. subst (In n) (sym dones.numbers) (seats.whole n j at here))
    (subst (λ o. IsFirst (λ h. In (Some h) (map (λ (d : Done). d.fault) c.in_ok-dones.dones.items)) o) c.in-None.is c.join_all.ensures.first)

pub returns-in-Some-clause-err : goal.returns-in-Some-clause-err
returns-in-Some-clause-err g c =
    let first = first_of c.args.shared.now in
    let dones = c.in_ok-dones.ensures in
    let seats = c.in_ok-seats.ensures in
    let each = each_ended (g.G.Gate.passes c.args.gate.now) first.tally.plan first.start c.args.place c.args.jobs.now (λ (d : Done). d.number) (λ (d : Done). d.job.now) (λ (d : Done). d.fault) (λ (r : Seated). r.number) (λ (r : Seated). r.job.now)
    c.in_ok-dones.dones.items c.in_ok-seats.seats.items dones.numbers dones.jobs seats.numbers dones.ends in
    jobs_stop (g.G.Gate.passes c.args.gate.now) first.tally.plan first.start c.args.place c.args.jobs.now (λ (d : Done). d.number) (λ (d : Done). d.job.now) (λ (d : Done). d.fault) c.in_ok-dones.dones.items each
    (λ n j at here. subst (In n) (sym dones.numbers) (seats.whole n j at here)) c.in-Some.fault
    (subst (λ o. IsFirst (λ h. In (Some h) (map (λ (d : Done). d.fault) c.in_ok-dones.dones.items)) o) c.in-Some.is c.join_all.ensures.first)

pub returns-in_err-seats-clause-full : goal.returns-in_err-seats-clause-full
returns-in_err-seats-clause-full g c =
    told_err c.from_residual.result c.in_err-seats.field-0.0 (λ h. h ≡ NoThread → (made c.seats_for.new.main ≡ 4096) ⊎ IsFilled c.args.shared.now c.seats_for.new.main) c.from_residual.ensures.1 (λ e. inl (c.in_err-seats.ensures.full e))

pub returns-in_err-dones-clause-full : goal.returns-in_err-dones-clause-full
returns-in_err-dones-clause-full g c =
    told_err c.from_residual-in_err-dones.result c.in_err-dones.field-0.0 (λ h. h ≡ NoThread → (made c.seats_for.new.main ≡ 4096) ⊎ IsFilled c.args.shared.now c.seats_for.new.main) c.from_residual-in_err-dones.ensures.1
    (λ e. let is = c.in_err-dones.ensures.err in absurd (apart (sym e ∙ is)))
  where
    apart : ◌≡◌ {A = Halt} NoThread NoMemory → ⊥
    apart e = cc e

pub returns-in-Some-clause-full : goal.returns-in-Some-clause-full
returns-in-Some-clause-full g c =
    let tells = subst (λ o. IfSome o (TellsRoom c.args.shared.now c.join_all.new.main)) c.in-Some.is c.join_all.ensures.full in
    λ e. inr (tells e)
