use Rattle.std.proofs.Common.{rules, All, [], ◌≡◌, ◌∙◌, sym, refl, ap, subst, map, ne_eqb, eq-eqb, slice_get, Some}
use Rattle.turn_kit.specs.Public.{number, seen, IsOf}
use Rattle.schedule_kit.specs.Members.{In}
use Rattle.writer_kit.specs.Shared.{first_of}
use Rattle.fleet_kit.proofs.Exports.{get_at}
use Rattle.fleet_kit.proofs.Lists.{all_snoc, entries_in, numbers_more, numbers_snoc, seat_more, seat_same}
use Rattle.fleet_kit.proofs.Noting.{ok_err, split_full}
use Rattle.fleet_kit.proofs.Recorded.{fresh_none, fresh_recorded}
use Rattle.fleet_kit.specs.Noting.{recorded_by_seat, IsSingle}
use Rattle.fleet_kit.proofs.recorders.seats_for.Goals as goal
use Rattle.fleet_kit.proofs.recorders.seats_for.Goals.{then-job-place+else-is_err+in-Ok, else-job-place}

pub loop-number-preserved : goal.loop-number-preserved
loop-number-preserved g c = let j = c.index-jobs-number.result in let less = c.loop-number-test.true in let is = c.index-jobs-number.is in let kept = c.loop-number.invariant in elim c.if-job-place.branch [
  | then-job-place+else-is_err+in-Ok w ↦
      let rs = w.reserve.new.self.items in
      let r : rs ≡ c.loop-number.seats.items = search rules in
      let u = w.in-Ok.seat in
      let splits = w.in-Ok.ensures.ok in
      let none = fresh_none _ _ u splits in
      let here = eq-eqb j.writer c.args.place w.if-job-place.true in
      let all : c.if-job-place.seats.items ≡ _ = ap (λ v. v.items) w.seats-is ∙ w.push_reserved.ensures.items in
      let more = numbers_snoc (λ r. r.number) rs c.if-job-place.seats.items _ all in (
        search rules,
        search rules,
        search rules,
        all_snoc (λ r. IsSingle c.args.shared.now r.seat) rs c.if-job-place.seats.items _ all (subst (All (λ r. IsSingle c.args.shared.now r.seat)) (sym r) kept.3)
            (subst (λ t. IsOf t w.in-Ok.seat) w.deref.ensures w.in-Ok.ensures.new, none ∙ sym splits.new_mine, splits.new_joined),
        all_snoc (λ r. recorded_by_seat c.args.shared.now r.seat ≡ []) rs c.if-job-place.seats.items _ all (subst (All (λ r. recorded_by_seat c.args.shared.now r.seat ≡ [])) (sym r) kept.4)
            (fresh_recorded (first_of c.args.shared.now).tally (seen u) (number u) none),
        ap (entries_in (λ r. r.job.now)) all ∙ seat_more (λ r. r.job.now) rs _ c.args.place c.args.jobs.now c.loop-number.number j less is refl here (ap (entries_in (λ r. r.job.now)) r ∙ kept.5),
        all_snoc (λ r. (slice_get c.args.jobs.now r.number ≡ Some r.job.now) × (r.job.now.writer ≡ c.args.place)) rs c.if-job-place.seats.items _ all
            (subst (All (λ r. (slice_get c.args.jobs.now r.number ≡ Some r.job.now) × (r.job.now.writer ≡ c.args.place))) (sym r) kept.6) (get_at c.args.jobs.now c.loop-number.number j less is, w.if-job-place.true),
        numbers_more c.args.place c.args.jobs.now (map (λ r. r.number) c.loop-number.seats.items) (map (λ r. r.number) c.if-job-place.seats.items) c.loop-number.number j less is
            (λ n i. more.0 n (subst (λ l. In n (map (λ r. r.number) l)) (sym r) i)) (λ _. more.1) kept.7,
      )
  | else-job-place w ↦
      let all = ap (λ v. v.items) w.seats-is in (
        search rules,
        search rules,
        search rules,
        search rules,
        search rules,
        ap (entries_in (λ r. r.job.now)) all ∙ seat_same (λ r. r.job.now) c.loop-number.seats.items c.args.place c.args.jobs.now c.loop-number.number j less is (ne_eqb j.writer c.args.place w.if-job-place.false) kept.5,
        search rules,
        numbers_more c.args.place c.args.jobs.now (map (λ r. r.number) c.loop-number.seats.items) (map (λ r. r.number) c.if-job-place.seats.items) c.loop-number.number j less is
            (λ n i. subst (λ l. In n (map (λ r. r.number) l)) (sym all) i) (λ e. absurd (w.if-job-place.false e)) kept.7,
      )
]

pub returns-in-Err-clause-full : goal.returns-in-Err-clause-full
returns-in-Err-clause-full g c none =
    split_full c.loop-number.main c.split.new.seat c.split.result (λ a is. ok_err c.split.result a c.in-Err._full c.in-Err.is is) c.split.ensures.busy c.split.ensures.seats_full
