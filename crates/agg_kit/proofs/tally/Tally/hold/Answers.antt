use Rattle.std.proofs.Common.{◌∙◌, List, is_none, ap, sym, subst, refl}
use Rattle.plan_kit.specs.Plans.{Planned, feeds_of, kind_of}
use Rattle.agg_kit.specs.Held.{ArePlaced, HasRoom, HaveRoom}
use Rattle.agg_kit.specs.Tallies.{Tallied}
use Rattle.agg_kit.specs.declared.held.HeldPoint.{HeldPoint}
use Rattle.agg_kit.proofs.HeldPoints.{placed-push, room-push, ok_so}
use Rattle.agg_kit.proofs.Records.{if_err_so}
use Rattle.agg_kit.proofs.Refusals.{kind-there}
use Rattle.agg_kit.proofs.tally.Tally.hold.Goals as goal
use Rattle.agg_kit.proofs.tally.Tally.hold.Goals.{in-Ok, in-Err}

pub invariant_of-self : goal.invariant_of-self
invariant_of-self c =
    let t : Tallied = c.self.inside.streams in
    let hs = c.self.inside.held.items in
    let h : HeldPoint = record { instrument = c.args.instrument; attrs = c.in_ok-try_copy.field-0; places = c.in_ok-unknown_of.field-0 } in
    let room = subst (λ (p : Planned). HasRoom (feeds_of p c.args.instrument) h.places) c.plan-2.ensures.value c.in_ok-unknown_of.ensures.room in
    elim c.match-push.branch [
      | in-Ok w ↦ (
        placed-push t hs c.push.new.self.items h w.in-Ok.ensures.items c.self.invariant.0 c.in_ok-unknown_of.ensures.none,
        room-push t.plan hs c.push.new.self.items h w.in-Ok.ensures.items c.self.invariant.1 room,
      )
      | in-Err w ↦ subst (λ (l : List HeldPoint). ArePlaced t l × HaveRoom t.plan l) (sym w.in-Err.ensures.items) c.self.invariant
    ]

pub returns-clause-ok : goal.returns-clause-ok
returns-clause-ok c =
    let there = ap (λ (p : Planned). is_none (kind_of p c.args.instrument)) (sym c.plan.ensures.value) ∙ kind-there c.plan.result.now c.args.instrument (c.in-Some.ensures.variant.0 refl) in
    ok_so _ c.match-push.result (ap (λ (t : Tallied). is_none (kind_of t.plan c.args.instrument)) (sym c.self.view_is) ∙ there)

pub returns-clause-no_memory : goal.returns-clause-no_memory
returns-clause-no_memory c =
    let there = ap (λ (p : Planned). is_none (kind_of p c.args.instrument)) (sym c.plan.ensures.value) ∙ kind-there c.plan.result.now c.args.instrument (c.in-Some.ensures.variant.0 refl) in
    if_err_so _ _ c.match-push.result (ap (λ (t : Tallied). is_none (kind_of t.plan c.args.instrument)) (sym c.self.view_is) ∙ there)
