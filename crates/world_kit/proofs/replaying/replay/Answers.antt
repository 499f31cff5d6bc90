use Rattle.std.proofs.Common.{◌≡◌, ℕ, ◌+◌, ◌<◌, ◌≤◌, List, [], ◌∷◌, ◌++◌, length, take, subst, sym, ap, ◌∙◌, arith}
use Rattle.std.proofs.lemmas.Grind.{common_steps}
use Rattle.std.proofs.lemmas.List.{length-take-le, take_more}
use Rattle.world_kit.proofs.Answered.{answers}
use Rattle.world_kit.proofs.Bridging.{part_of, without_conflict}
use Rattle.world_kit.proofs.Replays.{answers_alike, converges, replies_length, replies_more, stands_more, take_whole}
use Rattle.world_kit.specs.declared.event.Event.{Event}
use Rattle.world_kit.specs.declared.event.Reply.{Reply}
use Rattle.world_kit.specs.declared.setup.Setup.{Setup}
use Rattle.world_kit.specs.WorldState.{WorldState}
use Rattle.world_kit.specs.Judged.{deeds}
use Rattle.world_kit.specs.Stands.{Stands}
use Rattle.world_kit.proofs.replaying.replay.Goals as goal

pub returns-then-is_err-clause-err : goal.returns-then-is_err-clause-err
returns-then-is_err-clause-err c =
    let events = c.args.events.now in
    let i = c.loop-event.event-index in
    let inside : i < length events = c.loop-event-test.true in
    let count = ap length c.loop-event.invariant.1 ∙ replies_length c.args.setup (take i events) ∙ length-take-le i events (omega arith) in
    grind (arith, common_steps)

pub returns-in_default-clause-err : goal.returns-in_default-clause-err
returns-in_default-clause-err c =
    let events = c.args.events.now in
    let i = c.loop-event.event-index in
    let inside : i < length events = c.loop-event-test.true in
    let count = ap length c.loop-event.invariant.1 ∙ replies_length c.args.setup (take i events) ∙ length-take-le i events (omega arith) in
    grind (arith, common_steps)

pub loop-event-preserved : goal.loop-event-preserved
loop-event-preserved c =
    let s = c.args.setup in
    let events = c.args.events.now in
    let i = c.loop-event.event-index in
    let e = c.event-item.result in
    let next : take (i + 1) events ≡ take i events ++ e ∷ [] = take_more events i e c.loop-event-test.true ∙ ap (λ (x : Event). take i events ++ x ∷ []) (sym c.event-item.is) in
    let acts = c.in-Ok.ensures.ok in
    let grown : c.push_reserved.new.self.items ≡ c.loop-event.replies.items ++ c.in-Ok.reply ∷ [] = c.push_reserved.ensures.items ∙ ap (λ (l : List Reply). l ++ c.in-Ok.reply ∷ []) c.reserve.ensures.items in (
      stands_more s events i e _ c.in-Ok.reply _ next acts c.loop-event.invariant.0,
      grown ∙ replies_more s events i e _ c.in-Ok.reply _ c.loop-event.replies.items next acts c.loop-event.invariant.0 c.loop-event.invariant.1,
    )

-- all events are done
ends : (s : Setup) (events : List Event) (i : ℕ) (w : WorldState) → length events ≤ i → Stands s (deeds s (take i events)) w → Stands s (deeds s events) w
ends s events i w past st = subst (λ (l : List Event). Stands s (deeds s l) w) (take_whole events i past) st

pub returns-clause-converges : goal.returns-clause-converges
returns-clause-converges c =
    let events = c.args.events.now in
    converges c.args.setup (deeds c.args.setup events) c.loop-event.world (ends c.args.setup events c.loop-event.event-index c.loop-event.world c.loop-event-test.false c.loop-event.invariant.0)

pub returns-clause-alike : goal.returns-clause-alike
returns-clause-alike c =
    let events = c.args.events.now in
    answers_alike c.args.setup (deeds c.args.setup events) c.loop-event.world (ends c.args.setup events c.loop-event.event-index c.loop-event.world c.loop-event-test.false c.loop-event.invariant.0)

pub returns-clause-no_conflict : goal.returns-clause-no_conflict
returns-clause-no_conflict c = λ told.
    let events = c.args.events.now in
    without_conflict c.args.setup (deeds c.args.setup events) c.loop-event.world (ends c.args.setup events c.loop-event.event-index c.loop-event.world c.loop-event-test.false c.loop-event.invariant.0) told

pub returns-clause-newest : goal.returns-clause-newest
returns-clause-newest c = λ told.
    let events = c.args.events.now in
    part_of c.args.setup (deeds c.args.setup events) c.loop-event.world (ends c.args.setup events c.loop-event.event-index c.loop-event.world c.loop-event-test.false c.loop-event.invariant.0) told

pub returns-clause-exact : goal.returns-clause-exact
returns-clause-exact c = λ told.
    let events = c.args.events.now in
    answers c.args.setup (deeds c.args.setup events) c.loop-event.world (ends c.args.setup events c.loop-event.event-index c.loop-event.world c.loop-event-test.false c.loop-event.invariant.0) told
