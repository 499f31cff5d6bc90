use Rattle.std.proofs.Common.{rules, ◌≡◌, ◌∙◌, ◌∷◌, [], List, Some, length, map, ap, refl, sym, subst}
use Rattle.std.specs.Prelude.{IfNone, IfSome}
use mathlib.Core.List.{map-append}
use Rattle.std.proofs.lemmas.Iterator.Adapters.{YieldsList-from_vec}
use Rattle.std.proofs.lemmas.Iterator.Consumers.{YieldsList-end, YieldsList-turn}
use Rattle.schedule_kit.specs.Members.{In}
use Rattle.turn_kit.specs.History.{flat}
use Rattle.turn_kit.specs.Public.{joined, seen}
use Rattle.writer_kit.specs.Shared.{first_of}
use Rattle.fleet_kit.proofs.Halts.{first_joined}
use Rattle.fleet_kit.proofs.Lists.{none_then}
use Rattle.fleet_kit.proofs.Noting.{joined_tells}
use Rattle.fleet_kit.proofs.Recorded.{join_more}
use Rattle.fleet_kit.specs.Halts.{IsFirst}
use Rattle.fleet_kit.specs.Jobs.{entries}
use Rattle.fleet_kit.specs.Noting.{recorded_by_seat, IsSingle, TellsRoom}
use Rattle.fleet_kit.specs.Recorded.{Brings, HaveBrought}
use Rattle.fleet_kit.specs.declared.recorders.Done.{Done}
use Rattle.fleet_kit.proofs.recorders.join_all.Goals as goal

same : {A : Type 0} (xs : List A) → xs ≡ map (λ x. x) xs
same [] = refl
same (x ∷ xs) = ap (λ l. x ∷ l) (same xs)

pub loop-done-preserved : goal.loop-done-preserved
loop-done-preserved c =
    let kept = c.loop-done.invariant in
    let d = c.in-Some.done in
    let ds = c.loop-done.yielded in
    let gives = c.into_iter-done-iterator.ensures.into_iter_gives in
    let turn = YieldsList-turn (YieldsList-from_vec {s = c.into_iter-done-iterator.result} c.args.dones.items gives.0 (gives.1 ∙ c.args.dones.ok.0)) c.loop-done.yielded c.loop-done.done-iterator c.loop-done.yielded_by c.next.result c.next.new.self c.in-Some.done c.in-Some.is
    c.next.ensures.steps in
    let single = subst (λ (x : Done). IsSingle c.args.shared.now x.seat) (sym turn.1) (c.requires.dones (length c.loop-done.yielded) c.in-Some.done turn.0) in
    let did = subst (λ (x : Done). IfNone x.fault (recorded_by_seat c.args.shared.now x.seat ≡ entries x.job.now)) (sym turn.1) (c.requires.all (length c.loop-done.yielded) c.in-Some.done turn.0) in
    let tells = subst (λ (x : Done). IfSome x.fault (TellsRoom c.args.shared.now x.seat)) (sym turn.1) (c.requires.full (length c.loop-done.yielded) c.in-Some.done turn.0) in
    let old = map (λ (x : Done). entries x.job.now) c.loop-done.yielded in (
      search rules,
      c.join.ensures.value.kept.1 ∙ kept.1,
      subst (λ l. IsFirst (λ h. In (Some h) l) c.first-told.result) (sym (map-append (λ (x : Done). x.fault) c.loop-done.yielded (c.in-Some.done ∷ [])))
          (first_joined d.fault c.loop-done.told c.first-told.result (map (λ (x : Done). x.fault) ds) c.first-told.ensures.first kept.2),
      subst (λ l. IfNone c.first-told.result (HaveBrought (first_of c.args.shared.now).tally (seen c.join.new.seat) (joined c.join.new.seat) l)) (sym (map-append (λ (x : Done). entries x.job.now) c.loop-done.yielded (c.in-Some.done ∷ [])))
          (join_more (first_of c.args.shared.now).tally c.loop-done.main c.join.new.seat d.seat c.loop-done.told d.fault c.first-told.result old (entries d.job.now) c.first-told.ensures.none c.join.ensures.value single.2 single.1 did kept.3),
      joined_tells c.args.shared.now c.loop-done.main c.join.new.seat d.seat c.loop-done.told d.fault c.first-told.result c.first-told.ensures.first c.join.ensures.value kept.4 tells,
    )

pub returns-clause-first : goal.returns-clause-first
returns-clause-first c =
    let gives = c.into_iter-done-iterator.ensures.into_iter_gives in
    let end = YieldsList-end (YieldsList-from_vec {s = c.into_iter-done-iterator.result} c.args.dones.items gives.0 (gives.1 ∙ c.args.dones.ok.0)) c.loop-done.yielded c.loop-done.done-iterator c.loop-done.yielded_by c.next.result c.next.new.self c.in-None.is c.next.ensures.steps in
    let all : c.loop-done.yielded ≡ c.args.dones.items = same c.loop-done.yielded ∙ end.0 in
    subst (λ (l : List Done). IsFirst (λ h. In (Some h) (map (λ (x : Done). x.fault) l)) c.loop-done.told) all c.loop-done.invariant.2

pub returns-clause-all : goal.returns-clause-all
returns-clause-all c =
    let gives = c.into_iter-done-iterator.ensures.into_iter_gives in
    let end = YieldsList-end (YieldsList-from_vec {s = c.into_iter-done-iterator.result} c.args.dones.items gives.0 (gives.1 ∙ c.args.dones.ok.0)) c.loop-done.yielded c.loop-done.done-iterator c.loop-done.yielded_by c.next.result c.next.new.self c.in-None.is c.next.ensures.steps in
    let all : c.loop-done.yielded ≡ c.args.dones.items = same c.loop-done.yielded ∙ end.0 in
    let kept = c.loop-done.invariant in
    none_then c.loop-done.told (HaveBrought (first_of c.args.shared.now).tally (seen c.loop-done.main) (joined c.loop-done.main) (map (λ (x : Done). entries x.job.now) c.loop-done.yielded))
    (Brings (first_of c.args.shared.now).tally c.loop-done.main (flat (map (λ (x : Done). entries x.job.now) c.args.dones.items)))
    (λ b. record { idle = kept.1; each = map (λ (x : Done). entries x.job.now) c.loop-done.yielded; brought = b; all = ap (λ (l : List Done). flat (map (λ (x : Done). entries x.job.now) l)) all }) kept.3
