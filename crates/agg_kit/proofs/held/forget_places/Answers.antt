use Rattle.std.proofs.Common.{◌≡◌, ◌∙◌, ◌<◌, ℕ, List, None, refl, length, sym, ap, arith}
use Rattle.std.specs.Prelude.{◌≤◌, vec_capacity}
use Rattle.std.proofs.lemmas.List.{length-map}
use Rattle.attr_kit.specs.declared.attr_set.AttrSet.{AttrSet}
use Rattle.plan_kit.specs.Plans.{feeds_of}
use Rattle.agg_kit.specs.Held.{held_of}
use Rattle.agg_kit.specs.declared.held.HeldPoint.{HeldPoint}
use Rattle.agg_kit.specs.declared.held.Places.{Places}
use Rattle.agg_kit.proofs.HeldPoints.{held-set, none-set, room-kept, room-set}
use Rattle.agg_kit.proofs.Records.{read-there}
use Rattle.agg_kit.proofs.Rounds.{within}
use Rattle.agg_kit.proofs.held.forget_places.Goals as goal

as-long : (hs ks : List HeldPoint) → held_of hs ≡ held_of ks → length hs ≡ length ks
as-long hs ks same =
    let shown : HeldPoint → ℕ × AttrSet = λ h. (h.instrument, h.attrs) in
    sym (length-map hs shown) ∙ ap (λ l. length l) same ∙ length-map ks shown

pub loop-index-preserved : goal.loop-index-preserved
loop-index-preserved c =
    let hs : List HeldPoint = c.loop-index.held.items in
    let i = c.loop-index.index in
    let k : HeldPoint = c.index_mut-point.result.now in
    let none : Places = record { each = c.clear.new.self; own = None } in
    let h : HeldPoint = record { instrument = k.instrument; attrs = k.attrs; places = none } in
    let long = as-long hs c.args.held.now.items c.loop-index.invariant.same in
    let l : i < length hs = omega (arith, long, c.len-index-end.ensures, c.loop-index-test.true, c.args.held.now.ok) in
    let at = read-there hs i k l c.index_mut-point.ensures.value in
    let as-big : vec_capacity k.places.each ≤ vec_capacity none.each = omega (arith, c.clear.ensures.capacity) in
    record {
      same = held-set hs i h k at (λ j. k.instrument) (λ j. k.attrs) ∙ c.loop-index.invariant.same;
      none = none-set hs i h l (c.clear.ensures.items, refl) c.loop-index.invariant.none;
      room = λ p had. let all = c.loop-index.invariant.room p had in room-set p hs i h l all (room-kept (feeds_of p k.instrument) k.places none as-big (all i k at));
    }

pub returns-clause-none : goal.returns-clause-none
returns-clause-none c = λ n h at.
    let long = as-long c.loop-index.held.items c.args.held.now.items c.loop-index.invariant.same in
    let here = within c.loop-index.held.items n h at in
    c.loop-index.invariant.none n h (omega (arith, long, here, c.len-index-end.ensures, c.loop-index-test.false, c.args.held.now.ok)) at
