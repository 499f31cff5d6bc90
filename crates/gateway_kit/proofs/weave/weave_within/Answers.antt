use Rattle.std.proofs.Common.{◌≡◌, ◌+◌, ◌-◌, ◌<◌, ◌++◌, ℕ, List, length, map, ap, subst, ◌∙◌, arith}
use Rattle.std.proofs.lemmas.Grind.{common_steps}
use Rattle.std.specs.Prelude.{if◌then◌else◌}
use Rattle.std.specs.FinMap.Entries.{is_sorted}
use Rattle.gateway_kit.proofs.Entries.{as_T, as_true}
use Rattle.gateway_kit.proofs.Turning.{AreTurning, sorted_take, turning_begins, turning_ends, turning_goes_on}
use Rattle.gateway_kit.proofs.weave.weave_within.Goals as goal

pub loop-left-init : goal.loop-left-init
loop-left-init g c =
    let K = g.T.Keyed in
    let ms = c.args.mine.now.items in
    let fs = c.args.few.items in
    let joined : c.append.new.self.items ≡ ms ++ fs = c.append.ensures.items ∙ ap (λ b. if b then ms ++ fs else ms) (c.append.ensures.succeeds c.requires.fits) in
    let above : length ms ≡ c.len-above.result = grind (arith, common_steps) in
    let left : length fs ≡ c.len-left.result = grind (arith, common_steps) in
    subst (λ (n : ℕ). AreTurning g.met.T.Keyed.total g.met.T.Keyed.exact K.entry ms fs c.append.new.self.items n c.len-left.result) above
    (subst (λ (n : ℕ). AreTurning g.met.T.Keyed.total g.met.T.Keyed.exact K.entry ms fs c.append.new.self.items (length ms) n) left
    (turning_begins g.met.T.Keyed.total g.met.T.Keyed.exact K.entry ms fs c.append.new.self.items joined))

pub turn_in-above-requires-clause-there : goal.turn_in-above-requires-clause-there
turn_in-above-requires-clause-there g c =
    let long = c.loop-left.invariant.long in
    let more = c.loop-left-test.true in
    let under : c.loop-left.above + (c.loop-left.left - 1) < length c.loop-left.mine.items = omega (arith, long, more) in
    grind (arith, common_steps)

pub turn_in-above-requires-clause-sorted : goal.turn_in-above-requires-clause-sorted
turn_in-above-requires-clause-sorted g c =
    let K = g.T.Keyed in
    ap (λ (l : List g.row.T.Denot). is_sorted K.compare (map K.entry l)) c.loop-left.invariant.first
    ∙ as_true _ (sorted_take g.met.T.Keyed.total g.met.T.Keyed.exact K.entry c.loop-left.above c.args.mine.now.items (as_T c.requires.sorted))

pub loop-left-preserved : goal.loop-left-preserved
loop-left-preserved g c =
    let more = c.loop-left-test.true in
    let one : c.loop-left.left - 1 + 1 ≡ c.loop-left.left = omega (arith, more) in
    turning_goes_on g.met.T.Keyed.total g.met.T.Keyed.exact g.T.Keyed.entry c.args.mine.now.items c.args.few.items c.loop-left.mine.items c.turn_in-above.new.values.items c.loop-left.above (c.loop-left.left - 1) c.loop-left.left c.turn_in-above.result
    one (as_T c.requires.few_sorted) c.turn_in-above.ensures.within c.turn_in-above.ensures.turned c.loop-left.invariant

pub returns : goal.returns
returns g c =
    let over = c.loop-left-test.false in
    let none : c.loop-left.left ≡ 0 = omega (arith, over) in
    turning_ends g.met.T.Keyed.total g.met.T.Keyed.exact g.T.Keyed.entry c.args.mine.now.items c.args.few.items c.loop-left.mine.items c.loop-left.above
    (subst (λ (n : ℕ). AreTurning g.met.T.Keyed.total g.met.T.Keyed.exact g.T.Keyed.entry c.args.mine.now.items c.args.few.items c.loop-left.mine.items c.loop-left.above n) none c.loop-left.invariant)
