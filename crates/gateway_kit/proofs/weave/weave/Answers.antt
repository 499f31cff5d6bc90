use Rattle.std.proofs.Common.{◌≡◌, ◌≤◌, ◌++◌, ◌∷◌, [], List, length, map, refl, sym, ap, ◌∙◌, arith}
use Rattle.std.proofs.lemmas.Grind.{common_steps}
use Rattle.std.proofs.lemmas.Iterator.Adapters.{YieldsList-from_vec}
use Rattle.std.proofs.lemmas.Iterator.Consumers.{YieldsList-end}
use Rattle.std.proofs.lemmas.List.{append-nil, take_all}
use Rattle.gateway_kit.specs.Weave.{by_key, weave}
use Rattle.gateway_kit.proofs.Ahead.{weave-nil}
use Rattle.gateway_kit.proofs.weave.weave.Goals as goal

same : {A : Type 0} (xs : List A) → xs ≡ map (λ x. x) xs
same [] = refl
same (x ∷ xs) = ap (λ l. x ∷ l) (same xs)

pub returns : goal.returns
returns g c =
    let K = g.T.Keyed in
    let mine = c.loop-value.mine.items in
    let gives = c.into_iter-value-iterator.ensures.into_iter_gives in
    let end = YieldsList-end (YieldsList-from_vec {s = c.into_iter-value-iterator.result} c.args.theirs.items gives.0 (gives.1 ∙ c.args.theirs.ok.0)) c.loop-value.yielded c.loop-value.value-iterator c.loop-value.yielded_by c.next.result c.next.new.self c.in-None.is c.next.ensures.steps in
    let all : c.loop-value.yielded ≡ c.args.theirs.items = same c.loop-value.yielded ∙ end.0 in
    let left : length c.loop-value.mine.items ≤ c.len-left.result = grind (arith, common_steps) in
    c.move_front.ensures.moved
    ∙ ap (λ (l : List g.row.T.Denot). c.loop-value.room.items ++ l) (take_all c.len-left.result mine left ∙ sym (weave-nil (by_key K.compare K.entry) mine))
    ∙ c.loop-value.invariant.woven []
    ∙ ap (λ (l : List g.row.T.Denot). weave (by_key K.compare K.entry) c.args.mine.items l) (append-nil c.loop-value.yielded ∙ all)
