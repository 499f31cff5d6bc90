use Rattle.std.proofs.Common.{◌≡◌, ℕ, List, slice_get, ◌<◌, ◌≤◌, ◌+◌, ◌-◌, length, slice_set, ◌++◌, get_or, sym, ap, subst, ◌∙◌, arith}
use Rattle.std.proofs.lemmas.List.{set-append_left, set-append_right}
use Rattle.std.proofs.lemmas.Option.{get_or_from_slice_get}
use Rattle.std.specs.FinMap.{empty}
use Rattle.gossip_kit.specs.Gossip.{Renumbers}
use Rattle.gossip_kit.specs.Views.{NodeModel}
use Rattle.point_kit.specs.Exports.{join_points, changed_points}
use Rattle.world_kit.proofs.Places.{stands_at}
use Rattle.world_kit.specs.Wanting.{IsEmpty}
use Rattle.world_kit.proofs.gather.merge_two.Goals as goal

-- a node at a place where a gateway holds nothing
empty_at : (nodes : List NodeModel) (from : ℕ) (y : NodeModel) → from < length nodes → y ≡ get_or nodes from y → IsEmpty (slice_get nodes from) → y.gateway.points ≡ empty
empty_at nodes from y there read is = subst IsEmpty (stands_at nodes from y there read) is

pub returns-in_err-changed-clause-empty : goal.returns-in_err-changed-clause-empty
returns-in_err-changed-clause-empty c = λ none.
    let e = c.split_at_mut-front.ensures in
    let y = c.index-back-0.result in
    let at : c.args.from + 0 ≡ c.args.from = omega arith in
    let read = c.index-back-0.is ∙ e.by_index.1 0 y ∙ ap (λ i. get_or c.args.nodes.now i y) at in
    let holds = ap (λ g. g.points) c.gateway.ensures.value ∙ ap (λ (n : NodeModel). n.gateway.points) (sym c.index-back-0.is) ∙ empty_at c.args.nodes.now c.args.from y c.requires.from_in read none in
    let done = c.in_err-changed.ensures.no_points holds in
    cc done

pub returns-in_err-changed-2-clause-empty : goal.returns-in_err-changed-2-clause-empty
returns-in_err-changed-2-clause-empty c = λ none.
    let e = c.split_at_mut-front-else-into-from.ensures in
    let y = c.index-front-from.result in
    let no_more : c.args.from ≤ c.args.into = c.if-into-from.false in
    let two = c.requires.two in
    let less : c.args.from < c.args.into = omega arith in
    let read = c.index-front-from.is ∙ e.by_index.0 c.args.from y less in
    let holds = ap (λ g. g.points) c.gateway-else-into-from.ensures.value ∙ ap (λ (n : NodeModel). n.gateway.points) (sym c.index-front-from.is) ∙ empty_at c.args.nodes.now c.args.from y c.requires.from_in read none in
    let done = c.in_err-changed-2.ensures.no_points holds in
    cc done

pub returns-in_ok-changed-clause-ok : goal.returns-in_ok-changed-clause-ok
returns-in_ok-changed-clause-ok c =
    let nodes = c.args.nodes.now in
    let front = c.split_at_mut-front.result.0.now in
    let back = c.split_at_mut-front.result.1.now in
    let e = c.split_at_mut-front.ensures in
    let less : c.args.into < c.args.from = c.if-into-from.true in
    let short : c.args.into < length front = (let l = e.front_len in omega arith) in
    let did = c.in_ok-changed.ensures in
    let is = c.merge.new.self in
    let x = c.index-front-into.result in
    let y = c.index-back-0.result in
    let at : c.args.from + 0 ≡ c.args.from = omega arith in
    record {
      is = is;
      new_is = sym (set-append_left front back c.args.into is short) ∙ ap (λ l. slice_set l c.args.into is) (sym e.value);
      joined = λ was other mine theirs.
          let own = e.by_index.0 c.args.into x less ∙ get_or_from_slice_get nodes c.args.into was x mine in
          let its = e.by_index.1 0 y ∙ ap (λ i. get_or nodes i y) at ∙ get_or_from_slice_get nodes c.args.from other y theirs in
          let read = c.gateway.ensures.value in (
            did.id ∙ ap (λ (n : NodeModel). n.gateway.id) own,
            did.ok ∙ ap (λ (n : NodeModel). join_points n.gateway.points c.gateway.result.now.points) own ∙ ap (λ g. join_points was.gateway.points g.points) read ∙ ap (λ (n : NodeModel). join_points was.gateway.points n.gateway.points) its,
            did.value ∙ ap (λ (n : NodeModel). changed_points n.gateway.points is.gateway.points) own,
            subst (λ (n : NodeModel). Renumbers n is) own did.numbers,
            did.acked ∙ ap (λ (n : NodeModel). n.acked) own,
          );
    }

pub returns-in_ok-changed-2-clause-ok : goal.returns-in_ok-changed-2-clause-ok
returns-in_ok-changed-2-clause-ok c =
    let nodes = c.args.nodes.now in
    let front = c.split_at_mut-front-else-into-from.result.0.now in
    let back = c.split_at_mut-front-else-into-from.result.1.now in
    let e = c.split_at_mut-front-else-into-from.ensures in
    let no_more : c.args.from ≤ c.args.into = c.if-into-from.false in
    let two = c.requires.two in
    let less : c.args.from < c.args.into = omega arith in
    let none : c.args.into - c.args.into ≡ 0 = omega arith in
    let did = c.in_ok-changed-2.ensures in
    let is = c.merge-else-into-from.new.self in
    let x = c.index-back-0-else-into-from.result in
    let y = c.index-front-from.result in
    let at : c.args.into + 0 ≡ c.args.into = omega arith in
    record {
      is = is;
      new_is = ap (λ i. front ++ slice_set back i is) (sym none) ∙ sym (set-append_right front back c.args.into c.args.into is e.front_len (omega arith)) ∙ ap (λ l. slice_set l c.args.into is) (sym e.value);
      joined = λ was other mine theirs.
          let own = e.by_index.1 0 x ∙ ap (λ i. get_or nodes i x) at ∙ get_or_from_slice_get nodes c.args.into was x mine in
          let its = e.by_index.0 c.args.from y less ∙ get_or_from_slice_get nodes c.args.from other y theirs in
          let read = c.gateway-else-into-from.ensures.value in (
            did.id ∙ ap (λ (n : NodeModel). n.gateway.id) own,
            did.ok ∙ ap (λ (n : NodeModel). join_points n.gateway.points c.gateway-else-into-from.result.now.points) own ∙ ap (λ g. join_points was.gateway.points g.points) read ∙ ap (λ (n : NodeModel). join_points was.gateway.points n.gateway.points) its,
            did.value ∙ ap (λ (n : NodeModel). changed_points n.gateway.points is.gateway.points) own,
            subst (λ (n : NodeModel). Renumbers n is) own did.numbers,
            did.acked ∙ ap (λ (n : NodeModel). n.acked) own,
          );
    }
