use Rattle.std.proofs.Common.{◌≡◌, ℕ, ◌<◌, length, length-set, List, slice_get, ◌++◌, take, drop, get_or, subst, sym, ap, ◌∙◌, arith}
use Rattle.std.proofs.lemmas.Grind.{common_steps}
use Rattle.std.proofs.lemmas.Option.{slice_get-get_or}
use Rattle.world_kit.proofs.GatewayEvents.{merge_nowhere, merge_none, merge_wants, merges_itself, merges, with_nodes}
use Rattle.world_kit.proofs.Replies.{left_as, seen_as, wants_as}
use Rattle.gossip_kit.specs.Views.{NodeModel}
use Rattle.world_kit.specs.contracts.world.World as world
use Rattle.world_kit.specs.declared.event.Event.TheVariants as event
use Rattle.world_kit.specs.declared.event.Reply.TheVariants as reply
use Rattle.world_kit.specs.Stands.{Acts}
use Rattle.world_kit.specs.Wanting.{IsEmpty}
use Rattle.world_kit.specs.WorldState.{WorldState}
use Rattle.world_kit.proofs.world.World.merge.Goals as goal

pub returns-then-into-len-clause-ok : goal.returns-then-into-len-clause-ok
returns-then-into-len-clause-ok c = left_as _ _ _ _ c.self.view_is (merge_nowhere _ c.args.into c.args.from (grind (arith, common_steps)))

pub returns-then-from-len-clause-ok : goal.returns-then-from-len-clause-ok
returns-then-from-len-clause-ok c = left_as _ _ _ _ c.self.view_is (merge_none _ c.args.into c.args.from (grind (arith, common_steps)) (grind (arith, common_steps)))

pub returns-then-into-from-clause-ok : goal.returns-then-into-from-clause-ok
returns-then-into-from-clause-ok c = left_as _ _ _ _ c.self.view_is (merges_itself _ c.args.into c.args.from (grind (arith, common_steps)) c.if-into-from.true)

-- a slice of all of a vector, written back
written : {A : Type 0} (new items : List A) (n : ℕ) → length new ≡ length items → n ≡ length items → take n (new ++ drop (length new) items) ≡ new
written new items n e f = grind (arith, common_steps)

pub returns-clause-ok : goal.returns-clause-ok
returns-clause-ok c =
    let w = world.the_view c.self.inside in
    let nodes = c.self.inside.nodes.items in
    let here : c.args.into < length nodes = grind (arith, common_steps) in
    let there : c.args.from < length nodes = grind (arith, common_steps) in
    let lent : c.deref_mut.result.now ≡ nodes = c.deref_mut.ensures.value in
    let did = rw lent at c.in_ok-changed.ensures.ok in
    let short : length c.merge_two.new.nodes ≡ length nodes = ap length did.new_is ∙ length-set nodes c.args.into did.is in
    let back = written c.merge_two.new.nodes nodes c.self.inside.nodes.len short (grind (arith, common_steps)) ∙ did.new_is in
    let was = get_or nodes c.args.into did.is in
    let other = get_or nodes c.args.from did.is in
    let at_into = slice_get-get_or nodes c.args.into did.is here in
    let at_from = slice_get-get_or nodes c.args.from did.is there in
    let joined = did.joined was other at_into at_from in
    seen_as _ _ _ _ _ c.self.view_is (subst (λ (ns : List NodeModel). Acts (event.Merge c.args.into c.args.from) w (reply.Changed c.in_ok-changed.changed) (with_nodes w ns)) (sym back)
    (merges w c.args.into c.args.from c.in_ok-changed.changed was did.is other at_into at_from joined.0 joined.1 joined.2 joined.3 joined.4))

pub returns-in_err-changed-clause-no_memory : goal.returns-in_err-changed-clause-no_memory
returns-in_err-changed-clause-no_memory c = wants_as _ _ _ _ c.self.view_is (merge_wants _ c.args.into c.args.from (grind (arith, common_steps)) (grind (arith, common_steps)))

pub returns-in_err-changed-clause-itself : goal.returns-in_err-changed-clause-itself
returns-in_err-changed-clause-itself c = λ same. absurd (c.if-into-from.false same)

pub returns-in_err-changed-clause-empty : goal.returns-in_err-changed-clause-empty
returns-in_err-changed-clause-empty c = λ none.
    let seen : slice_get c.args.self.now.nodes c.args.from ≡ slice_get c.deref_mut.result.now c.args.from =
    ap (λ (w : WorldState). slice_get w.nodes c.args.from) (sym c.self.view_is) ∙ ap (λ ns. slice_get ns c.args.from) (sym c.deref_mut.ensures.value) in
    let done = c.in_err-changed.ensures.empty (subst IsEmpty seen none) in
    cc done
