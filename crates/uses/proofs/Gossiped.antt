-- What two nodes hold once one told the other, and what gateways hold that took the same.
use Rattle.std.proofs.Common.{◌≡◌, ◌∙◌, ℕ, Option, None, Some, ap, sym, subst}
use Rattle.std.specs.FinMap.{get, empty, get-empty}
use Rattle.std.specs.Option.{option_map, option_map_or}
use Rattle.std.specs.Ordering.{nat_cmp}
use Rattle.gateway_kit.proofs.Merged.{joined_empty}
use Rattle.gossip_kit.proofs.Carrying.{brings_held, nothing_below}
use Rattle.gossip_kit.proofs.Changes.{alone}
use Rattle.gossip_kit.specs.Gossip.{Brings, CarriesHeld, acked_after, acknowledged, answer_of, numbered_to, raised_to}
use Rattle.gossip_kit.specs.Views.{MessageModel, NodeModel}
use Rattle.point_kit.proofs.PointLaws.{points_above, points_commute}
use Rattle.point_kit.specs.Exports.{Points, join_points}
use Rattle.point_kit.specs.Join.{IsAtOrBelow}

-- who is handed a message then holds what both held
pub told_all : (node to : NodeModel) (m : MessageModel) (id : ℕ) (after : Points) → after ≡ join_points to.gateway.points m.points → CarriesHeld m.points node.gateway.points
    → Brings m.points (acknowledged node id) node.gateway.points → id ≡ to.gateway.id → IsAtOrBelow join_points (acknowledged node to.gateway.id) to.gateway.points
    → after ≡ join_points to.gateway.points node.gateway.points
told_all node to m id after is held brings same has =
    is ∙ brings_held m.points (acknowledged node id) node.gateway.points to.gateway.points held brings (subst (λ (k : ℕ). IsAtOrBelow join_points (acknowledged node k) to.gateway.points) (sym same) has)

some_is : (a b : MessageModel) → Some a ≡ Some b → a ≡ b
some_is a b e = cc

-- an answer carries no points
pub answer_empty : (to : NodeModel) (m answer : MessageModel) → Some answer ≡ answer_of to m → answer.points ≡ empty
answer_empty to m answer is = go m.delta is
  where
    of : ℕ → MessageModel
    of n = record { from = to.gateway.id; to = m.from; points = empty; delta = None; ack = Some n }

    go : (d : Option ℕ) → Some answer ≡ option_map of d → answer.points ≡ empty
    go None e = cc e
    go (Some n) e = ap (λ (a : MessageModel). a.points) (some_is answer (of n) e)

-- so who is handed one holds what it held
pub kept_all : (held carried after : Points) → after ≡ join_points held carried → carried ≡ empty → after ≡ held
kept_all held carried after is none = is ∙ ap (join_points held) none ∙ sym (joined_empty held)

-- and no message but an Ack changes what was acknowledged
pub same_acked : (to : NodeModel) (m : MessageModel) → m.ack ≡ None → acked_after to m ≡ to.acked
same_acked to m none = ap (λ (a : Option ℕ). option_map_or (raised_to to.acked m.from) a to.acked) none

-- of nothing that was acknowledged all has enough
pub nothing_acknowledged : (node : NodeModel) (to : ℕ) (p : Points) → node.acked ≡ empty → IsAtOrBelow join_points (acknowledged node to) p
nothing_acknowledged node to p none =
    subst (λ (o : Option ℕ). IsAtOrBelow join_points (option_map_or (numbered_to node) o empty) p) (sym (ap (λ b. get b to) none ∙ get-empty nat_cmp to)) (nothing_below p)

-- two that told each other hold the same, which is all that both held
pub met : (one other one' other' : Points) → other' ≡ join_points other one → one' ≡ join_points one other' → (one' ≡ other') × (one' ≡ join_points one other)
met one other one' other' is was =
    let both : one' ≡ join_points other one = was ∙ ap (join_points one) is ∙ (points_above other one).1 in
    (both ∙ sym is, both ∙ points_commute other one)

-- two exports in either order, one of them twice
pub agreed : (a b : Points) → join_points (join_points empty a) b ≡ join_points (join_points (join_points empty b) a) b
agreed a b =
    ap (λ p. join_points p b) (alone a) ∙ points_commute a b ∙ sym (points_above b a).0 ∙ points_commute b (join_points b a)
    ∙ ap (λ p. join_points (join_points p a) b) (sym (alone b))
