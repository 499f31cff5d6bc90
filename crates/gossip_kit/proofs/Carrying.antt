-- What a message that is taken in comes to.
use Rattle.std.proofs.Common.{◌≡◌, Option, None, Some, refl, sym, ap, ◌∙◌}
use Rattle.std.specs.FinMap.{get, empty, get-empty, same_map}
use Rattle.point_kit.specs.declared.cell.Cell.{Cell}
use Rattle.point_kit.specs.declared.key.Key.{Key}
use Rattle.point_kit.specs.declared.payload.Payload.{Payload}
use Rattle.point_kit.specs.Equality.{payload_eq}
use Rattle.point_kit.specs.Exports.{Points, join_points}
use Rattle.point_kit.specs.Join.{join_cells, join_options, IsAtOrBelow}
use Rattle.point_kit.specs.Orders.{key_cmp}
use Rattle.point_kit.proofs.EqualityLaws.{payload_equivalence, payload_exact}
use Rattle.point_kit.proofs.JoinLaws.{cells_idempotent}
use Rattle.point_kit.proofs.OrderLaws.{key_total, key_exact}
use Rattle.point_kit.proofs.PointLaws.{points_commute, points_associate}
use Rattle.point_kit.proofs.StateLaws.{get-join_maps}
use Rattle.gossip_kit.specs.Gossip.{CarriesHeld, Brings}

-- nothing is at or below anything
pub nothing_below : (p : Points) → IsAtOrBelow join_points empty p
nothing_below p = same_map key_total key_exact _ _ (λ k. get-join_maps key_total key_exact (join_cells payload_eq) empty p k ∙ ap (λ o. join_options (join_cells payload_eq) o (get p k)) (get-empty key_cmp k))

-- what is carried is at or below what is held
pub carried_below : (carried held : Points) → CarriesHeld carried held → IsAtOrBelow join_points carried held
carried_below carried held is = same_map key_total key_exact _ _ (λ k. get-join_maps key_total key_exact (join_cells payload_eq) carried held k ∙ go k (get carried k) refl)
  where
    go : (k : Key) (o : Option (Cell Payload)) → get carried k ≡ o → join_options (join_cells payload_eq) (get carried k) (get held k) ≡ get held k
    go k None e = ap (λ c. join_options (join_cells payload_eq) c (get held k)) e
    go k (Some v) e =
        ap (λ c. join_options (join_cells payload_eq) c (get held k)) e ∙ ap (join_options (join_cells payload_eq) (Some v)) (is k v e)
        ∙ ap Some (cells_idempotent payload_eq payload_equivalence payload_exact v) ∙ sym (is k v e)

-- joined into what has all that was acknowledged, what is carried brings all that the sender held
pub brings_held : (carried acked held p : Points) → CarriesHeld carried held → Brings carried acked held → IsAtOrBelow join_points acked p → join_points p carried ≡ join_points p held
brings_held c acked h p holds brings above =
    sym (sym (ap (join_points p) (carried_below c h holds)) ∙ sym (points_associate p c h) ∙ points_commute (join_points p c) h ∙ brings p above)
