-- What a delta carries is held, and brings what is not acknowledged.
use Rattle.std.proofs.Common.{◌≡◌, ℕ, Bool, true, false, cond, if◌then◌else◌, ◌<◌, ◌≤◌, Option, Some, None, refl, sym, ap, ◌∙◌}
use Rattle.std.proofs.lemmas.Bool.{le-leb, le-ltb, lt-ltb, ltb-false}
use Rattle.std.specs.Prelude.{nat_lt, nat_le}
use Rattle.std.specs.FinMap.{get, empty, retain_keys, get-retain_keys, same_map}
use Rattle.std.specs.Option.{option_map_or}
use Rattle.point_kit.specs.declared.cell.Cell.{Cell}
use Rattle.point_kit.specs.declared.key.Key.{Key}
use Rattle.point_kit.specs.declared.payload.Payload.{Payload}
use Rattle.point_kit.specs.Equality.{payload_eq}
use Rattle.point_kit.specs.Exports.{Points, join_points}
use Rattle.point_kit.specs.Join.{join_cells, join_options}
use Rattle.point_kit.proofs.EqualityLaws.{payload_equivalence, payload_exact}
use Rattle.point_kit.proofs.JoinLaws.{cells_commute, cells_associate, cells_idempotent, options_commute, options_associate, options_idempotent}
use Rattle.point_kit.proofs.OrderLaws.{key_total, key_exact}
use Rattle.point_kit.proofs.PointLaws.{points_commute, points_associate, points_idempotent}
use Rattle.point_kit.proofs.StateLaws.{get-join_maps}
use Rattle.gateway_kit.proofs.Counting.{unjoined}
use Rattle.gateway_kit.proofs.Entries.{not_None}
use Rattle.gossip_kit.specs.Gossip.{CarriesHeld, Brings, acknowledged, carried_to, recent_to, numbered_above, numbered_to, number_of, delta_to, last_number}
use Rattle.gossip_kit.specs.Views.{NodeModel}

abbrev pub Held : Type 0
Held = Option (Cell Payload)

abbrev J : Held → Held → Held
J = join_options (join_cells payload_eq)

commute : (a b : Held) → J a b ≡ J b a
commute = options_commute (join_cells payload_eq) (cells_commute payload_eq payload_equivalence payload_exact)

associate : (a b c : Held) → J (J a b) c ≡ J a (J b c)
associate = options_associate (join_cells payload_eq) (cells_associate payload_eq payload_equivalence payload_exact)

repeat : (a : Held) → J a a ≡ a
repeat = options_idempotent (join_cells payload_eq) (cells_idempotent payload_eq payload_equivalence payload_exact)

twice : (x p : Held) → J x (J p x) ≡ J p x
twice x p = ap (J x) (commute p x) ∙ sym (associate x x p) ∙ ap (λ y. J y p) (repeat x) ∙ commute x p

-- the cells that pass a test
pub retained : (points : Points) (p : Key → Bool) (k : Key) → get (retain_keys points p) k ≡ cond (p k) (get points k) None
retained points p k = get-retain_keys points p k (λ x e. ap p (sym (key_exact k x e)))

pub chosen : (b : Bool) (x : Held) (c : Cell Payload) → cond b x None ≡ Some c → x ≡ Some c
chosen true x c e = e
chosen false x c e = absurd (not_None e)

above_held : (node : NodeModel) (a : Option ℕ) → CarriesHeld (option_map_or (numbered_above node) a node.gateway.points) node.gateway.points
above_held node None k c is = is
above_held node (Some n) k c is = chosen (nat_lt n (number_of node k)) (get node.gateway.points k) c (sym (retained node.gateway.points (λ x. nat_lt n (number_of node x)) k) ∙ is)

all_brings : (acked held : Points) → Brings held acked held
all_brings acked held p above =
    points_commute held (join_points p held) ∙ points_associate p held held ∙ ap (join_points p) (points_idempotent held)

brings_at : (x p : Held) (b : Bool) → (b ≡ false → J x p ≡ p) → J x (J p (cond b x None)) ≡ J p (cond b x None)
brings_at x p true up = twice x p
brings_at x p false up = ap (J x) (sym (unjoined (join_cells payload_eq) p)) ∙ up refl ∙ unjoined (join_cells payload_eq) p

recent_brings : (node : NodeModel) (a : Option ℕ) (acked : Points) → ((n : ℕ) → a ≡ Some n → acked ≡ numbered_to node n) → Brings (option_map_or (numbered_above node) a node.gateway.points) acked node.gateway.points
recent_brings node None acked is p above = all_brings acked node.gateway.points p above
recent_brings node (Some n) acked is p above = same_map key_total key_exact _ _ (λ k.
    let h = node.gateway.points in
    let carried = numbered_above node n in
    let test : Bool = nat_lt n (number_of node k) in
    let has : get carried k ≡ cond test (get h k) None = retained h (λ x. nat_lt n (number_of node x)) k in
    let up : test ≡ false → J (get h k) (get p k) ≡ get p k = λ low.
    let whole : get acked k ≡ get h k = ap (λ (m : Points). get m k) (is n refl) ∙ retained h (λ x. nat_le (number_of node x) n) k ∙ ap (λ b. cond b (get h k) None) (le-leb (number_of node k) n (ltb-false n (number_of node k) low)) in
    ap (λ x. J x (get p k)) (sym whole) ∙ sym (get-join_maps key_total key_exact (join_cells payload_eq) acked p k) ∙ ap (λ (m : Points). get m k) above in
    get-join_maps key_total key_exact (join_cells payload_eq) h (join_points p carried) k
    ∙ ap (J (get h k)) (get-join_maps key_total key_exact (join_cells payload_eq) p carried k ∙ ap (J (get p k)) has)
    ∙ brings_at (get h k) (get p k) test up
    ∙ sym (get-join_maps key_total key_exact (join_cells payload_eq) p carried k ∙ ap (J (get p k)) has))

-- what is carried is held under the same keys
pub carries_held : (node : NodeModel) (to : ℕ) → CarriesHeld (carried_to node to) node.gateway.points
unfolding carried_to
carries_held node to = elim (nat_lt node.change last_number) as (λ b. CarriesHeld (if b then recent_to node to else node.gateway.points) node.gateway.points) [
  | true ↦ above_held node (get node.acked to)
  | false ↦ λ k c is. is
]

acked_at : (node : NodeModel) (to : ℕ) (n : ℕ) → get node.acked to ≡ Some n → acknowledged node to ≡ numbered_to node n
acked_at node to n is = ap (λ (o : Option ℕ). option_map_or (numbered_to node) o empty) is

-- and brings what has all that was acknowledged to or above what is held
pub carries_enough : (node : NodeModel) (to : ℕ) → Brings (carried_to node to) (acknowledged node to) node.gateway.points
unfolding carried_to
carries_enough node to = elim (nat_lt node.change last_number) as (λ b. Brings (if b then recent_to node to else node.gateway.points) (acknowledged node to) node.gateway.points) [
  | true ↦ recent_brings node (get node.acked to) (acknowledged node to) (acked_at node to)
  | false ↦ all_brings (acknowledged node to) node.gateway.points
]

pub carried_recent : (node : NodeModel) (to : ℕ) → node.change < last_number → recent_to node to ≡ carried_to node to
unfolding carried_to
carried_recent node to low = sym (ap (λ b. if b then recent_to node to else node.gateway.points) (lt-ltb node.change last_number low))

pub carried_all : (node : NodeModel) (to : ℕ) → last_number ≤ node.change → node.gateway.points ≡ carried_to node to
unfolding carried_to
carried_all node to high = sym (ap (λ b. if b then recent_to node to else node.gateway.points) (le-ltb node.change last_number high))

pub delta_recent : (node : NodeModel) → node.change < last_number → Some node.change ≡ delta_to node
unfolding delta_to
delta_recent node low = sym (ap (λ b. if b then Some node.change else None) (lt-ltb node.change last_number low))

pub delta_none : (node : NodeModel) → last_number ≤ node.change → None ≡ delta_to node
unfolding delta_to
delta_none node high = sym (ap (λ b. if b then Some node.change else None) (le-ltb node.change last_number high))
