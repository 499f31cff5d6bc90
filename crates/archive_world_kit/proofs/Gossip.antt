-- What a mail that is sent brings, and what an Ack that is handed tells.
use Rattle.std.proofs.Common.{◌≡◌, ℕ, ◌<◌, max, Bool, true, false, cond, ◌⊎◌, inl, inr, Option, Some, None, refl, sym, ap, subst, ◌∙◌, arith}
use Rattle.std.proofs.lemmas.Bool.{cases_lt}
use Rattle.std.specs.Cmp.{Equal-is, nat_cmp_total}
use Rattle.std.specs.FinMap.{FinMap, get, get-insert, empty, nat_cmp-IsAntisymmetric}
use Rattle.std.specs.Option.{option_map_or, unwrap_or}
use Rattle.std.specs.Ordering.{eq_by_cmp, nat_cmp}
use Rattle.archive_world_kit.proofs.Shown.{S, Below, brings_on, plain_below}
use Rattle.archive_world_kit.proofs.Standing.{Claimed}
use Rattle.archive_world_kit.specs.Steps.{Sends}
use Rattle.gateway_kit.proofs.Entries.{same_Some}
use Rattle.gossip_kit.proofs.Carrying.{brings_held, nothing_below}
use Rattle.gossip_kit.proofs.Sending.{carries_enough, carries_held}
use Rattle.gossip_kit.specs.Gossip.{acked_after, acknowledged, carried_to, numbered_to, raised_to}
use Rattle.gossip_kit.specs.Views.{MessageModel, NodeModel}
use Rattle.point_kit.proofs.PointLaws.{points_idempotent}
use Rattle.point_kit.specs.Exports.{Points, join_points}

-- what a peer acknowledged its points show
acknowledged_shown : (node : NodeModel) (to : ℕ) (p : Points) → ((k : ℕ) → get node.acked to ≡ Some k → Claimed node p k) → Below (acknowledged node to) p
acknowledged_shown node to p has = go (get node.acked to) refl
  where
    go : (o : Option ℕ) → get node.acked to ≡ o → Below (option_map_or (numbered_to node) (get node.acked to) empty) p
    go None e = subst (λ (x : Option ℕ). Below (option_map_or (numbered_to node) x empty) p) (sym e) (plain_below empty p (nothing_below p))
    go (Some k) e = subst (λ (x : Option ℕ). Below (option_map_or (numbered_to node) x empty) p) (sym e) (has k e).covers

pub sent_brings : (node : NodeModel) (to : ℕ) (m : MessageModel) (p : Points) → Sends node to m → ((k : ℕ) → get node.acked to ≡ Some k → Claimed node p k)
    → S (join_points p m.points) ≡ S (join_points p node.gateway.points)
sent_brings node to m p is has =
    let once = acknowledged node to in
    ap (λ (c : Points). S (join_points p c)) is.points
    ∙ brings_on p once (carried_to node to) node.gateway.points (acknowledged_shown node to p has)
    (brings_held (carried_to node to) once node.gateway.points once (carries_held node to) (carries_enough node to) (points_idempotent once))

-- of two numbers the greater is one of them
greater : (a b k : ℕ) → max a b ≡ k → ((a ≡ k) × (b < a)) ⊎ (b ≡ k)
greater a b k e = elim (cases_lt a b) [
  | inl below ↦ inr (omega (arith, e, below))
  | inr above ↦ elim (cases_lt b a) [
    | inl less ↦ inl (omega (arith, e, less), less)
    | inr same ↦ inr (omega (arith, e, above, same))
  ]
]

-- what stands in the books of a node to which a mail was handed: what stood there, or the number of an Ack for its sender
pub books_after : (old new : NodeModel) (m : MessageModel) (id k : ℕ) → new.acked ≡ acked_after old m → get new.acked id ≡ Some k
    → (get old.acked id ≡ Some k) ⊎ ((id ≡ m.from) × (m.ack ≡ Some k))
books_after old new m id k after has = go m.ack refl
  where
    now : (o : Option ℕ) → m.ack ≡ o → get (option_map_or (raised_to old.acked m.from) o old.acked) id ≡ Some k
    now o e = ap (λ (x : Option ℕ). get (option_map_or (raised_to old.acked m.from) x old.acked) id) (sym e) ∙ ap (λ (b : FinMap nat_cmp ℕ). get b id) (sym after) ∙ has

    pick : (n : ℕ) → m.ack ≡ Some n → id ≡ m.from → (o : Option ℕ) → get old.acked m.from ≡ o → max (unwrap_or o 0) n ≡ k → (get old.acked id ≡ Some k) ⊎ ((id ≡ m.from) × (m.ack ≡ Some k))
    pick n told same None e v = inr (same, told ∙ ap Some (omega (arith, v)))
    pick n told same (Some b) e v = elim (greater b n k v) [
      | inl older ↦ inl (ap (get old.acked) same ∙ e ∙ ap Some older.0)
      | inr newer ↦ inr (same, told ∙ ap Some newer)
    ]

    go : (o : Option ℕ) → m.ack ≡ o → (get old.acked id ≡ Some k) ⊎ ((id ≡ m.from) × (m.ack ≡ Some k))
    go None e = inl (now None e)
    go (Some n) e = split (eq_by_cmp nat_cmp id m.from) refl
      where
        value : ℕ
        value = max (unwrap_or (get old.acked m.from) 0) n

        at : (t : Bool) → eq_by_cmp nat_cmp id m.from ≡ t → cond t (Some value) (get old.acked id) ≡ Some k
        at t is = sym (get-insert nat_cmp_total old.acked m.from value id ∙ ap (λ b. cond b (Some value) (get old.acked id)) is) ∙ now (Some n) e

        split : (t : Bool) → eq_by_cmp nat_cmp id m.from ≡ t → (get old.acked id ≡ Some k) ⊎ ((id ≡ m.from) × (m.ack ≡ Some k))
        split true tied = pick n e (nat_cmp-IsAntisymmetric id m.from ((Equal-is (nat_cmp id m.from)).0 tied)) (get old.acked m.from) refl (same_Some (at true tied))
        split false apart = inl (at false apart)
