-- Cells that exports bring are sound, and stay so when they are joined.
use Rattle.std.proofs.Common.{◌≡◌, ℕ, nat_lt, true, false, cond, if◌then◌else◌, List, [], ◌∷◌, ◌++◌, map, filter, Option, Some, None, All, refl, sym, ap, subst, ◌∙◌, arith}
use Rattle.std.specs.FinMap.{get}
use Rattle.std.specs.Ordering.{eq_by_cmp}
use Rattle.std.specs.Cmp.{Equal-is}
use Rattle.std.specs.Prelude.{IfSome}
use Rattle.std.proofs.lemmas.List.Elements.{All-tail}
use Rattle.point_kit.specs.Best.{best}
use Rattle.point_kit.specs.Equality.{payload_eq}
use Rattle.point_kit.specs.Exports.{Points, join_points, key_of, points_of, state}
use Rattle.point_kit.specs.Join.{join_cells, join_held, join_options}
use Rattle.point_kit.specs.Orders.{key_cmp}
use Rattle.point_kit.specs.Payload.{IsSound}
use Rattle.point_kit.specs.States.{points_under}
use Rattle.point_kit.specs.declared.cell.Cell.{Cell}
use Rattle.point_kit.specs.declared.export.Export.{Export}
use Rattle.point_kit.specs.declared.export_point.ExportPoint.{ExportPoint}
use Rattle.point_kit.specs.declared.key.Key.{Key}
use Rattle.point_kit.specs.declared.payload.Payload.{Payload}
use Rattle.point_kit.proofs.BestLaws.{best_more, cell_of}
use Rattle.point_kit.proofs.EqualityLaws.{payload_equivalence, payload_exact}
use Rattle.point_kit.proofs.OrderLaws.{key_total, key_exact}
use Rattle.point_kit.proofs.PointLaws.{held_sound}
use Rattle.point_kit.proofs.Sound.{sound_time, sound_points}
use Rattle.point_kit.proofs.StateLaws.{get-join_maps, get-state_of}
use Rattle.bytes_kit.specs.MessageFits.{IsSoundEntry, IsSoundPoints}

-- two sound cells of one key joined are sound
join_sound : (k : Key) (a b : Cell Payload) → IsSoundEntry (k, a) → IsSoundEntry (k, b) → IsSoundEntry (k, join_cells payload_eq a b)
join_sound k a b p q = elim (nat_lt a.time b.time) as (λ t. IsSoundEntry (k, if t then b else if nat_lt b.time a.time then a else record { time = a.time; held = join_held payload_eq a.held b.held })) [
  | true ↦ q
  | false ↦ elim (nat_lt b.time a.time) as (λ t. IsSoundEntry (k, if t then a else record { time = a.time; held = join_held payload_eq a.held b.held })) [
    | true ↦ p
    | false ↦ (p.0, held_sound k.stream.shape a.held b.held p.1 q.1)
  ]
]

options : (k : Key) (a b : Option (Cell Payload)) → IfSome a (λ c. IsSoundEntry (k, c)) → IfSome b (λ c. IsSoundEntry (k, c)) → IfSome (join_options (join_cells payload_eq) a b) (λ c. IsSoundEntry (k, c))
options k None b p q = q
options k (Some a) None p q = p
options k (Some a) (Some b) p q = join_sound k a b p q

-- sound at each key
here : (m : Points) → IsSoundPoints m → (k : Key) (o : Option (Cell Payload)) → get m k ≡ o → IfSome o (λ c. IsSoundEntry (k, c))
here m sound k None e = tt
here m sound k (Some c) e = sound k c e

there : (k : Key) (o : Option (Cell Payload)) (c : Cell Payload) → IfSome o (λ c. IsSoundEntry (k, c)) → o ≡ Some c → IsSoundEntry (k, c)
there k o c h e = subst (λ (x : Option (Cell Payload)). IfSome x (λ c. IsSoundEntry (k, c))) e h

pub joins_sound : (a b : Points) → IsSoundPoints a → IsSoundPoints b → IsSoundPoints (join_points a b)
joins_sound a b p q k c e =
    there k (join_options (join_cells payload_eq) (get a k) (get b k)) c (options k (get a k) (get b k) (here a p k (get a k) refl) (here b q k (get b k) refl))
    (sym (get-join_maps key_total key_exact (join_cells payload_eq) a b k) ∙ e)

module _ (e : Export) (k : Key) where
  -- the best of sound points under a key is sound
  best_sound : (ps : List ExportPoint) → All (λ p. IsSound p.stream.shape p.payload) ps
      → IfSome (best payload_eq (points_under key_cmp k (map (λ p. (key_of e p, (e.time, p.payload))) ps))) (λ c. IsSoundEntry (k, c))
  best_sound [] all = tt
  best_sound (p ∷ ps) all =
      let rest = best_sound ps (All-tail (λ x. IsSound x.stream.shape x.payload) p ps all) in
      let tail = filter (λ (x : Key × (ℕ × Payload)). eq_by_cmp key_cmp k x.0) (map (λ (x : ExportPoint). (key_of e x, (e.time, x.payload))) ps) in
      elim (eq_by_cmp key_cmp k (key_of e p)) as (λ b. eq_by_cmp key_cmp k (key_of e p) ≡ b → IfSome (best payload_eq (map (λ (x : Key × (ℕ × Payload)). x.1) (cond b ((key_of e p, (e.time, p.payload)) ∷ tail) tail))) (λ c. IsSoundEntry (k, c))) [
        | true ↦ λ t.
            let same : key_of e p ≡ k = sym (key_exact k (key_of e p) ((Equal-is (key_cmp k (key_of e p))).0 t)) in
            let one : IsSoundEntry (key_of e p, cell_of (e.time, p.payload)) = (sound_time e.start e.time e.points e.sound, all 0 p (omega arith)) in
            let mine : IsSoundEntry (k, cell_of (e.time, p.payload)) = subst (λ (j : Key). IsSoundEntry (j, cell_of (e.time, p.payload))) same one in
            let later = map (λ (x : Key × (ℕ × Payload)). x.1) tail in
            subst (λ (o : Option (Cell Payload)). IfSome o (λ c. IsSoundEntry (k, c))) (sym (best_more payload_eq payload_equivalence payload_exact (e.time, p.payload) later))
            (options k (Some (cell_of (e.time, p.payload))) (best payload_eq later) mine rest)
        | false ↦ λ t. rest
      ] refl

append_nothing : {A : Type 0} (xs : List A) → xs ++ [] ≡ xs
append_nothing [] = refl
append_nothing (x ∷ xs) = ap (λ l. x ∷ l) (append_nothing xs)

pub exports_sound : (e : Export) → IsSoundPoints (state (e ∷ []))
exports_sound e k c is =
    let points : List (Key × (ℕ × Payload)) = points_of e ++ [] in
    there k (best payload_eq (points_under key_cmp k (points_of e))) c (best_sound e k e.points (sound_points e.start e.time e.points e.sound))
    (ap (λ (ps : List (Key × (ℕ × Payload))). best payload_eq (points_under key_cmp k ps)) (sym (append_nothing (points_of e)))
    ∙ sym (get-state_of key_total key_exact payload_eq payload_equivalence payload_exact (points_of e ++ []) k) ∙ is)
