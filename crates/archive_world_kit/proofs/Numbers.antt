-- What a node has under old numbers gets fewer, whatever it joins or drops.
use Rattle.std.proofs.Common.{◌≡◌, ◌≢◌, ℕ, zero, suc, ◌<◌, ◌≤◌, Bool, true, false, not, cond, if◌then◌else◌, ◌⊎◌, inl, inr, Option, Some, None, refl, sym, ap, subst, ◌∙◌, arith, true≢false}
use Rattle.std.specs.Prelude.{nat_lt, nat_le}
use Rattle.std.proofs.lemmas.Bool.{ltb-true}
use Rattle.std.proofs.lemmas.Bool.Decides.{leb_tells}
use Rattle.std.specs.FinMap.{FinMap, get, same_map, get-retain_keys}
use Rattle.std.specs.Option.{unwrap_or}
use Rattle.archive_kit.specs.Stepping.{Drops}
use Rattle.gateway_kit.proofs.Entries.{not_None, same_Some}
use Rattle.gossip_kit.proofs.Carrying.{carried_below}
use Rattle.gossip_kit.proofs.Sending.{Held, retained, chosen}
use Rattle.gossip_kit.specs.Gossip.{Renumbers, delta_to, last_number, next_number, number_of, numbered_to}
use Rattle.gossip_kit.specs.Views.{NodeModel}
use Rattle.point_kit.proofs.EqualityLaws.{payload_equivalence, payload_exact, cell_exact, cell_itself}
use Rattle.point_kit.proofs.JoinLaws.{cells_idempotent, options_idempotent}
use Rattle.point_kit.proofs.OrderLaws.{key_total, key_exact}
use Rattle.point_kit.proofs.PointLaws.{points_idempotent, changed_points-same, unchanged_points}
use Rattle.point_kit.proofs.StateLaws.{get-join_maps}
use Rattle.point_kit.specs.declared.cell.Cell.{Cell}
use Rattle.point_kit.specs.declared.key.Key.{Key}
use Rattle.point_kit.specs.declared.payload.Payload.{Payload}
use Rattle.point_kit.specs.Equality.{payload_eq, cell_eq}
use Rattle.point_kit.specs.Exports.{Points, join_points, changed_points}
use Rattle.point_kit.specs.Join.{join_cells, join_options, IsAtOrBelow}
use Rattle.point_kit.specs.Orders.{key_cmp}

-- whether two cells are one can be told, and whether two lists of points are one
same_held : (a b : Held) → (a ≡ b) ⊎ (a ≢ b)
same_held None None = inl refl
same_held None (Some b) = inr (λ e. not_None e)
same_held (Some a) None = inr (λ e. not_None (sym e))
same_held (Some a) (Some b) = go (cell_eq a b) refl
  where
    go : (t : Bool) → cell_eq a b ≡ t → (Some a ≡ Some b) ⊎ (Some a ≢ Some b)
    go true e = inl (ap Some (cell_exact a b e))
    go false e = inr (λ same. true≢false (sym (subst (λ (x : Cell Payload). cell_eq a x ≡ true) (same_Some same) (cell_itself a)) ∙ e))

same_points : (p q : Points) → (p ≡ q) ⊎ (p ≢ q)
same_points p q = go (changed_points p q) refl
  where
    go : (n : ℕ) → changed_points p q ≡ n → (p ≡ q) ⊎ (p ≢ q)
    go zero e = inl (unchanged_points p q e)
    go (suc n) e = inr (λ same. let none : changed_points p q ≡ 0 = ap (changed_points p) (sym same) ∙ changed_points-same p in absurd (omega (arith, none, e)))

-- a node that goes on: what it has under a number that it counted it had before, and it counted that number still
pub record Moves (old new : NodeModel) : Type 0 where
  pub sinks : (n : ℕ) → n ≤ old.change → n < last_number → IsAtOrBelow join_points (numbered_to new n) (numbered_to old n)
  pub past : (n : ℕ) → n ≤ old.change → n < last_number → n ≤ new.change

pub stays : (old new : NodeModel) → new ≡ old → Moves old new
stays old new same = subst (Moves old) (sym same) (record { sinks = λ n past small. points_idempotent (numbered_to old n); past = λ n past small. past })

-- under each key it has what it had, or nothing
fewer : (old new : NodeModel) (n : ℕ) → ((k : Key) → (get (numbered_to new n) k ≡ get (numbered_to old n) k) ⊎ (get (numbered_to new n) k ≡ None)) → IsAtOrBelow join_points (numbered_to new n) (numbered_to old n)
fewer old new n each = same_map key_total key_exact _ _ (λ k.
    get-join_maps key_total key_exact (join_cells payload_eq) (numbered_to new n) (numbered_to old n) k
    ∙ elim (each k) [
      | inl same ↦ ap (λ (x : Held). join_options (join_cells payload_eq) x (get (numbered_to old n) k)) same
          ∙ options_idempotent (join_cells payload_eq) (cells_idempotent payload_eq payload_equivalence payload_exact) (get (numbered_to old n) k)
      | inr none ↦ ap (λ (x : Held). join_options (join_cells payload_eq) x (get (numbered_to old n) k)) none
    ])

under : (node : NodeModel) (n : ℕ) (k : Key) → get (numbered_to node n) k ≡ cond (nat_le (number_of node k) n) (get node.gateway.points k) None
under node n k = retained node.gateway.points (λ x. nat_le (number_of node x) n) k

alike_under : (old new : NodeModel) (n : ℕ) (k : Key) → number_of new k ≡ number_of old k → get new.gateway.points k ≡ get old.gateway.points k → get (numbered_to new n) k ≡ get (numbered_to old n) k
alike_under old new n k number same = under new n k ∙ (λ i. cond (nat_le (number i) n) (same i) None) ∙ sym (under old n k)

-- the number of a change is above all that were counted
above : (old new : NodeModel) (n : ℕ) → Renumbers old new → n ≤ old.change → n < last_number → new.gateway.points ≢ old.gateway.points → n < new.change
above old new n moves past small differs = let r : new.change ≡ next_number old.change = moves.raised differs in omega arith

not_up_to : (n m : ℕ) → n < m → nat_le m n ≡ false
not_up_to n m h = elim (leb_tells m n) [
  | inl less ↦ absurd (let l = less.1 in omega (arith, h, l))
  | inr more ↦ more.0
]

pub renumbers : (old new : NodeModel) → Renumbers old new → Moves old new
renumbers old new moves = record {
  sinks = λ n past small. fewer old new n (λ k. elim (same_held (get new.gateway.points k) (get old.gateway.points k)) [
    | inl same ↦ inl (alike_under old new n k (moves.kept k same) same)
    | inr differs ↦
        let high : n < number_of new k = subst (λ (m : ℕ). n < m) (sym (moves.renumbered k differs)) (above old new n moves past small (λ e. differs (ap (λ (p : Points). get p k) e))) in
        inr (under new n k ∙ ap (λ b. cond b (get new.gateway.points k) None) (not_up_to n (number_of new k) high))
  ]);
  past = λ n past small. elim (same_points new.gateway.points old.gateway.points) [
    | inl same ↦ let e : new.change ≡ old.change = moves.same same in omega arith
    | inr differs ↦ let h : n < new.change = above old new n moves past small differs in omega arith
  ];
}

nothing : (b : Bool) → ◌≡◌ {A = Held} (cond b None None) None
nothing true = refl
nothing false = refl

pub drops : (gone : Key → Bool) (old new : NodeModel) → Drops gone old new → Moves old new
drops gone old new is = record {
  sinks = λ n past small. fewer old new n (λ k. at n k (gone k) refl);
  past = λ n past small. subst (λ (m : ℕ). n ≤ m) (sym is.change) past;
}
  where
    kept : Key → Bool
    kept k = not (gone k)

    left : (k : Key) → get new.gateway.points k ≡ cond (kept k) (get old.gateway.points k) None
    left k = ap (λ (p : Points). get p k) is.points ∙ retained old.gateway.points kept k

    number : (k : Key) → gone k ≡ false → number_of new k ≡ number_of old k
    number k stays =
        ap (λ (m : FinMap key_cmp ℕ). unwrap_or (get m k) 0) is.numbers
        ∙ ap (λ (o : Option ℕ). unwrap_or o 0) (get-retain_keys old.gateway.numbers kept k (λ x e. ap kept (sym (key_exact k x e))) ∙ ap (λ b. cond (not b) (get old.gateway.numbers k) None) stays)

    at : (n : ℕ) (k : Key) (b : Bool) → gone k ≡ b → (get (numbered_to new n) k ≡ get (numbered_to old n) k) ⊎ (get (numbered_to new n) k ≡ None)
    at n k true went = inr (under new n k ∙ ap (λ (x : Held). cond (nat_le (number_of new k) n) x None) (left k ∙ ap (λ b. cond (not b) (get old.gateway.points k) None) went) ∙ nothing (nat_le (number_of new k) n))
    at n k false stayed = inl (alike_under old new n k (number k stayed) (left k ∙ ap (λ b. cond (not b) (get old.gateway.points k) None) stayed))

-- a delta asks for its sender's number, where that is not the last
pub delta_is : (node : NodeModel) (k : ℕ) → delta_to node ≡ Some k → (k ≡ node.change) × (node.change < last_number)
unfolding delta_to
delta_is node k is = go (nat_lt node.change last_number) refl is
  where
    go : (b : Bool) → nat_lt node.change last_number ≡ b → (if b then Some node.change else None) ≡ Some k → (k ≡ node.change) × (node.change < last_number)
    go true e same = (sym (same_Some same), ltb-true node.change last_number e)
    go false e same = absurd (not_None same)

-- the cells up to a number are held
pub numbered_held : (node : NodeModel) (n : ℕ) → IsAtOrBelow join_points (numbered_to node n) node.gateway.points
numbered_held node n = carried_below (numbered_to node n) node.gateway.points (λ k c is. chosen (nat_le (number_of node k) n) (get node.gateway.points k) c (sym (under node n k) ∙ is))
