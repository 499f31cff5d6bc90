-- What a node that forgot some keys owes its peers: what it owed them, without these.
use Rattle.std.proofs.Common.{◌≡◌, ℕ, Bool, true, false, cond, if◌then◌else◌, Option, Some, None, refl, sym, ap, ◌∙◌}
use Rattle.std.specs.Prelude.{nat_le, nat_lt}
use Rattle.std.specs.FinMap.{FinMap, get, empty, get-empty, retain_keys, get-retain_keys, same_map}
use Rattle.std.specs.Option.{option_map_or, unwrap_or}
use Rattle.std.specs.Ordering.{nat_cmp}
use Rattle.point_kit.specs.declared.key.Key.{Key}
use Rattle.point_kit.specs.Exports.{Points}
use Rattle.point_kit.specs.Orders.{key_cmp}
use Rattle.point_kit.proofs.OrderLaws.{key_total, key_exact}
use Rattle.gossip_kit.specs.Gossip.{acknowledged, carried_to, last_number, numbered_above, numbered_to, number_of, recent_to}
use Rattle.gossip_kit.specs.Views.{NodeModel}
use Rattle.gossip_kit.proofs.Sending.{Held, retained}

nothing : (b : Bool) → ◌≡◌ {A = Held} (cond b None None) None
nothing true = refl
nothing false = refl

module _ (kept : Key → Bool) (old new : NodeModel) (points : new.gateway.points ≡ retain_keys old.gateway.points kept) (numbers : new.gateway.numbers ≡ retain_keys old.gateway.numbers kept) (acked : new.acked ≡ old.acked) where
  numbered : (k : Key) → kept k ≡ true → number_of new k ≡ number_of old k
  numbered k is =
      ap (λ (m : FinMap key_cmp ℕ). unwrap_or (get m k) 0) numbers
      ∙ ap (λ (o : Option ℕ). unwrap_or o 0) (get-retain_keys old.gateway.numbers kept k (λ x e. ap kept (sym (key_exact k x e))) ∙ ap (λ b. cond b (get old.gateway.numbers k) None) is)

  -- the cells whose numbers pass a test
  passed : (test : ℕ → Bool) → retain_keys new.gateway.points (λ k. test (number_of new k)) ≡ retain_keys (retain_keys old.gateway.points (λ k. test (number_of old k))) kept
  passed test = same_map key_total key_exact _ _ (λ k.
      retained new.gateway.points (λ x. test (number_of new x)) k
      ∙ ap (λ (h : Held). cond (test (number_of new k)) h None) (ap (λ (m : Points). get m k) points ∙ retained old.gateway.points kept k)
      ∙ go k (kept k) refl
      ∙ sym (retained (retain_keys old.gateway.points (λ x. test (number_of old x))) kept k ∙ ap (λ (h : Held). cond (kept k) h None) (retained old.gateway.points (λ x. test (number_of old x)) k)))
    where
      go : (k : Key) (b : Bool) → kept k ≡ b → cond (test (number_of new k)) (cond b (get old.gateway.points k) None) None ≡ cond b (cond (test (number_of old k)) (get old.gateway.points k) None) None
      go k true is = ap (λ n. cond (test n) (get old.gateway.points k) None) (numbered k is)
      go k false is = nothing (test (number_of new k))

  none_left : ◌≡◌ {A = Points} empty (retain_keys empty kept)
  none_left = same_map key_total key_exact _ _ (λ k. get-empty key_cmp k ∙ sym (retained empty kept k ∙ ap (λ (h : Held). cond (kept k) h None) (get-empty key_cmp k) ∙ nothing (kept k)))

  pub acknowledged_left : (to : ℕ) → acknowledged new to ≡ retain_keys (acknowledged old to) kept
  acknowledged_left to = ap (λ (b : FinMap nat_cmp ℕ). option_map_or (numbered_to new) (get b to) empty) acked ∙ go (get old.acked to)
    where
      go : (o : Option ℕ) → option_map_or (numbered_to new) o empty ≡ retain_keys (option_map_or (numbered_to old) o empty) kept
      go None = none_left
      go (Some n) = passed (λ m. nat_le m n)

  recent_left : (to : ℕ) → recent_to new to ≡ retain_keys (recent_to old to) kept
  recent_left to = ap (λ (b : FinMap nat_cmp ℕ). option_map_or (numbered_above new) (get b to) new.gateway.points) acked ∙ go (get old.acked to)
    where
      go : (o : Option ℕ) → option_map_or (numbered_above new) o new.gateway.points ≡ retain_keys (option_map_or (numbered_above old) o old.gateway.points) kept
      go None = points
      go (Some n) = passed (λ m. nat_lt n m)

  pub carried_left : new.change ≡ old.change → (to : ℕ) → carried_to new to ≡ retain_keys (carried_to old to) kept
  unfolding carried_to
  carried_left change to =
      ap (λ n. if nat_lt n last_number then recent_to new to else new.gateway.points) change
      ∙ elim (nat_lt old.change last_number) as (λ b. (if b then recent_to new to else new.gateway.points) ≡ retain_keys (if b then recent_to old to else old.gateway.points) kept) [
        | true ↦ recent_left to
        | false ↦ points
      ]
