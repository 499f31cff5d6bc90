-- The changes of a node, and their numbers.
use Rattle.std.proofs.Common.{◌≡◌, ◌≢◌, ◌<◌, ℕ, zero, suc, sym, ap, subst, ◌∙◌, arith}
use Rattle.std.proofs.lemmas.Bool.{cond-true, cond-false, lt-ltb, le-ltb}
use Rattle.std.specs.Prelude.{nat_lt, if◌then◌else◌}
use Rattle.std.specs.FinMap.{FinMap, get, empty}
use Rattle.std.specs.Option.{unwrap_or}
use Rattle.point_kit.specs.Exports.{Points, join_points, changed_points}
use Rattle.point_kit.specs.Orders.{key_cmp}
use Rattle.point_kit.proofs.PointLaws.{points_commute, changed_points-same, unchanged_points}
use Rattle.gateway_kit.specs.Numbering.{IsNumberedBy}
use Rattle.gateway_kit.specs.GatewayState.{GatewayState}
use Rattle.gateway_kit.proofs.Merged.{joined_empty}
use Rattle.gossip_kit.specs.Gossip.{Renumbers, next_number}
use Rattle.gossip_kit.specs.Views.{NodeModel}

-- what is joined into nothing is itself
pub alone : (m : Points) → join_points empty m ≡ m
alone m = points_commute empty m ∙ sym (joined_empty m)

-- where points differ some key changed
some_changed : (old new : Points) (n : ℕ) → n ≡ changed_points old new → new ≢ old → 0 < n
some_changed old new zero count differs = absurd (differs (sym (unchanged_points old new (sym count))))
some_changed old new (suc n) count differs = omega arith

-- a call that gave all that it changed the next number, and counted it where it changed a key
pub renumbers : (old new : NodeModel) (g : GatewayState) (number n : ℕ) → number ≡ next_number old.change → IsNumberedBy number old.gateway g → n ≡ changed_points old.gateway.points g.points
    → new ≡ record old { gateway = g; change = if nat_lt 0 n then number else old.change } → Renumbers old new
renumbers old new g number n next by count is = subst (Renumbers old) (sym is) (record {
  kept = by.kept;
  renumbered = λ k differs. by.numbered k differs ∙ sym (raised (λ same. differs (ap (λ (p : Points). get p k) same)));
  same = λ same.
      let none : n ≡ 0 = count ∙ ap (changed_points old.gateway.points) same ∙ changed_points-same old.gateway.points in
      cond-false (nat_lt 0 n) number old.change (le-ltb 0 n (omega arith));
  raised = λ differs. raised differs ∙ next;
})
  where
    raised : g.points ≢ old.gateway.points → (if nat_lt 0 n then number else old.change) ≡ number
    raised differs = cond-true (nat_lt 0 n) number old.change (lt-ltb 0 n (some_changed old.gateway.points g.points n count differs))

-- a call that changes nothing numbers nothing
pub renumbers_nothing : (old new : NodeModel) → new.gateway.points ≡ old.gateway.points → new.gateway.numbers ≡ old.gateway.numbers → new.change ≡ old.change → Renumbers old new
renumbers_nothing old new points numbers change = record {
  kept = λ k is. ap (λ (m : FinMap key_cmp ℕ). unwrap_or (get m k) 0) numbers;
  renumbered = λ k differs. absurd (differs (ap (λ (p : Points). get p k) points));
  same = λ is. change;
  raised = λ differs. absurd (differs points);
}
