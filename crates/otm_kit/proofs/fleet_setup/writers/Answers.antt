use Rattle.std.proofs.Common.{rules, arith, ◌≡◌, ◌∙◌, ◌+◌, ◌++◌, ◌∷◌, [], List, ℕ, suc, ap}
use Rattle.plan_kit.specs.Plans.{Planned}
use Rattle.point_kit.specs.declared.writer_id.WriterId.{WriterId}
use Rattle.otm_kit.specs.FleetSetups.{fleet_writers}
use Rattle.otm_kit.proofs.fleet_setup.writers.Goals as goal

pub loop-place-preserved : goal.loop-place-preserved
loop-place-preserved c =
    let p = c.loop-place.place in
    let own = c.in_ok-writer.field-0 in
    let grows : c.push.new.self.items ≡ c.loop-place.writers.items ++ own ∷ [] = search rules in
    let next : suc p ≡ p + 1 = omega arith in
    grows
    ∙ ap (λ (ws : List (WriterId × Planned × ℕ)). ws ++ own ∷ []) c.loop-place.invariant
    ∙ ap (λ (w : WriterId × Planned × ℕ). fleet_writers p ++ w ∷ []) c.in_ok-writer.ensures
    ∙ ap fleet_writers next
