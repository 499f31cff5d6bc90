-- What stays where an incarnation is forgotten.
use Rattle.std.proofs.Common.{◌≡◌, false, cond, not, None, sym, ap, ◌∙◌}
use Rattle.std.specs.FinMap.{get, retain_keys, get-retain_keys}
use Rattle.point_kit.specs.declared.key.Key.{Key}
use Rattle.point_kit.specs.declared.writer_id.WriterId.{WriterId}
use Rattle.point_kit.specs.Exports.{Points}
use Rattle.point_kit.proofs.OrderLaws.{key_exact}
use Rattle.gateway_kit.specs.Queries.{is_of_incarnation}

-- the cells of others
pub others_stay : (writer : WriterId) (start : _) (old new : Points) → new ≡ retain_keys old (λ k. not (is_of_incarnation writer start k)) → (k : Key) → is_of_incarnation writer start k ≡ false → get new k ≡ get old k
others_stay writer start old new is k other =
    ap (λ (m : Points). get m k) is
    ∙ get-retain_keys old (λ x. not (is_of_incarnation writer start x)) k (λ x e. ap (λ y. not (is_of_incarnation writer start y)) (sym (key_exact k x e)))
    ∙ ap (λ b. cond (not b) (get old k) None) other
