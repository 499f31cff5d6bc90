use Rattle.std.proofs.Common.{◌≡◌, ℕ, List, filter, take}
use Rattle.std.specs.BTreeMap.{is_at}
use Rattle.std.specs.Map.{lookup}
use Rattle.std.specs.Option.{option_map}
use Rattle.attr_kit.specs.Orders.{text_cmp}
use Rattle.page_kit.proofs.Shared.{so_far, of_service}
use Rattle.page_kit.specs.Views.{cells}
use Rattle.page_kit.proofs.bounds.bounds_of_services.Given as goal

abbrev pub invariant-loop-point : goal.invariant-loop-point
invariant-loop-point l = (service : List ℕ) → option_map (λ v. v.items) (lookup (is_at (text_cmp service)) l.services.entries) ≡ so_far (filter (of_service service) (cells (take l.point-index l.points)))
