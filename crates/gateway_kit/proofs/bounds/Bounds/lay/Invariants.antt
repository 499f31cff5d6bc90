use Rattle.std.proofs.Common.{◌≡◌, ◌<◌, ℕ, get_or}
use Rattle.gateway_kit.specs.Bounding.{Covers}
use Rattle.gateway_kit.specs.declared.part_item.PartItem.{PartItem}
use Rattle.gateway_kit.proofs.bounds.Bounds.lay.Given as goal

-- the bounds are those of the items before the place
abbrev pub invariant-loop-place : goal.invariant-loop-place
invariant-loop-place l = (i : ℕ) (x : PartItem) → i < l.place → x ≡ get_or l.items i x → Covers l.self i x.number
