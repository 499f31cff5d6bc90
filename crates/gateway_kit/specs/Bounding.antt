-- Numbers that those of the items at a block of places do not exceed.
use Rattle.std.specs.Prelude.{◌≡◌, ◌<◌, ◌≤◌, ◌/◌, ℕ, List, length, slice_index, slice_index_or}
use Rattle.gateway_kit.specs.declared.bounds.Bounds.{Bounds}
use Rattle.gateway_kit.specs.declared.part_item.PartItem.{PartItem}

-- of bounds for so many places each: where there is one of a place, it is no less than a number
abbrev pub CoversBy : ℕ → List ℕ → ℕ → ℕ → Type 0
CoversBy width bounds place n = place / width < length bounds → n ≤ slice_index bounds (place / width)

-- the bounds that there are of a place are no less than a number
pub record Covers (b : Bounds) (place n : ℕ) : Type 0 where
  pub blocks : CoversBy 16 b.blocks.items place n
  pub spans : CoversBy 512 b.spans.items place n

-- those of each item's place are no less than its number
abbrev pub AreBounds : Bounds → List PartItem → Type 0
AreBounds b items = (i : ℕ) (x : PartItem) → i < length items → x ≡ slice_index_or items i x → Covers b i x.number
