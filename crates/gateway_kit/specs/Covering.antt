-- Numbers that those of the keys of incarnations do not exceed.
use Rattle.std.specs.Prelude.{◌≡◌, ◌<◌, ◌≤◌, ℕ, List, length, slice_index, slice_index_or}
use Rattle.std.specs.FinMap.{entries}
use Rattle.gateway_kit.specs.Keys.{ItemKey, item_cmp}
use Rattle.gateway_kit.specs.Numbers.{number_in}
use Rattle.gateway_kit.specs.IncarnationState.{IncarnationState}

-- no key of an incarnation has a greater number
abbrev pub IsUpTo : ℕ → IncarnationState → Type 0
IsUpTo number p = (q : ItemKey) → number_in item_cmp (entries p.numbers) q ≤ number

-- no key of an incarnation has a greater number than the bound at its place
abbrev pub AreCovered : List ℕ → List IncarnationState → Type 0
AreCovered bounds ps = (i : ℕ) (p : IncarnationState) → i < length ps → p ≡ slice_index_or ps i p → IsUpTo (slice_index bounds i) p
