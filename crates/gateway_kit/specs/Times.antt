-- The greatest time of what is held.
use Rattle.std.specs.Prelude.{ℕ, max, List, [], ◌∷◌, map, Option, Some, None, unwrap_or}
use Rattle.point_kit.specs.declared.cell.Cell.{Cell}
use Rattle.point_kit.specs.declared.payload.Payload.{Payload}

-- the greatest of numbers, none where there are none
abbrev pub greatest : List ℕ → Option ℕ
greatest [] = None
greatest (n ∷ ns) = Some (max n (unwrap_or (greatest ns) 0))

-- the greatest time of entries, 0 where there are none
abbrev pub latest : {K : Type 0} → List (K × Cell Payload) → ℕ
latest es = unwrap_or (greatest (map (λ e. e.1.time) es)) 0
