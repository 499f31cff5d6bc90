-- What all points under one key come to.
use Rattle.std.specs.Prelude.{◌≡◌, ℕ, Bool, if◌then◌else◌, ◌==◌, List, [], ◌∷◌, ◌++◌, map, filter, max, Option, Some, None}
use Rattle.std.specs.List.{list_all}
use Rattle.point_kit.specs.declared.cell.Held.{Held}
use Rattle.point_kit.specs.declared.cell.Held.TheVariants.{One, Conflict}
use Rattle.point_kit.specs.declared.cell.Cell.{Cell}
use Rattle.point_kit.specs.Join.{join_cells, join_options}

-- the greatest time of points, each a time and a payload
abbrev pub greatest_time : {P : Type 0} → List (ℕ × P) → ℕ
greatest_time [] = 0
greatest_time (p ∷ ps) = max p.0 (greatest_time ps)

-- the payloads of the points of one time
abbrev pub payloads_at : {P : Type 0} → ℕ → List (ℕ × P) → List P
payloads_at time ps = map (λ p. p.1) (filter (λ p. p.0 == time) ps)

-- the payload that all of them are, else a conflict
abbrev pub agreement : {P : Type 0} → (P → P → Bool) → List P → Held P
agreement eq [] = Conflict
agreement eq (p ∷ ps) = if list_all (eq p) ps then One p else Conflict

-- none of no points; else the greatest time, with the payload if all points of that time are equal, and a conflict otherwise
abbrev pub best : {P : Type 0} → (P → P → Bool) → List (ℕ × P) → Option (Cell P)
best eq [] = None
best eq (p ∷ ps) =
    let latest = greatest_time (p ∷ ps) in
    Some (record { time = latest; held = agreement eq (payloads_at latest (p ∷ ps)) })

-- the bests of two lists joined are the best of both lists together
abbrev pub JoinsBests : {P : Type 0} → (P → P → Bool) → Type 0
JoinsBests {P} eq = (ps qs : List (ℕ × P)) → best eq (ps ++ qs) ≡ join_options (join_cells eq) (best eq ps) (best eq qs)
