-- Finite maps from keys to cells, and how two of them are joined.
use Rattle.std.specs.Prelude.{◌≡◌, ℕ, Bool, List, ◌++◌, map, filter, Option}
use Rattle.std.specs.List.{filter_map}
use Rattle.std.specs.Option.{option_map}
use Rattle.std.specs.declared.cmp.Ordering.{Ordering}
use Rattle.std.specs.Ordering.{eq_by_cmp}
use Rattle.std.specs.FinMap.{FinMap, get, keys, from_entries}
use Rattle.point_kit.specs.declared.cell.Cell.{Cell}
use Rattle.point_kit.specs.Best.{best}
use Rattle.point_kit.specs.Join.{join_cells, join_options}

-- the map that has at each of these keys what f gives there
abbrev pub tabulate : {K V : Type 0} (R : K → K → Ordering) → List K → (K → Option V) → FinMap R V
tabulate R ks f = from_entries (filter_map (λ k. option_map (λ v. (k, v)) (f k)) ks)

-- two maps joined key by key, none being the least
abbrev pub join_maps : {K V : Type 0} {R : K → K → Ordering} → (V → V → V) → FinMap R V → FinMap R V → FinMap R V
join_maps {R = R} join m n = tabulate R (keys m ++ keys n) (λ k. join_options join (get m k) (get n k))

-- the points under a key
abbrev pub points_under : {K X : Type 0} → (K → K → Ordering) → K → List (K × X) → List X
points_under R key ps = map (λ p. p.1) (filter (λ p. eq_by_cmp R key p.0) ps)

-- each key of the points with the best of all points under it
abbrev pub state_of : {K P : Type 0} (R : K → K → Ordering) → (P → P → Bool) → List (K × (ℕ × P)) → FinMap R (Cell P)
state_of R eq ps = tabulate R (map (λ p. p.0) ps) (λ k. best eq (points_under R k ps))

-- the states of two lists of points joined are the state of both lists together
abbrev pub JoinsStates : {K P : Type 0} (R : K → K → Ordering) → (P → P → Bool) → Type 0
JoinsStates {K} {P} R eq = (ps qs : List (K × (ℕ × P))) → state_of R eq (ps ++ qs) ≡ join_maps (join_cells eq) (state_of R eq ps) (state_of R eq qs)
