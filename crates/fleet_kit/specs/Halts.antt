-- Why threads of a fleet stop short, and which of several reasons is told.
use Rattle.std.specs.Prelude.{◌≡◌, ◌≢◌, ◌==◌, ◌&&◌, ◌||◌, ℕ, Bool, false, nat_lt, List, [], slice_get, Option, None, Some}
use Rattle.point_kit.specs.declared.export.Export.{Export}
use Rattle.fleet_kit.specs.declared.halt.Halt.{Halt}
use Rattle.fleet_kit.specs.declared.halt.Halt.TheVariants.{GateShut, Refused, NoThread, Missing, NoMemory}

-- where one stands in the order: those of jobs first, by their jobs, then of threads, of gateways by their places, and of memory
abbrev pub rank : Halt → ℕ × ℕ
rank (GateShut job) = (0, job)
rank (Refused job entry) = (0, job)
rank NoThread = (1, 0)
rank (Missing gateway writer) = (2, gateway)
rank NoMemory = (3, 0)

-- one comes before another
abbrev pub is_before : Halt → Halt → Bool
is_before a b = nat_lt (rank a).0 (rank b).0 || ((rank a).0 == (rank b).0 && nat_lt (rank a).1 (rank b).1)

-- the first of those that there were: none of them comes before it
abbrev pub IsFirst : (Halt → Type 0) → Option Halt → Type 0
IsFirst were None = (h : Halt) → were h → ⊥
IsFirst were (Some h) = were h × ((other : Halt) → were other → is_before other h ≡ false)

-- the export at a place has points
abbrev pub HasPoints : List Export → ℕ → Type 0
HasPoints exports writer = (e : Export) × (slice_get exports writer ≡ Some e) × (e.points ≢ [])
