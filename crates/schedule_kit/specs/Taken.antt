-- What a gateway took, incarnation by incarnation.
use Rattle.std.specs.Prelude.{ℕ, ◌&&◌, ◌==◌, if◌then◌else◌, nat_lt, suc, List, [], ◌∷◌, Option, None, Some}
use Rattle.std.specs.List.{find, filter_map}
use Rattle.std.specs.Option.{option_map_or}
use Rattle.schedule_kit.specs.Schedule.Act.{Restarted}
use Rattle.schedule_kit.specs.Deeds.{Deed, Made, Holder, made, took, first, entries_at}
use Rattle.schedule_kit.specs.Deeds.Deed.{Wrote}

-- the collection of a number
abbrev pub made_of : {N : Type 0} → List (Made N) → ℕ → Option (Made N)
made_of ms k = find (λ m. m.number == k) ms

-- the collections whose exports a holder took
abbrev pub taken_collections : {N : Type 0} → List ℕ → List (Deed N) → Holder → List (Made N)
taken_collections starts ds h = filter_map (made_of (made starts ds)) (took ds h)

abbrev pub later : {N : Type 0} → Made N → Option (Made N) → Made N
later m None = m
later m (Some n) = if nat_lt m.time n.time then n else m

-- of writer w and its start, the collection of greatest time
abbrev pub newest : {N : Type 0} → List (Made N) → ℕ → ℕ → Option (Made N)
newest [] w start = None
newest (m ∷ ms) w start = if (m.writer == w) && (m.start == start) then Some (later m (newest ms w start)) else newest ms w start

-- how many deeds came before it, or 0
abbrev pub up_to : {N : Type 0} → List (Made N) → ℕ → ℕ → ℕ
up_to ms w start = option_map_or (λ m. m.before) (newest ms w start) 0

-- what an incarnation recorded up to its newest collection that a holder took
abbrev pub recorded_up_to : {N : Type 0} → List ℕ → List (Deed N) → Holder → ℕ × ℕ → List N
recorded_up_to starts ds h i = entries_at starts (first (up_to (taken_collections starts ds h) i.0 i.1) ds) i.0 i.1

-- its entries, or none
abbrev pub entries_taken : {N : Type 0} → List (Made N) → ℕ → ℕ → List N
entries_taken ms w start = option_map_or (λ m. m.entries) (newest ms w start) []

-- writers by their places from k on, with their first starts
abbrev pub incarnations_from : ℕ → List ℕ → List (ℕ × ℕ)
incarnations_from k [] = []
incarnations_from k (x ∷ xs) = (k, x) ∷ incarnations_from (suc k) xs

-- every incarnation of every writer: the first ones, and one for each restart
abbrev pub incarnations : {N : Type 0} → List ℕ → List (Deed N) → List (ℕ × ℕ)
incarnations starts [] = incarnations_from 0 starts
incarnations starts (Wrote w (Restarted start) ∷ ds) = (w, start) ∷ incarnations starts ds
incarnations starts (_ ∷ ds) = incarnations starts ds
